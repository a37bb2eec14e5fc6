-- Laws of the gauge: what starting and stepping hand back (Gauges), where a step stops (Stops), what 22 does to a step (Matching), how much is
-- lost (Losses), that the gauge follows a walk (Follows), and histories of steps (History).
pub mod Gauges
pub mod Stops
pub mod Matching
pub mod Losses
pub mod Follows
pub mod History
