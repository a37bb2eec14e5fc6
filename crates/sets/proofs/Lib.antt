-- The laws of sets of peaks, one idea a file: a table one level after the other (Levels), nets without duties (Counted), walks from member to member
-- that come round (Hops), what a set decides (Sets).
pub mod Levels
pub mod Counted
pub mod Hops
pub mod Sets
