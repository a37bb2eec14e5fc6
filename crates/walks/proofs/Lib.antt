-- The laws of walks, one idea a file; Sums and KeptCharge serve the proofs of the code, Cases says that a step falls under exactly one case, Weights that the
-- step with a weight is the step by its move, Accumulated that walks are document 001's feasible runs, Energy that a step is an energy function with the
-- bound added.
pub mod Sums
pub mod Walks
pub mod Cases
pub mod KeptCharge
pub mod Weights
pub mod Accumulated
pub mod Energy
pub mod Charges
pub mod Spill
pub mod ClosedWalk
pub mod Rounds
pub mod Merge
