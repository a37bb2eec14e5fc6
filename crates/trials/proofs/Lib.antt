-- What the proofs of several functions cite: the first places of a list (Parts).
pub mod Parts
