-- Laws of models and plans, one idea a file; Weights says what lists with weights mean; Places says plans by the places of their arcs; Arcs and Bits
-- serve the proofs of the code too, and Held those of the code above.
pub mod Bits
pub mod Barred
pub mod Required
pub mod Arcs
pub mod Weights
pub mod Fitness
pub mod Held
pub mod SomeArc
pub mod Leads
pub mod Places
pub mod Plans
