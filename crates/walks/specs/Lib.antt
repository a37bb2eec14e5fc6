-- What a reader must believe of the charge: the bounded step, its cases and walks of moves (BoundedStep, Cases, Walk), what they lose (Spill), what a
-- weight means and the step with it (Weights), document 001's accumulated weights (Accumulated), energy functions (Energy), and the words of the theory
-- (Moves).
pub mod BoundedStep
pub mod Cases
pub mod Walk
pub mod Spill
pub mod Weights
pub mod Accumulated
pub mod Energy
pub mod Moves
