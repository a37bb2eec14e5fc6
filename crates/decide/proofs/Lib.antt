-- The laws of the decision, one idea a file: when it is not refused (Decidable), that rows and groups stand for the model (Standing), what it claims (Claims), and that
-- it agrees with search (Agrees).
pub mod Decidable
pub mod Standing
pub mod Claims
pub mod Agrees
