-- The definitions by weights, as documents 01 and 001 have them, for the theorems of this crate alone: models, walks and plans (Models), and what
-- each call answers (Calls). Parts of the other crates' definitions that read neither draw nor gain are used as they stand.
pub mod Models
pub mod Calls
