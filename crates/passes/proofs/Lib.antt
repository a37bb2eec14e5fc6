-- The laws of passes, one idea a file; RowsNet says that the rows and groups of a model stand for it, Trying what the code meets at an arc that it
-- tries, Outcomes in the words of nets what a pass leaves.
pub mod RowsNet
pub mod Nodes
pub mod Steps
pub mod Queue
pub mod Places
pub mod Passes
pub mod Trying
pub mod Traces
pub mod Walks
pub mod Outcomes
