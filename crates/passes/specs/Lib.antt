-- What the contracts of the pass and of search's inner functions say: the net of rows, the pass, its queue, the arcs read back, what the passes
-- of a search come to, and what the functions of a pass are given (Tasks). No public promise rests on these words.
pub mod RowsNet
pub mod Pass
pub mod Queue
pub mod Trace
pub mod Outcome
pub mod Tasks
