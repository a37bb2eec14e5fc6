-- Laws of the order by source and of the rows, one idea a file; Making and Placing serve the proofs of the code, and Grouping says the laws
-- in the words of document 02.
pub mod Tallies
pub mod Orders
pub mod Filled
pub mod Bytes
pub mod Making
pub mod Placing
pub mod Rows
pub mod Compressing
pub mod Grouping
