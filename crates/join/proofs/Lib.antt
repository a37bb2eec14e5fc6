-- The laws of the join, one idea a file. Which pairs of arcs there are (Pairs), joined modes and colours (Modes, Colours), that the joined model is fit
-- (Fits), and that it has a plan exactly where the two have plans that serve together (Together). For the code: rows, the two passes over them, the
-- verdicts and what is answered (Rows, Counting, Writing, Verdicts, Answers). For a caller: ListsJoined.
pub mod Every
pub mod Pairs
pub mod Modes
pub mod Colours
pub mod Fits
pub mod Together
pub mod Rows
pub mod Counting
pub mod Writing
pub mod Verdicts
pub mod Answers
pub mod ListsJoined
