-- A level closed: Closed and Stratum. Tables and Loops have what the inner functions leave. No public promise rests on these words: the table of
-- peaks is promised in the words of nets (PeaksFound).
pub mod Closed
pub mod Stratum
pub mod Tables
pub mod Loops
