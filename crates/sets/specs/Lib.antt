-- The words of the theory by which all peaks are tested together: greatest charges from many modes, one level after the other (Levels), and sets of
-- peaks (Sets). No public promise rests on these words.
pub mod Levels
pub mod Sets
