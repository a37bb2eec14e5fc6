-- The laws of nets, one idea a file; Whole and Short say them of models, in the words of the papers.
pub mod Leads
pub mod Cycles
pub mod Levels
pub mod Tables
pub mod Kept
pub mod Criterion
pub mod Decides
pub mod GraphOf
pub mod Whole
pub mod Pigeonhole
pub mod Short
