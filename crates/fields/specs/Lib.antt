-- What a reader must believe of words, plain numbers, pieces and lines.
pub mod Bytes
pub mod Fields
