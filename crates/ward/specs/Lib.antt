-- What a reader must believe of a ward (Ward), and words of its code (Turns).
pub mod Ward
pub mod Turns
