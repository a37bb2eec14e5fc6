-- Laws of the ceilings.
pub mod Widths
pub mod Spaces
