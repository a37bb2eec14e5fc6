-- What a reader must believe of refusals: the table of numbers and details.
pub mod Refusals
