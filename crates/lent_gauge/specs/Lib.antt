-- What a reader must believe of the lent gauge.
pub mod Moved
