-- Laws of the lent gauge: a refusal leaves it (Refused).
pub mod Refused
