-- Laws of wards. What the loop over the wearers comes to: a list filled up to a place (Upto), the answer so far (SoFar). Of the definitions: the
-- first other verdict (Firsts), the model met before any wearer (Unfit), what a call says of each wearer and of all (Wards), which numbers it answers
-- (Numbers), examples (Examples).
pub mod Upto
pub mod SoFar
pub mod Firsts
pub mod Unfit
pub mod Wards
pub mod Numbers
pub mod Examples
