-- What a reader must believe of search: its refusals and demand 3 (Search), what two answers to one call have in common and what a plan's numbers are (Agreed), and what the
-- examples say of it (Examples). Tasks has what its inner functions are given; no public promise rests on it.
pub mod Search
pub mod Agreed
pub mod Examples
pub mod Tasks
