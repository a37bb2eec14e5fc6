-- What a reader must believe of the least credit and the least bound: their refusals and their claim (Least). Within has what the inner functions are given;
-- no public promise rests on it.
pub mod Least
pub mod Within
