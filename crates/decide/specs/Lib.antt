-- What a reader must believe of the decision: its refusals and its claim (Decide). Within has what its inner functions are given; no public promise rests on
-- it.
pub mod Decide
pub mod Within
