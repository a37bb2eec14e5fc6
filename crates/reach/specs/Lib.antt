-- What a reader must believe of the table of greatest charges: what it is (Table), and what starting it and switching an arc answer (Reach). Words
-- has what an inner function leaves; no public promise rests on it.
pub mod Table
pub mod Reach
pub mod Words
