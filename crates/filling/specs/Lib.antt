-- What a reader must believe of lists that are lent to be filled.
pub mod Filling
