-- What a reader must believe of the walk.
pub mod Walked
