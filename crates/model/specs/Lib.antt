-- What a reader must believe of models and plans.
pub mod Automaton
pub mod Required
pub mod Lists
pub mod Fitness
pub mod Plans
