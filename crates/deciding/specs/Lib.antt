-- What the functions are given and promise. No public promise of the planner rests on these words: the decision is promised in those of plans.
pub mod Deciding
