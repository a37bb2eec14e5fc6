-- What a reader must believe of a join: the joined model (Joined), what the call answers and leaves in the lent lists (Joining), and knee and habit
-- walked together (Together). Within is what the functions within promise each other.
pub mod Joined
pub mod Joining
pub mod Together
pub mod Within
