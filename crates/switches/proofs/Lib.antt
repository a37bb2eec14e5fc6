-- Laws of the switches. One bit of a word set or cleared, as the code does it and by its bits (Turned); arcs switched on and off (Switched); which
-- bit is an arc's, and the words together (Words). Plans of arcs that are on (PlansOn).
pub mod Turned
pub mod Switched
pub mod Words
pub mod PlansOn
