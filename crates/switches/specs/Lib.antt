-- What a reader must believe of switches: the words (Switches), and plans of arcs that are on (PlansOn).
pub mod Switches
pub mod PlansOn
