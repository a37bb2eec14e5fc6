-- The words of the theory by which search is proved: the graph, the net over it and its lassos, tables of greatest charges, the net of a model.
-- No public promise rests on these words.
pub mod Graph
pub mod Net
pub mod Table
pub mod Whole
