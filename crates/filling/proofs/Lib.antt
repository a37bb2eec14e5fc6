-- Laws of lists that are filled. For the code: the references to them (Lent), arcs within the widths of the lists (Widths), arcs written one after the
-- other (Writing). For a caller: what the call answers, what stands in the lists,
-- and that it is the model that was written (Filled).
pub mod Lent
pub mod Widths
pub mod Writing
pub mod Filled
