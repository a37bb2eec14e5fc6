-- What a reader must believe of the order of arcs by source, and of their rows: Order, Filled, Rows, Groups. Making has what the inner functions
-- leave, Grouped what a pass asks; no public promise rests on these two.
pub mod Order
pub mod Filled
pub mod Rows
pub mod Groups
pub mod Making
pub mod Grouped
