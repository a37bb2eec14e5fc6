-- What a reader must believe of judging: its rows in the table's order (Shape, Charges, Colours), the verdict on all inputs and what its
-- yes says (Judged), and the examples (Examples).
pub mod Shape
pub mod Charges
pub mod Colours
pub mod Judged
pub mod Examples
