-- Laws of the table of greatest charges: the peaks of nets are the table (Tables), there is one (Unique), what starting and switching answer after any
-- switchings (Switchings), and by what they are refused, in which order (Order). For the functions: what the inner ones answer (Calls), the words on the
-- stack (Peaks).
pub mod Tables
pub mod Unique
pub mod Switchings
pub mod Order
pub mod Calls
pub mod Peaks
