-- Laws of the C entries: no detail is large (Details), each part of an answer is within its bits (Sizes), the word gives the parts back (Unpacked), and
-- a struct that is told field by field (Told). Caller says what a C caller learns.
pub mod Details
pub mod Sizes
pub mod Unpacked
pub mod Told
pub mod Caller
