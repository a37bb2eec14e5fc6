-- The laws of a level closed, one idea a file: what closing a level says of nets (Closed), a loop raised to its top (Raised), a word that rises (Lifts), a
-- walk that raises what it meets (Climbs), an arc that is tried (Tries), modes that are due and rounds over them (Dues), the peaks (Peaks).
pub mod Closed
pub mod Raised
pub mod Lifts
pub mod Climbs
pub mod Tries
pub mod Dues
pub mod Peaks
