-- The laws of the decision, one idea a file: words on the stack (Words), a set that is sifted (Sifts), the levels one after the other (Tours), the set that is
-- left (Kept), duties that no arc can meet (Missing).
pub mod Words
pub mod Sifts
pub mod Tours
pub mod Kept
pub mod Missing
