-- What a reader must believe of the C entries: how an answer is packed in one word (Packing), and what each entry promises (Desk).
pub mod Packing
pub mod Desk
