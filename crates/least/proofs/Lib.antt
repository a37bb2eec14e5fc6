-- The laws of the least credit and the least bound, one idea a file: halving (Halving), levels and the range (Levels), when a call is not refused (Seekable), that
-- rows and groups stand for the model (Standing), what is claimed (Claims), and that it agrees with search and with the decision (Agrees).
pub mod Halving
pub mod Levels
pub mod Seekable
pub mod Standing
pub mod Claims
pub mod Agrees
