-- Models given by weights get from their draws and gains the answers that they get by weights: which models these are (Parts), fitness and walks
-- (Models), the calls (Calls).
pub mod Parts
pub mod Models
pub mod Calls
