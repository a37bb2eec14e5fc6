-- Laws of verdicts (Verdicts), of the numbers of the table (Numbers), of the tests they are made of (Tests), of scans for the first place that is
-- refused (Scan), and of every verdict that a check can answer (Each).
pub mod Verdicts
pub mod Numbers
pub mod Tests
pub mod Scan
pub mod Each
