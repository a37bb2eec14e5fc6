-- The laws of search, one idea a file: the pass for the prefix (Prefix), the passes of a task (Tasks), what the buffers hold (Spaces), the plan that is written (Written), the set
-- of peaks that the decision leaves, and the first of them that a cycle keeps (Peaks), the rows and groups that stand for a model (Standing), where none of
-- 1 to 9 applies (Searchable), calls for which the same plans serve (Alike). Demand3 says what a caller learns, in the numbers that are answered too,
-- FoundPlan what the plan that is handed back says, Agreed what any two answers to a call have in common, Switched what the switches do, Barred what the
-- byte of barred colours changes and what not, Examples what search answers to the examples.
pub mod Prefix
pub mod Tasks
pub mod Spaces
pub mod Written
pub mod Peaks
pub mod Standing
pub mod Searchable
pub mod Alike
pub mod Demand3
pub mod FoundPlan
pub mod Agreed
pub mod Switched
pub mod Barred
pub mod Examples
