-- Laws of judging, row by row in the table's order (Leads, Shapes, Runs, Colours); what its yes says (Judged); the details of its refusals
-- and which row comes first (Firsts, Details); what holds of every verdict on a plan (Each); when no plan exists (NoPlan) and the examples
-- (Examples). Arcs, Scans, Paths, Masks and Answers serve the proofs of the code.
pub mod Firsts
pub mod Leads
pub mod Shapes
pub mod Runs
pub mod Colours
pub mod Judged
pub mod Details
pub mod Each
pub mod NoPlan
pub mod Examples
pub mod Arcs
pub mod Scans
pub mod Paths
pub mod Masks
pub mod Answers
