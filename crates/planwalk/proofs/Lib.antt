-- Laws of the walk: the gauge's walk is the least meeting step (Steps), what the answers say (Least), where no walk begins or goes on
-- (Refused), and what barred colours do not change (Unbarred). Walking has the steps as the code makes them.
pub mod Steps
pub mod Least
pub mod Refused
pub mod Unbarred
pub mod Walking
