pub mod Frozen
pub mod PendingEntries
pub mod Runs
