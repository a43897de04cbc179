pub mod FreeRuns
pub mod Layout
pub mod Ownership
pub mod Places
pub mod Restored
pub mod Runs
