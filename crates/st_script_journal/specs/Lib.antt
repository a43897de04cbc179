pub mod Stops
pub mod JournalScripts
pub mod JournalRuns
