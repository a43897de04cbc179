pub mod JournalTexts
pub mod JournalBytes
pub mod JournalRuns
pub mod JournalChanges
pub mod JournalStarved
pub mod JournalEnds
