pub mod Answers
pub mod Order
pub mod Restored
pub mod StoredEntries
