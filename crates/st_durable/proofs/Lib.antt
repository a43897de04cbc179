pub mod StableChanges
pub mod Marks
pub mod ToldChanges
