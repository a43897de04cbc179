pub mod CarriedContents
pub mod CutFiles
pub mod Events
pub mod Law
pub mod Obligations
pub mod Runs
pub mod OwnEntries
pub mod World
