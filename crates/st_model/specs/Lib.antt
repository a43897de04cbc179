pub mod LogInvariants
pub mod LastEntries
pub mod PagePlaces
pub mod Walks
pub mod LogParts
