pub mod Obligations
pub mod WritePlaces
pub mod Rest
pub mod Submits
