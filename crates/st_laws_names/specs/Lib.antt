pub mod OutstandingKeys
pub mod Changes
pub mod Keys
pub mod Owners
