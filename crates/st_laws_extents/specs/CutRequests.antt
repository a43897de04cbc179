pub mod Asks
pub mod Cut
pub mod EndedLives
pub mod FreshRequests
pub mod Law
pub mod NamedGrants
pub mod World
