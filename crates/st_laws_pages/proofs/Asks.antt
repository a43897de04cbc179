pub mod Asks
pub mod Client
pub mod Law
pub mod Places
pub mod Says
pub mod Server
pub mod Step
pub mod World
