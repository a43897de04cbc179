pub mod Moves
pub mod Locking
pub mod Sessions
pub mod Server
pub mod Nets
pub mod World
pub mod Law
