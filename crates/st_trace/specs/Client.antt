pub mod Commands
pub mod Each
pub mod Losses
pub mod Messages
pub mod Operations
pub mod Passes
pub mod Requests
