pub mod Replied
pub mod Commands
pub mod Lost
pub mod BySession
