pub mod Copies
pub mod Law
pub mod Obligations
pub mod World
