pub mod Begun
pub mod Picked
pub mod Batch
pub mod Places
