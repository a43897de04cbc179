pub mod Client
pub mod Losses
pub mod Notes
pub mod Session
pub mod Inputs
