pub mod Full
pub mod Opened
pub mod Stages
pub mod Steps
