pub mod Steps
pub mod Owing
