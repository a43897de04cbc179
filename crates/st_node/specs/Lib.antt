pub mod Runs
pub mod Whole
pub mod Service
pub mod Room
