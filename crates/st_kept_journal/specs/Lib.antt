pub mod Keeping
pub mod Driven
