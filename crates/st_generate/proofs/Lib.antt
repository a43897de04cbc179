pub mod Sizes
pub mod Drawn
pub mod Choices
mod Runs
mod Full
