pub mod Data
pub mod Folds
pub mod Obligations
pub mod Pages
pub mod Runs
pub mod ToldLog
pub mod World
