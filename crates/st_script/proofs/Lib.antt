pub mod Outcomes
pub mod SourceLines
