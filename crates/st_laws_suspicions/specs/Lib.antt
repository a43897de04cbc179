pub mod Suspicions
pub mod Prompt
pub mod Open
pub mod Staying
