pub mod Files
pub mod Changed
pub mod Beside
pub mod Kept
pub mod Opened
