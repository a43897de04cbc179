pub mod Bytes
pub mod Groups
pub mod Held
pub mod Crashes
pub mod Flips
