pub mod Words
pub mod Plain
pub mod Reading
pub mod Headers
pub mod Areas
pub mod Files
pub mod Moments
