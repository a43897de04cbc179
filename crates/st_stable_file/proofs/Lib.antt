pub mod Spelled
pub mod Applied
pub mod Once
pub mod Records
pub mod Formats
pub mod Opens
