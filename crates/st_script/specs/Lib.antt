pub mod Scripts
pub mod Ends
pub mod States
pub mod Ahead
