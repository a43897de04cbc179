pub mod Reading
pub mod Runs
pub mod ClientRoom
mod Clients
pub mod Room
pub mod Streams
pub mod Turns
pub mod Whole
pub mod Stops
