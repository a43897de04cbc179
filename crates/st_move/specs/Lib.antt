pub mod Calls
pub mod Chunks
pub mod Conditions
pub mod Containers
pub mod Law
pub mod Network
pub mod Updates
pub mod World
