pub mod Keys
pub mod Law
pub mod Seen
pub mod Step
pub mod Taking
pub mod Walking
pub mod World
