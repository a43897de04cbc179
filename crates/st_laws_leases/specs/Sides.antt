pub mod KeptPromises
pub mod Law
pub mod Paths
pub mod Invariants
pub mod World
