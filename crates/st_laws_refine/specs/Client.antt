pub mod Law
pub mod Invariants
pub mod World
