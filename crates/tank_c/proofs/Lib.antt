-- What the proofs of `tank_c` share.
pub mod ClientSlots
pub mod ServerSlots
mod Unopened
pub mod Values
