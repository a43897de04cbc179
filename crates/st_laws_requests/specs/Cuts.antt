pub mod Cuts
pub mod Law
