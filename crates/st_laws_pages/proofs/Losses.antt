pub mod Emptied
pub mod Halves
pub mod Law
