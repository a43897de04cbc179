pub mod Drifts
pub mod Readings
