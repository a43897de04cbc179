pub mod Dates
pub mod Law
