pub mod Stays
pub mod Uncut
