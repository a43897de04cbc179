pub mod Causes
pub mod Dropping
pub mod Grows
