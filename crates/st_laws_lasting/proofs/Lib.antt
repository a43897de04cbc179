pub mod Resting
pub mod Young
pub mod Renewed
