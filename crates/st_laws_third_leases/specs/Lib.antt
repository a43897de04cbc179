pub mod Healthy
pub mod Staying
pub mod Young
