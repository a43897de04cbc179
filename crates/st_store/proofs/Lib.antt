pub mod StoreBytes
pub mod Quiet
pub mod Parts
