pub mod Matching
pub mod FilePages
