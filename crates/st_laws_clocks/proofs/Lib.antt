pub mod Kept
mod InBound
