pub mod Schedule
pub mod Replay
pub mod Safe
