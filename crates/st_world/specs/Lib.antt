pub mod Deliveries
pub mod Heads
pub mod ReachedWorlds
pub mod Safe
pub mod Shapes
pub mod Steps
pub mod AdvanceTests
pub mod Counters
