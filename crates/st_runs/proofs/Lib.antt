pub mod Short
pub mod Ranges
pub mod Heads
pub mod Events
pub mod RunReports
pub mod Known
