pub mod Events
pub mod Receiving
pub mod Lengths
pub mod Passing
pub mod Runs
pub mod Serving
pub mod Stepping
