pub mod Calm
pub mod Lies
pub mod Rules
pub mod Run
pub mod Step
