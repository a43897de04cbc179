mod Waits
pub mod Drift
mod Exact
pub mod Rates
mod Runs
