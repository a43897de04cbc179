pub mod Acceptance
pub mod Periods
