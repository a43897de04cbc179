pub mod Standings
pub mod ServerLease
