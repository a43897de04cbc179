pub mod Rows
pub mod Shared
pub mod Calls
pub mod History
pub mod Reports
