pub mod Calls
pub mod FlushWrites
