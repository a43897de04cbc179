pub mod Law
pub mod OutstandingReads
pub mod Reads
