pub mod Law
pub mod SubmittedReads
