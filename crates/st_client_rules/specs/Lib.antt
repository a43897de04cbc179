pub mod Replies
pub mod CommandEnds
pub mod Inputs
