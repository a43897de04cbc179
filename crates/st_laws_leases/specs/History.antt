pub mod Law
pub mod Notes
pub mod Replies
