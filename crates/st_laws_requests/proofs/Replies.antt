pub mod Asking
pub mod EachEvent
pub mod Last
pub mod Replies
pub mod Served
