pub mod Clients
pub mod Cuts
pub mod Replies
pub mod Rules
