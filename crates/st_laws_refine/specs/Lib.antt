pub mod Client
pub mod Server
pub mod Views
