pub mod TurnInvariants
pub mod Sending
pub mod LostRows
pub mod PagesRead
pub mod Done
pub mod Emptiness
