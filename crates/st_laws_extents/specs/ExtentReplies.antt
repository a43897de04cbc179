pub mod Events
pub mod Law
pub mod Maps
pub mod Steps
pub mod ToldExtents
