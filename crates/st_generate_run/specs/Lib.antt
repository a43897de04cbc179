pub mod Choice
pub mod Turns
pub mod Pieces
