pub mod Changing
pub mod Edits
pub mod Growth
pub mod Steps
