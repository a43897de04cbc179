pub mod Words
pub mod Telling
pub mod Owing
pub mod Losses
pub mod Numbering
