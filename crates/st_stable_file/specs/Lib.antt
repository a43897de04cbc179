pub mod Stables
pub mod Opened
pub mod Formats
pub mod OpenedFile
