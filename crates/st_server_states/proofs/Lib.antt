pub mod NamesKept
pub mod ExtentsKept
pub mod StatesKept
pub mod Formats
