pub mod Calls
pub mod DemandStarts
pub mod SettledFiles
