pub mod Calls
pub mod DemandStarts
pub mod WaitedFiles
pub mod Overdue
