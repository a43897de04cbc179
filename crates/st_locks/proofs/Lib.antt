pub mod SettledFiles
pub mod Demanded
pub mod UntouchedFiles
pub mod Walks
pub mod Moments
