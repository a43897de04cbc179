pub mod Numbers
pub mod Parts
pub mod Scans
pub mod Headers
pub mod Marks
pub mod Identities
pub mod MadeFiles
pub mod Moments
