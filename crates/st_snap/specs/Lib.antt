pub mod Changes
pub mod Images
pub mod Slots
pub mod Versions
pub mod Volumes
