mod Prefixed
mod Statuses
mod Made
mod Played
mod TwoWords
mod Explained
pub mod NodeTold
