-- What the law of `st_kept_histories` cites.
pub mod Kept
pub mod Opened
pub mod Histories
