-- What the contracts of `st_kept_server` cite.
pub mod Whole
pub mod Next
pub mod Begun
