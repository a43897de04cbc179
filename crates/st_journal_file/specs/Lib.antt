-- What the law of `st_journal_file` cites.
pub mod Layout
pub mod Histories
pub mod Flips
