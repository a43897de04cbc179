-- What the contracts of `st_new_file` cite.
pub mod NewFile
