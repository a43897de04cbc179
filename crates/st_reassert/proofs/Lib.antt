pub mod OwnRows
pub mod NewGrants
