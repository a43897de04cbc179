pub mod Turns
pub mod Associations
pub mod Activity
pub mod Counts
pub mod AwaitedGrants
pub mod Syncs
