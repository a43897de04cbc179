pub mod Agreeing
pub mod Events
pub mod Joining
pub mod Listing
pub mod Submitting
pub mod Walking
