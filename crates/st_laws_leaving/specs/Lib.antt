pub mod Serving
pub mod Going
pub mod Quiet
pub mod Leavers
