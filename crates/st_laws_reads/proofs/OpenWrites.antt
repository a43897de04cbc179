pub mod Alone
pub mod Cases
pub mod Falling
pub mod Growing
pub mod Lasting
pub mod Locked
pub mod Still
pub mod Tracked
