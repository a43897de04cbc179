pub mod Lasting
pub mod Ended
pub mod Again
