pub mod Finishing
pub mod Losing
pub mod Operating
pub mod Receiving
pub mod Requesting
pub mod Walk
