pub mod Keys
pub mod Later
pub mod Effects
pub mod Lasts
pub mod Opens
pub mod Stays
pub mod Overs
pub mod Sums
