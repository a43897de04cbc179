pub mod Lasts
pub mod Ranged
pub mod Walks
pub mod Markings
pub mod Latest
pub mod Placed
pub mod Contents
