pub mod Once
pub mod Tables
pub mod CacheInvariants
pub mod Emptiness
