pub mod Indexes
pub mod Orders
pub mod RisingKeys
pub mod Tables
