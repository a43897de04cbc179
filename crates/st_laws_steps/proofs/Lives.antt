pub mod Associations
