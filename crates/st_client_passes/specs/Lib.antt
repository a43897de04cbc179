pub mod Requests
pub mod PassConditions
