pub mod Dates
pub mod History
pub mod Order
pub mod Sides
