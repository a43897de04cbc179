pub mod Exact
pub mod ExactFields
pub mod ExactNames
pub mod Loop
pub mod Rows
