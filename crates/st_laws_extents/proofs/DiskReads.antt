pub mod Client
pub mod Contents
pub mod Ending
pub mod Others
pub mod Rules
pub mod Run
pub mod Step
