pub mod Served
pub mod ServerEvents
pub mod Causes
pub mod MessageNumbers
pub mod Clocks
pub mod Trips
pub mod Prompt
pub mod Open
mod GrantNumbers
mod Askers
mod NodeSteps
mod Senders
mod Between
pub mod Staying
