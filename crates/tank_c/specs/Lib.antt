-- What the contracts of `tank_c` cite.
pub mod Slots
pub mod Codes
pub mod Calls
pub mod ServerCalls
pub mod FrameCalls
pub mod Events
pub mod Counts
pub mod Due
