pub mod Growing
pub mod Counting
pub mod Log
pub mod Law
pub mod Walking
pub mod Answering
pub mod Faults
pub mod Held
