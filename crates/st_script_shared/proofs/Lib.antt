pub mod SharedPlays
pub mod EveryScript
