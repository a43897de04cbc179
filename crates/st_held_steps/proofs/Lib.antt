pub mod HeldHistories
pub mod Ready
