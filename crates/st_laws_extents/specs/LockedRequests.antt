pub mod Keys
pub mod RequestsGoOn
pub mod AllSessions
