pub mod Counters
pub mod FewMessages
pub mod Generated
