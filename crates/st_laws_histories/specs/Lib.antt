pub mod JournalHistories
pub mod ImageHistories
pub mod MoveHistories
pub mod SharedHistories
