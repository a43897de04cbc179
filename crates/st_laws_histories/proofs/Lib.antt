mod JournalHistories
mod ImageHistories
mod MoveHistories
mod SharedHistories
