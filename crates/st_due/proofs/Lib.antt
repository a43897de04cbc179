pub mod EarliestFound
