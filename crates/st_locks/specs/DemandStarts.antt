-- Since when a row waits for an answer.
pub use Rattle.st_lock_tables.specs.DemandStarts.{IsClient, is_since, since_of, wait_order}
