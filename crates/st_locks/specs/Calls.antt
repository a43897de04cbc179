-- What the calls of a lock table answer.
pub use Rattle.st_lock_tables.specs.Calls.{Answers, Installs, acquired, demanding, granting, is_lock, is_lock_row, is_old_row, is_row_from, same_file, told}
