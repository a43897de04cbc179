use Rattle.std.proofs.Common.{◌≡◌, map, filter}
use Rattle.std.specs.Prelude.{◌&&◌, ◌==◌}
use Rattle.std.specs.List.{list_any}
use Rattle.st_rules.specs.Keys.{client}
use Rattle.st_rules.specs.Locks.{is_overdue}
use Rattle.st_tables.proofs.RisingKeys.{numbers}
use Rattle.st_lock_tables.proofs.table.PlainTable.unanswered.Given as goal

abbrev pub invariant-loop-i : goal.invariant-loop-i
invariant-loop-i l = l.found.items ≡ map client (filter (λ x. list_any (λ r. is_overdue l.fn.config l.fn.now r && (r.client.0 == x)) l.self.rows) (numbers 1 l.i))
