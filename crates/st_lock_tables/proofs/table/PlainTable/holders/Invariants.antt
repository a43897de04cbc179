use Rattle.std.proofs.Common.{◌≡◌, take}
use Rattle.std.specs.Prelude.{filter_map, option_map}
use Rattle.st_rules.specs.Locks.{holder_in_list, row_of}
use Rattle.st_lock_tables.proofs.table.PlainTable.holders.Given as goal

abbrev pub invariant-loop-client : goal.invariant-loop-client
invariant-loop-client l = l.found.items ≡ filter_map (λ c. option_map holder_in_list (row_of l.self c l.ino)) (take l.client-index l.client-items)
