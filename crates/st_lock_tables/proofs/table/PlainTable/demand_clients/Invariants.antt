use Rattle.std.proofs.Common.{◌≡◌, drop}
use Rattle.st_rules.specs.Locks.{demand_clients}
use Rattle.st_lock_tables.specs.Calls.{demanding}
use Rattle.st_lock_tables.proofs.table.PlainTable.demand_clients.Given as goal

abbrev pub invariant-loop-client : goal.invariant-loop-client
invariant-loop-client l = demand_clients l.pass.config l.pass.now l.pass.tick l.ino l.to (drop l.client-index l.clients) (demanding l.self l.due.items) ≡ demand_clients l.pass.config l.pass.now l.pass.tick l.ino l.to l.clients (demanding l.fn.self l.fn.due.items)
