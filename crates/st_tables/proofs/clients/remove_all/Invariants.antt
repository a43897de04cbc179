use Rattle.std.proofs.Common.{◌≡◌, drop, filter}
use Rattle.std.specs.Prelude.{not}
use Rattle.st_tables.specs.Indexes.{AreQueued, queue_in}
use Rattle.st_tables.proofs.Indexes.{is_gone}
use Rattle.st_tables.proofs.clients.remove_all.Given as goal

abbrev pub invariant-loop-second : goal.invariant-loop-second
invariant-loop-second g l = record {
  rows : filter (λ v. not (is_gone g.V.Row.key_of l.first (drop l.second-index l.seconds) v)) l.table ≡ filter (λ v. not (is_gone g.V.Row.key_of l.first l.seconds v)) l.fn.table;
  queued : AreQueued g.V.Row.key_of l.table (queue_in l.queues.entries);
}
