use Rattle.std.proofs.Common.{◌≡◌, true, false, drop}
use Rattle.std.specs.Prelude.{Some}
use Rattle.st_base.specs.declared.ids.ClientId.{ClientId}
use Rattle.st_rules.specs.declared.locks.LockRow.{LockRow}
use Rattle.st_rules.specs.Locks.{is_among, row_of}
use Rattle.st_locks.specs.SettledFiles.{KeepsAll, is_timed}
use Rattle.st_locks.proofs.demands.time_rows.Given as goal

abbrev pub invariant-loop-client : goal.invariant-loop-client
invariant-loop-client l = record {
  all : KeepsAll l.fn.waking l.waking;
  timed : (c : ClientId) → is_among l.clients c ≡ true → is_among (drop l.client-index l.clients) c ≡ false → (r : LockRow) → row_of l.table c l.ino ≡ Some r → is_timed l.waking l.ino r.demand ≡ true;
}
