use Rattle.std.proofs.Common.{◌≡◌, ℕ, false, drop}
use Rattle.st_rules.specs.Locks.{demand_files}
use Rattle.st_lock_tables.specs.Calls.{demanding}
use Rattle.st_lock_tables.specs.WaitedFiles.{is_one_of}
use Rattle.st_locks.specs.SettledFiles.{AreTimed}
use Rattle.st_locks.proofs.demands.demand_files.Given as goal

abbrev pub invariant-loop-ino : goal.invariant-loop-ino
invariant-loop-ino l = record {
  same : demand_files l.pass.config l.pass.now l.pass.tick l.suspects (drop l.ino-index l.files) (demanding l.table l.due.items) ≡ demand_files l.pass.config l.pass.now l.pass.tick l.suspects l.files (demanding l.fn.table l.fn.due.items);
  timed : (j : ℕ) → (is_one_of l.files j ≡ false → AreTimed l.fn.waking l.fn.table l.suspects j) → is_one_of (drop l.ino-index l.files) j ≡ false → AreTimed l.waking l.table l.suspects j;
}
