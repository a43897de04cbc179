use Rattle.std.proofs.Common.{◌≡◌, drop, length}
use Rattle.st_rules.specs.Leases.{excess_from, raise_rows}
use Rattle.st_clock.specs.Drifts.{IsWide}
use Rattle.st_clock.proofs.drift.first_excess.Given as goal

abbrev pub invariant-loop-row : goal.invariant-loop-row
invariant-loop-row l = record {
  counted : l.m ≡ l.row-index;
  wide : IsWide (length l.steps) (drop l.row-index l.rows);
  so_far : excess_from l.limit l.m (raise_rows l.num l.den l.steps (drop l.m l.steps) (drop l.row-index l.rows)) ≡ excess_from l.limit 0 (raise_rows l.num l.den l.steps l.steps l.rows);
}
