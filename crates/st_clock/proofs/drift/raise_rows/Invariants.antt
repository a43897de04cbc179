use Rattle.std.proofs.Common.{◌≡◌, ◌++◌, drop, take, length}
use Rattle.st_rules.specs.Leases.{raise_rows}
use Rattle.st_clock.specs.Drifts.{AllLow, IsWide}
use Rattle.st_clock.proofs.drift.raise_rows.Given as goal

abbrev pub invariant-loop-m : goal.invariant-loop-m
invariant-loop-m l = record {
  nodes : length l.rows.items ≡ length l.steps;
  wide : IsWide (length l.steps) (drop l.m l.rows.items);
  low : AllLow (raise_rows l.num l.den l.steps (drop l.m l.steps) (drop l.m l.rows.items));
  so_far : take l.m l.rows.items ++ raise_rows l.num l.den l.steps (drop l.m l.steps) (drop l.m l.rows.items) ≡ raise_rows l.num l.den l.steps l.steps l.fn.rows.items;
}
