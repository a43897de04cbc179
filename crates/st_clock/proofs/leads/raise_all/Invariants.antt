use Rattle.std.proofs.Common.{◌≡◌, ◌++◌, drop, take, length}
use Rattle.st_rules.specs.Leases.{raise_row}
use Rattle.st_clock.specs.Drifts.{IsLow}
use Rattle.st_clock.proofs.leads.raise_all.Given as goal

abbrev pub invariant-loop-n : goal.invariant-loop-n
invariant-loop-n l = record {
  whole : length l.numbers.items ≡ length l.steps;
  low : IsLow (drop l.n l.numbers.items);
  so_far : take l.n l.numbers.items ++ raise_row l.num l.den l.sm (drop l.n l.steps) (drop l.n l.numbers.items) ≡ raise_row l.num l.den l.sm l.steps l.fn.numbers.items;
}
