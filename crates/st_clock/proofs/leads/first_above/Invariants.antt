use Rattle.std.proofs.Common.{◌≡◌, drop}
use Rattle.st_rules.specs.Leases.{excess_in_row, raise_row}
use Rattle.st_clock.specs.Drifts.{IsLow}
use Rattle.st_clock.proofs.leads.first_above.Given as goal

abbrev pub invariant-loop-e : goal.invariant-loop-e
invariant-loop-e l = record {
  counted : l.n ≡ l.e-index;
  low : IsLow (drop l.e-index l.numbers);
  so_far : excess_in_row l.limit l.m l.n (raise_row l.num l.den l.sm (drop l.n l.steps) (drop l.e-index l.numbers)) ≡ excess_in_row l.limit l.m 0 (raise_row l.num l.den l.sm l.steps l.numbers);
}
