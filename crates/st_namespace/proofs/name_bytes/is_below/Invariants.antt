use Rattle.std.proofs.Common.{◌≡◌, ◌≤◌, drop, length}
use Rattle.st_rules.specs.Names.{name_below}
use Rattle.st_namespace.proofs.name_bytes.is_below.Given as goal

abbrev pub invariant-loop-place : goal.invariant-loop-place
invariant-loop-place l = record {
  rest : name_below (drop l.place l.a) (drop l.place l.b) ≡ name_below l.a l.b;
  within : l.place ≤ length l.a;
}
