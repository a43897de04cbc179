use Rattle.std.proofs.Common.{◌≡◌, drop}
use Rattle.std.specs.List.{list_any}
use Rattle.st_rules.specs.Admissible.{is_link}
use Rattle.st_world_parts.proofs.cuts.is_cut.Given as goal

abbrev pub invariant-loop-cut : goal.invariant-loop-cut
invariant-loop-cut l = list_any (is_link l.from l.to) (drop l.cut-index l.cuts) ≡ list_any (is_link l.from l.to) l.cuts
