use Rattle.std.proofs.Common.{◌≡◌, drop}
use Rattle.std.specs.List.{list_any}
use Rattle.st_model.specs.Walks as walks
use Rattle.st_model.proofs.marking.is_spared.Given as goal

abbrev pub invariant-loop-spare : goal.invariant-loop-spare
invariant-loop-spare l = list_any (walks.spares l.number l.of) (drop l.spare-index l.spared) ≡ list_any (walks.spares l.number l.of) l.spared
