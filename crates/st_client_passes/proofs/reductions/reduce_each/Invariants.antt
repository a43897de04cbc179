use Rattle.std.proofs.Common.{◌≡◌, drop}
use Rattle.st_rules.specs.ClientPasses.{reduce_each}
use Rattle.st_client_passes.proofs.reductions.reduce_each.Given as goal

abbrev pub invariant-loop-ino : goal.invariant-loop-ino
invariant-loop-ino l = reduce_each (drop l.ino-index l.files) l.t ≡ reduce_each l.files l.fn.t
