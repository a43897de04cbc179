use Rattle.std.proofs.Common.{◌≡◌, take}
use Rattle.std.specs.Prelude.{filter}
use Rattle.st_rules.specs.ClientState.{is_sent}
use Rattle.st_operations.proofs.operations.Operations.copy_sent.Given as goal

abbrev pub invariant-loop-i : goal.invariant-loop-i
invariant-loop-i l = l.found ≡ filter is_sent (take l.i l.self)
