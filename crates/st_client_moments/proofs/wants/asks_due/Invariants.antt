use Rattle.std.proofs.Common.{◌≡◌, take}
use Rattle.std.specs.List.{flat_map}
use Rattle.st_client_due.specs.ClientDue.{asked_during}
use Rattle.st_client_moments.specs.FirstMoments.{first_readable}
use Rattle.st_client_moments.proofs.wants.asks_due.Given as goal

abbrev pub invariant-loop-i : goal.invariant-loop-i
invariant-loop-i l = l.first ≡ first_readable l.from (flat_map (asked_during l.t l.session.session) (take l.i l.t.operations))
