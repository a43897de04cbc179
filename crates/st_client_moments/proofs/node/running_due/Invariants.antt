use Rattle.std.proofs.Common.{◌≡◌, take}
use Rattle.std.specs.List.{flat_map}
use Rattle.st_client_due.specs.ClientDue.{during_here}
use Rattle.st_client_moments.specs.FirstMoments.{first_readable}
use Rattle.st_client_moments.proofs.node.running_due.Given as goal

abbrev pub invariant-loop-i : goal.invariant-loop-i
invariant-loop-i l = l.first ≡ first_readable l.from (flat_map (during_here l.state) (take l.i l.state.associations))
