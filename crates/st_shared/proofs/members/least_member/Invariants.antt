use Rattle.st_lemmas.proofs.Words
use Words.{◌≡◌, ◌≤◌, drop, length}
use Rattle.st_shared.specs.Shared.{least_member}
use Rattle.st_shared.proofs.members.least_member.Given as goal

abbrev pub invariant-loop-left : goal.invariant-loop-left
invariant-loop-left l = record { within : l.left ≤ length l.members; least : l.least ≡ least_member (drop l.left l.members) }

abbrev pub decreases-loop-left : goal.decreases-loop-left
decreases-loop-left l = l.left
