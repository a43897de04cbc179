use Rattle.st_lemmas.proofs.Words
use Words.{◌≡◌, ◌++◌, drop, take, map}
use Rattle.st_shared.specs.Shared.{stop_member}
use Rattle.st_shared.proofs.members.stop_member.Given as goal

abbrev pub invariant-loop-member : goal.invariant-loop-member
invariant-loop-member l = take l.member-index l.members ++ map (stop_member l.client) (drop l.member-index l.members) ≡ map (stop_member l.client) l.initial.members
