use Rattle.std.proofs.Common.{◌≡◌, take}
use Rattle.std.specs.List.{flat_map}
use Rattle.st_client_due.specs.ClientDue.{place_during}
use Rattle.st_client_moments.specs.FirstMoments.{first_readable}
use Rattle.st_client_moments.proofs.writes.places_due.Given as goal

abbrev pub invariant-loop-place : goal.invariant-loop-place
invariant-loop-place l = l.first ≡ first_readable l.from (flat_map (place_during l.t l.session.session) (take l.place-index l.places))
