use Rattle.std.proofs.Common.{◌≡◌, drop}
use Rattle.st_rules.specs.ClientPasses.{write_each}
use Rattle.st_client_association.specs.Turns.{session_of}
use Rattle.st_client_passes.specs.PassConditions.{SameSession}
use Rattle.st_client_passes.proofs.writes.write_each.Given as goal

abbrev pub invariant-loop-place : goal.invariant-loop-place
invariant-loop-place l = record {
  done : write_each (session_of l.fn.t) l.now l.tick (drop l.place-index l.places) l.t ≡ write_each (session_of l.fn.t) l.now l.tick l.places l.fn.t;
  same : SameSession l.fn.t l.t;
}
