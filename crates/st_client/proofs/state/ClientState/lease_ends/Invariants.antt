use Rattle.st_lemmas.proofs.Words
use Words.{◌≤◌, drop, length}
use Rattle.st_client.proofs.Ending.{AreEnds}
use Rattle.st_client.proofs.state.ClientState.lease_ends.Given as goal

abbrev pub invariant-loop-i : goal.invariant-loop-i
invariant-loop-i l = record {
  ends : AreEnds l.self.config (drop l.i l.self.associations) l.ends;
  most : l.i ≤ length l.self.associations;
}

abbrev pub decreases-loop-i : goal.decreases-loop-i
decreases-loop-i l = l.i
