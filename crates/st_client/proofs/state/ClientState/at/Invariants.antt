use Rattle.st_lemmas.proofs.Words
use Words.{◌≡◌, map, drop, find}
use Words.ClientState.{is_at}
use Rattle.st_client.specs.Machines.{here_of}
use Rattle.st_client.specs.Nodes.{AreGiven}
use Rattle.st_client.proofs.state.ClientState.at.Given as goal

abbrev pub invariant-loop-a : goal.invariant-loop-a
invariant-loop-a l = record {
  found : find (is_at l.server) (map here_of (drop l.a-index l.a-items)) ≡ find (is_at l.server) l.self.associations;
  given : AreGiven l.self.id l.self.config l.self.next_command (drop l.a-index l.a-items);
}
