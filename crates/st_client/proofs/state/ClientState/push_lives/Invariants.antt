use Rattle.st_lemmas.proofs.Words
use Words.{◌≡◌, ◌+◌, ◌≤◌, ◌++◌, length, map, vec_len, vec_capacity, drop}
use Words.World.{life_of_association, lives_of}
use Rattle.st_client.specs.Machines.{here_of}
use Rattle.st_client.specs.Nodes.{AreGiven}
use Rattle.st_client.proofs.state.ClientState.push_lives.Given as goal

abbrev pub invariant-loop-a : goal.invariant-loop-a
invariant-loop-a l = record {
  told : l.found.items ++ map (life_of_association l.self.config l.self.id) (map here_of (drop l.a-index l.a-items)) ≡ l.fn.found.items ++ lives_of l.self;
  room : vec_len l.found + length (drop l.a-index l.a-items) ≤ vec_capacity l.found;
  given : AreGiven l.self.id l.self.config l.self.next_command (drop l.a-index l.a-items);
}
