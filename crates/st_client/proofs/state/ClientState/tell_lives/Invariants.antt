use Rattle.st_lemmas.proofs.Words
use Words.{◌≡◌, ◌+◌, ◌≤◌, ◌++◌, length, map, vec_len, vec_capacity, drop}
use Words.Client.{life_of_association, lives}
use Rattle.st_client.specs.Machines.{here_of}
use Rattle.st_client.proofs.state.ClientState.tell_lives.Given as goal

abbrev pub invariant-loop-a : goal.invariant-loop-a
invariant-loop-a l = record {
  told : l.lives.items ++ map life_of_association (map here_of (drop l.a-index l.a-items)) ≡ lives l.self;
  room : vec_len l.lives + length (drop l.a-index l.a-items) ≤ vec_capacity l.lives;
  same : vec_capacity l.lives ≡ vec_capacity l.fn.lives;
}
