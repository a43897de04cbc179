use Rattle.st_lemmas.proofs.Words
use Words.{◌≡◌, ◌+◌, ◌≤◌, ◌++◌, drop, length, vec_len, vec_capacity}
use Rattle.st_client.specs.Nodes.{crashed_lives}
use Rattle.st_client.proofs.lives.push_crashed.Given as goal

abbrev pub invariant-loop-i : goal.invariant-loop-i
invariant-loop-i l = record {
  is : l.found.items ++ crashed_lives l.client (drop l.i l.servers) (drop l.i l.lives) ≡ l.fn.found.items ++ crashed_lives l.client l.servers l.lives;
  room : vec_len l.found + length l.servers ≤ vec_capacity l.found + l.i;
}
