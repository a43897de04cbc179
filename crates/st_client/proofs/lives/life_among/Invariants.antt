use Rattle.st_lemmas.proofs.Words
use Words.{◌≡◌, drop}
use Rattle.st_client.specs.Nodes.{life_in}
use Rattle.st_client.proofs.lives.life_among.Given as goal

abbrev pub invariant-loop-i : goal.invariant-loop-i
invariant-loop-i l = life_in (drop l.i l.servers) (drop l.i l.lives) l.server ≡ life_in l.servers l.lives l.server
