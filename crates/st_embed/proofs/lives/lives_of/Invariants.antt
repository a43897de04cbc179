use Rattle.st_lemmas.proofs.Words
use Words.{◌≡◌, ◌++◌, drop, map}
use Rattle.st_embed.specs.Clients.{life}
use Rattle.st_embed.proofs.lives.lives_of.Given as goal

abbrev pub invariant-loop-i : goal.invariant-loop-i
invariant-loop-i l = l.lives.items ++ map life (drop l.i l.numbers) ≡ map life l.numbers
