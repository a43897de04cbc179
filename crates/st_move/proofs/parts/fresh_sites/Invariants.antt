use Rattle.st_lemmas.proofs.Words
use Words.{◌≡◌, ◌++◌, ◌-◌}
use Rattle.st_move.specs.World.{sites_behind}
use Rattle.st_move.proofs.parts.fresh_sites.Given as goal

abbrev pub invariant-loop-place : goal.invariant-loop-place
invariant-loop-place l = l.sites.items ++ sites_behind l.servers l.containers l.place (l.servers - l.place) ≡ sites_behind l.servers l.containers 0 l.servers
