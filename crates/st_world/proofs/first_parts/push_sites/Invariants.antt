use Rattle.st_lemmas.proofs.Words
use Words.{◌≡◌, ◌+◌, ◌-◌, ◌++◌, map}
use Words.Extents.{numbers}
use Words.World.{fresh_site}
use Rattle.st_world.proofs.first_parts.push_sites.Given as goal

abbrev pub invariant-loop-i : goal.invariant-loop-i
invariant-loop-i l =
    l.sites.items ++ map (fresh_site l.config l.counts.servers) (numbers (l.i + 1) (l.counts.clients - l.i))
    ≡ l.initial.sites.items ++ map (fresh_site l.config l.counts.servers) (numbers 1 l.counts.clients)
