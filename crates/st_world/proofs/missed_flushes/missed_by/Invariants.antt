use Rattle.st_lemmas.proofs.Words
use Words.{◌≡◌, ◌+◌, ◌-◌, map}
use Words.Admissible.{missed_by}
use Words.Extents.{numbers}
use Words.World.{all_servers, server}
use Rattle.st_world.proofs.missed_flushes.missed_by.Given as goal

abbrev pub invariant-loop-i : goal.invariant-loop-i
invariant-loop-i l =
    missed_by l.machine.world l.steps l.client (map server (numbers (l.i + 1) (l.servers - l.i)))
    ≡ missed_by l.machine.world l.steps l.client (all_servers l.machine.world)
