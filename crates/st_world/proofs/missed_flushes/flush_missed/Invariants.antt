use Rattle.st_lemmas.proofs.Words
use Words.{◌≡◌, ◌+◌, ◌-◌, map}
use Words.Admissible.{flush_missed}
use Words.Extents.{numbers}
use Words.Keys.{client}
use Words.World.{all_clients}
use Rattle.st_world.proofs.missed_flushes.flush_missed.Given as goal

abbrev pub invariant-loop-i : goal.invariant-loop-i
invariant-loop-i l =
    flush_missed l.machine.world l.steps (map client (numbers (l.i + 1) (l.clients - l.i)))
    ≡ flush_missed l.machine.world l.steps (all_clients l.machine.world)
