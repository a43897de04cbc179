use Rattle.st_lemmas.proofs.Words
use Words.{◌≡◌, ◌+◌, ◌-◌, ◌++◌, map}
use Words.Extents.{numbers}
use Words.World.{server_clock}
use Rattle.st_world.proofs.first_parts.push_server_clocks.Given as goal

abbrev pub invariant-loop-i : goal.invariant-loop-i
invariant-loop-i l =
    l.clocks.items ++ map server_clock (numbers (l.i + 1) (l.count - l.i))
    ≡ l.initial.clocks.items ++ map server_clock (numbers 1 l.count)
