use Rattle.std.proofs.Common.{◌≡◌, ◌+◌, ◌-◌}
use Rattle.std.specs.Prelude.{map}
use Rattle.st_rules.specs.Extents.{numbers}
use Rattle.st_rules.specs.World.{server}
use Rattle.st_world_events.specs.FlushSteps.{flush_each}
use Rattle.st_world_events.proofs.flushes.flush_all.Given as goal

abbrev pub invariant-loop-i : goal.invariant-loop-i
invariant-loop-i l =
    flush_each l.client l.node.state l.clock (map server (numbers (l.i + 1) (l.servers - l.i))) l.flushed.items
    ≡ flush_each l.client l.node.state l.clock (map server (numbers 1 l.servers)) l.initial.flushed.items
