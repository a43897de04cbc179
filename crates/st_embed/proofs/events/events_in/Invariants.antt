use Rattle.std.proofs.Common.{◌≡◌, ◌++◌, drop}
use Rattle.st_embed.specs.Events.{events_in}
use Rattle.st_embed.proofs.events.events_in.Given as goal

abbrev pub invariant-loop-i : goal.invariant-loop-i
invariant-loop-i l = l.told.items ++ events_in (drop l.i l.outputs) ≡ events_in l.outputs
