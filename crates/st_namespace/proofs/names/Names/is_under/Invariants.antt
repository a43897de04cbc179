use Rattle.std.proofs.Common.{◌≡◌, ◌-◌, length}
use Rattle.st_rules.specs.Names.{is_under_in, is_under}
use Rattle.st_namespace.proofs.names.Names.is_under.Given as goal

abbrev pub invariant-loop-step : goal.invariant-loop-step
invariant-loop-step l = is_under_in l.self l.top (length l.self.entries - l._step) l.at ≡ is_under l.self l.top l.dir
