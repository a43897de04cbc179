use Rattle.std.proofs.Common.{◌≡◌, ◌++◌, drop}
use Rattle.st_rules.specs.Events.{present_lives}
use Rattle.st_world_events.proofs.advances.push_present.Given as goal

abbrev pub invariant-loop-site : goal.invariant-loop-site
invariant-loop-site l = l.found.items ++ present_lives (drop l.site-index l.clients) ≡ l.initial.found.items ++ present_lives l.clients
