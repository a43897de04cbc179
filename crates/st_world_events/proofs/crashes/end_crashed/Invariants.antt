use Rattle.std.proofs.Common.{◌≡◌, drop}
use Rattle.std.specs.Prelude.{map}
use Rattle.st_rules.specs.Events.{crashed_life}
use Rattle.st_world_events.specs.Crashes.{with_all_ended}
use Rattle.st_world_events.proofs.crashes.end_crashed.Given as goal

abbrev pub invariant-loop-life : goal.invariant-loop-life
invariant-loop-life l = with_all_ended (map crashed_life (drop l.life-index l.ended)) l.lives ≡ with_all_ended (map crashed_life l.ended) l.initial.lives
