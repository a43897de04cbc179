use Rattle.st_lemmas.proofs.Words
use Words.{subst}
use Rattle.st_world.specs.Safe.{IsLedSafely}
use Rattle.st_world.proofs.SafeRuns.{led_safely}
use Rattle.st_world.proofs.parts.WorldParts.runs_here_are_safe.Goals as goal

pub returns : goal.returns
returns c = subst IsLedSafely c.self.view_is (led_safely c.every_run_is_safe.ensures c.self.inside.machine.world c.self.invariant.0.reached)
