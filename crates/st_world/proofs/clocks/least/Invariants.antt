use Rattle.st_lemmas.proofs.Words
use Words.{◌≡◌, drop, min}
use Words.Leases.{least_of}
use Rattle.std.specs.Prelude.{fold}
use Rattle.st_world.proofs.clocks.least.Given as goal

abbrev pub invariant-loop-step : goal.invariant-loop-step
invariant-loop-step l = fold min l.fewest (drop l.step-index l.step-items) ≡ least_of l.steps
