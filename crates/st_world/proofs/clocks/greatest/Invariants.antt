use Rattle.st_lemmas.proofs.Words
use Words.{◌≡◌, drop, max}
use Words.Leases.{greatest_of}
use Rattle.std.specs.Prelude.{fold}
use Rattle.st_world.proofs.clocks.greatest.Given as goal

abbrev pub invariant-loop-step : goal.invariant-loop-step
invariant-loop-step l = fold max l.most (drop l.step-index l.step-items) ≡ greatest_of l.steps
