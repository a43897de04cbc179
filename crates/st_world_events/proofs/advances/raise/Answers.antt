use Rattle.std.proofs.Common.{◌≡◌, ℕ, List, ap, ◌∙◌, Result, Ok, Err}
use Rattle.st_clock.specs.Drifts.{after_step}
use Rattle.st_rules.specs.declared.lease.Excess.{Excess}
use Rattle.st_rules.specs.Leases.{drift_after, drift_judged, drift_step}
use Rattle.st_world_events.proofs.advances.raise.Goals as goal

accepted : (result : Result Unit Excess) (new x : List (List ℕ)) → after_step result new ≡ Ok x → new ≡ x
accepted (Ok u) new x h = cc
accepted (Err e) new x h = absurd (cc)

pub returns : goal.returns
unfolding drift_step drift_judged
returns c =
    let after = drift_after c.args.drift.now c.args.steps.now c.args.config.now.num c.args.config.now.den in
    accepted c.step-judged.result c.step-judged.new.self after (c.step-judged.ensures.exact ∙ ap (drift_judged after) c.requires.accepted)
