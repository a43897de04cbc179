use Rattle.st_lemmas.proofs.Words
use Words.{ap, ◌∙◌}
use Words.refusals
use Words.Admissible.{misses, stands, step_of}
use Rattle.st_world.proofs.missed_flushes.site_missed.Goals as goal

pub returns : goal.returns
returns c =
    let w = c.args.machine.now.world in
    let site = c.args.site.now in
    c.stands.ensures
    ∙ ap (λ b. stands b (refusals.FlushMissed c.args.client c.args.server))
    (c.misses.ensures
    ∙ ap (λ n. misses w c.args.client c.args.server n site c.lease_end-end.result) c.step_of-step.ensures.exact
    ∙ ap (misses w c.args.client c.args.server (step_of c.args.client c.args.steps.now) site) c.lease_end-end.ensures)
