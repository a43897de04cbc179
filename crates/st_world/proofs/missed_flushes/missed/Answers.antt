use Rattle.st_lemmas.proofs.Words
use Words.{ap, ◌∙◌}
use Words.Admissible.{missed_at}
use Words.World.{numbered}
use Rattle.st_world.proofs.missed_flushes.missed.Goals as goal

pub returns : goal.returns
returns c =
    let w = c.args.machine.now.world in
    c.missed_at.ensures
    ∙ ap (missed_at w c.args.steps.now c.args.client c.args.server)
    (c.site_at.ensures ∙ ap (λ xs. numbered xs c.args.client.0) c.deref.ensures.value ∙ ap (λ s. numbered s.world.clients c.args.client.0) c.machine.view_is)
