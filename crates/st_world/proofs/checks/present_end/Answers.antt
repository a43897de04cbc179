use Rattle.st_lemmas.proofs.Words
use Words.{ap, ◌∙◌}
use Words.World.{numbered, present_end}
use Rattle.st_world.proofs.checks.present_end.Goals as goal

pub returns : goal.returns
returns c =
    let w = c.args.machine.now.world in
    c.end_at.ensures w
    ∙ ap (present_end w c.args.server)
    (c.site_at.ensures ∙ ap (λ xs. numbered xs c.args.client.0) c.deref.ensures.value ∙ ap (λ s. numbered s.world.clients c.args.client.0) c.machine.view_is)
