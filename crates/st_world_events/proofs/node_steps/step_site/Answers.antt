use Rattle.std.proofs.Common.{◌∙◌}
use Rattle.std.proofs.lemmas.Option.{get_or_from_slice_get}
use Rattle.st_world_events.proofs.Takings.{site_steps_at}
use Rattle.st_world_events.proofs.node_steps.step_site.Goals as goal

pub returns-clause-exact : goal.returns-clause-exact
returns-clause-exact c = λ site e.
    site_steps_at c.args.i site c.index_mut-site.result.now c.step.new.self c.args.clients.now.items c.step.result c.args.now c.args.input.now
    (c.index_mut-site.ensures.value ∙ get_or_from_slice_get c.args.clients.now.items c.args.i site c.index_mut-site.result.now e) e c.step.ensures.exact
