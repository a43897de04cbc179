use Rattle.std.proofs.Common.{◌∙◌}
use Rattle.std.proofs.lemmas.Option.{get_or_from_slice_get}
use Rattle.st_world_events.proofs.Takings.{node_steps_at}
use Rattle.st_world_events.proofs.node_steps.step_node.Goals as goal

pub returns-clause-exact : goal.returns-clause-exact
returns-clause-exact c = λ node e.
    node_steps_at c.args.i node c.index_mut-node.result.now c.step.new.self c.args.servers.now.items c.step.result c.args.now c.args.input
    (c.index_mut-node.ensures.value ∙ get_or_from_slice_get c.args.servers.now.items c.args.i node c.index_mut-node.result.now e) e c.step.ensures.exact
