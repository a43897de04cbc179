use Rattle.st_lemmas.proofs.Words
use Words.{ap, ◌∙◌}
use Words.Client.{ClientNode}
use Words.World.{life_with}
use Rattle.st_client.proofs.Crashing.{life_is}
use Rattle.st_client.specs.Nodes.{life_in}
use Rattle.st_client.proofs.node.ClientNode.life.Goals as goal

pub returns : goal.returns
returns c =
    c.life_among.ensures
    ∙ ap (λ xs. life_in xs c.as_slice-2.result.now c.args.server) c.as_slice.ensures.value
    ∙ ap (λ xs. life_in c.self.inside.servers.items xs c.args.server) c.as_slice-2.ensures.value
    ∙ life_is c.self.inside.id c.self.inside.config c.self.inside.servers.items c.self.inside.lives.items c.self.inside.state c.args.server c.self.invariant.count c.self.invariant.runs
    ∙ ap (λ (n : ClientNode). life_with n.state c.args.server) c.self.view_is
