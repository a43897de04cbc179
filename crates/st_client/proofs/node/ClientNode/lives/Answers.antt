use Rattle.st_lemmas.proofs.Words
use Words.{ap, ◌∙◌}
use Words.Client.{ClientNode, lives}
use Rattle.st_client.proofs.Crashing.{lives_are}
use Rattle.st_client.proofs.node.ClientNode.lives.Goals as goal

pub returns : goal.returns
returns c =
    c.as_slice.ensures.value
    ∙ lives_are c.self.inside.id c.self.inside.config c.self.inside.servers.items c.self.inside.lives.items c.self.inside.state c.self.invariant.count c.self.invariant.runs
    ∙ ap (λ (n : ClientNode). lives n.state) c.self.view_is
