use Rattle.st_lemmas.proofs.Words
use Words.{ap, sym, ◌∙◌}
use Words.Client.{ClientNode, has_dirty_with}
use Rattle.st_client.proofs.Crashing.{nothing_dirty}
use Rattle.st_client.specs.Nodes.{state_of}
use Rattle.st_client.proofs.node.ClientNode.has_dirty.Goals as goal

pub returns-in-None : goal.returns-in-None
returns-in-None c =
    nothing_dirty c.self.inside.id c.self.inside.config c.self.inside.servers.items c.self.inside.lives.items c.args.server
    ∙ ap (λ o. has_dirty_with (state_of c.self.inside.id c.self.inside.config c.self.inside.servers.items c.self.inside.lives.items o) c.args.server) (sym c.in-None.is)
    ∙ ap (λ (n : ClientNode). has_dirty_with n.state c.args.server) c.self.view_is
