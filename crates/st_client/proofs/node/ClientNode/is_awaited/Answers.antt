use Rattle.st_lemmas.proofs.Words
use Words.{ap, sym, ◌∙◌}
use Words.Client.{ClientNode}
use Rattle.st_client.proofs.CrashedCounts.{nothing_awaited}
use Rattle.st_client.specs.Counts.{is_awaited_with}
use Rattle.st_client.specs.Nodes.{state_of}
use Rattle.st_client.proofs.node.ClientNode.is_awaited.Goals as goal

pub returns-in-None : goal.returns-in-None
returns-in-None c =
    nothing_awaited c.args.server c.args.ino c.self.inside.servers.items c.self.inside.lives.items
    ∙ ap (λ o. is_awaited_with (state_of c.self.inside.id c.self.inside.config c.self.inside.servers.items c.self.inside.lives.items o) c.args.server c.args.ino) (sym c.in-None.is)
    ∙ ap (λ (n : ClientNode). is_awaited_with n.state c.args.server c.args.ino) c.self.view_is
