use Rattle.st_lemmas.proofs.Words
use Words.{ap, sym, ◌∙◌}
use Words.Client.{ClientNode}
use Rattle.st_client.proofs.CrashedCounts.{nothing_counted}
use Rattle.st_client.specs.Counts.{counts_with}
use Rattle.st_client.specs.Nodes.{state_of}
use Rattle.st_client.proofs.node.ClientNode.counts.Goals as goal

pub returns-in-None : goal.returns-in-None
returns-in-None c =
    c.without.ensures
    ∙ nothing_counted c.args.server c.self.inside.servers.items c.self.inside.lives.items
    ∙ ap (λ o. counts_with (state_of c.self.inside.id c.self.inside.config c.self.inside.servers.items c.self.inside.lives.items o) c.args.server) (sym c.in-None.is)
    ∙ ap (λ (n : ClientNode). counts_with n.state c.args.server) c.self.view_is
