use Rattle.st_lemmas.proofs.Words
use Words.{ap, sym, ◌∙◌}
use Words.Client.{ClientNode, phase_with}
use Rattle.st_client.proofs.Crashing.{no_phase}
use Rattle.st_client.specs.Nodes.{state_of}
use Rattle.st_client.proofs.node.ClientNode.phase.Goals as goal

pub returns-in-None : goal.returns-in-None
returns-in-None c =
    no_phase c.self.inside.id c.self.inside.config c.self.inside.servers.items c.self.inside.lives.items c.args.server c.args.now
    ∙ ap (λ o. phase_with (state_of c.self.inside.id c.self.inside.config c.self.inside.servers.items c.self.inside.lives.items o) c.args.server c.args.now) (sym c.in-None.is)
    ∙ ap (λ (n : ClientNode). phase_with n.state c.args.server c.args.now) c.self.view_is
