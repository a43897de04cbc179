use Rattle.st_lemmas.proofs.Words
use Words.{◌≡◌, subst, IfOk}
use Words.Server.{ServerNode}
use Rattle.st_due.specs.Moments.{readable_by}
use Rattle.st_due.specs.ServerDue.{server_due}
use Rattle.st_embed.specs.Servers.{EmbeddedServer}
use Rattle.st_embed.proofs.server.EmbeddedServer.due.Goals as goal

pub returns : goal.returns
returns c =
    subst (λ (e : EmbeddedServer). IfOk c.due.result (λ o. o ≡ readable_by (server_due e.server.node.state))) c.self.view_is
    (subst (λ (n : ServerNode). IfOk c.due.result (λ o. o ≡ readable_by (server_due n.state))) c.node.ensures.node c.due.ensures)
