use Rattle.st_lemmas.proofs.Words
use Words.{ap, ◌∙◌, ◌==◌}
use Words.Keys.{server_node}
use Rattle.st_client.proofs.Sleeping.{idle_receive}
use Rattle.st_client.proofs.rules.ReceiveRule.touches.Goals as goal

pub returns : goal.returns
returns c =
    idle_receive c.args.self.now.now c.args.self.now.message.now.header c.args.self.now.message.now.body _ c.args.a.now c.is_from.result
    (c.is_from.ensures ∙ ap (λ s. c.args.self.now.message.now.header.from == server_node s) c.server.ensures)
