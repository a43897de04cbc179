use Rattle.st_lemmas.proofs.Words
use Words.{ap, ◌∙◌}
use Words.ClientState.{server_of}
use Words.Keys.{same_server}
use Rattle.st_client.proofs.Sleeping.{idle_ask}
use Rattle.st_client.proofs.rules.TakeAskRule.touches.Goals as goal

pub returns : goal.returns
returns c =
    idle_ask c.args.self.now.op c.args.self.now.ask.now (server_of c.args.self.now.ask.now) _ c.args.a.now c.is_same.result
    (c.is_same.ensures ∙ ap (λ s. same_server s c.server_of.result) c.server.ensures ∙ ap (same_server c.args.a.now.here.server) c.server_of.ensures)
