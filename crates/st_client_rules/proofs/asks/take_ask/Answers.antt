use Rattle.st_lemmas.proofs.Words
use Words.{◌≡◌, OnOk, subst, sym, ◌∙◌}
use Words.ClientState.{Turn}
use Rattle.st_client_rules.proofs.Lost.{sync_is, other_is}
use Rattle.st_client_rules.proofs.asks.take_ask.Goals as goal

pub returns-in-Some : goal.returns-in-Some
returns-in-Some c =
    subst (λ (z : Turn). OnOk c.take_sync.result (c.take_sync.new.turn ≡ z)) (sync_is c.args.turn.now c.args.op c.args.ask c.in-Some.file (sym c.in-Some.is ∙ c.file_synced.ensures)) c.take_sync.ensures

pub returns-in-None : goal.returns-in-None
returns-in-None c =
    subst (λ (z : Turn). OnOk c.enqueue.result (c.enqueue.new.turn ≡ z)) (other_is c.args.turn.now c.args.op c.args.ask (sym c.in-None.is ∙ c.file_synced.ensures)) c.enqueue.ensures
