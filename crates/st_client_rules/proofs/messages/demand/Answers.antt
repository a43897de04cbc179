use Rattle.st_lemmas.proofs.Words
use Words.{◌≡◌, OnOk, subst}
use Words.ClientState.{Turn}
use Rattle.st_client_rules.proofs.Replied.{demand_is}
use Rattle.st_client_rules.proofs.messages.demand.Goals as goal

pub returns : goal.returns
returns c =
    subst (λ (z : Turn). OnOk c.demand_as.result (c.demand_as.new.turn ≡ z))
    (demand_is c.args.turn.now c.demand.new.self c.args.ino c.args.g c.args.to c.in_ok-asked.asked c.demand.ensures.held c.in_ok-asked.ensures.ok c.in_ok-asked.ensures.asked) c.demand_as.ensures
