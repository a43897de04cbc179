use Rattle.st_lemmas.proofs.Words
use Words.Client.{take_ask}
use Rattle.st_client.proofs.Advancing.{advances_to}
use Rattle.st_client.proofs.InputsGrow.{take_ask_grows}
use Rattle.st_client.proofs.rules.TakeAskRule.apply.Goals as goal

pub returns-in_ok-take_ask-clause-advances : goal.returns-in_ok-take_ask-clause-advances
returns-in_ok-take_ask-clause-advances c =
    advances_to (take_ask c.args.self.now.op c.in_ok-copy.field-0) (take_ask_grows c.args.self.now.op c.in_ok-copy.field-0) c.args.turn c.take_ask.new.turn c.in_ok-take_ask.ensures
