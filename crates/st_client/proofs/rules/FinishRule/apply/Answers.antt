use Rattle.st_lemmas.proofs.Words
use Words.Client.{finish}
use Rattle.st_client.proofs.InputsGrow.{finish_grows}
use Rattle.st_client.proofs.Advancing.{advances_to}
use Rattle.st_client.proofs.rules.FinishRule.apply.Goals as goal

pub returns-clause-advances : goal.returns-clause-advances
returns-clause-advances c = advances_to (finish c.args.self.now.number c.args.self.now.result.now) (finish_grows c.args.self.now.number c.args.self.now.result.now) c.args.turn c.finish.new.t c.in_ok-finish.ensures
