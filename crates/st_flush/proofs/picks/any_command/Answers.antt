use Rattle.st_lemmas.proofs.Words
use Words.{◌∙◌, ap, is_some}
use Rattle.st_flush.proofs.Picked.{some_found}
use Rattle.st_flush.proofs.picks.any_command.Goals as goal

pub returns : goal.returns
returns g c = c.is_some.ensures ∙ ap is_some c.find_command.ensures ∙ some_found (g.T.Test.passes c.args.test.now) c.args.commands.now
