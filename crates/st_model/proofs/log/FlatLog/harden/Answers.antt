use Rattle.std.proofs.Common.{◌-◌, ◌∙◌, get_or, ap}
use Rattle.st_model.proofs.Markings.{harden_marks}
use Rattle.st_model.proofs.log.FlatLog.harden.Goals as goal

pub returns : goal.returns
returns c = c.mark.ensures ∙ harden_marks c.args.self.now c.args.index c.index.result.now c.index.result.now c.requires.some c.requires.known
    (c.index.ensures ∙ ap (λ es. get_or es (c.args.index - 1) c.index.result.now) c.self.view_is)
