use Rattle.std.proofs.Common.{◌≡◌, ◌-◌, ◌++◌, ◌∙◌, OnOk, get_or, ap, subst}
use Rattle.st_rules.specs.Events as events
use Rattle.st_model.proofs.Markings.{harden_marks}
use Rattle.st_model.proofs.log.FlatLog.observe_harden.Goals as goal

pub returns : goal.returns
returns c = subst (λ new. OnOk c.observe.result (c.observe.new.seen.items ≡ c.args.seen.now.items ++ events.fates_from 1 c.args.self.now new))
    (harden_marks c.args.self.now c.args.index c.index.result.now c.index.result.now c.requires.some c.requires.known
    (c.index.ensures ∙ ap (λ es. get_or es (c.args.index - 1) c.index.result.now) c.self.view_is))
    c.observe.ensures
