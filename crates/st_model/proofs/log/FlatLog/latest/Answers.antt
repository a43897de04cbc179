use Rattle.std.proofs.Common.{◌∙◌, ap}
use Rattle.std.specs.Prelude.{unwrap_or}
use Rattle.st_rules.specs.Events.{latest}
use Rattle.st_model.proofs.log.FlatLog.latest.Goals as goal

pub returns-in-Some : goal.returns-in-Some
returns-in-Some c =
    ap (λ x. unwrap_or x 0) (rw c.client_page.ensures at c.in-Some.ensures.value)
    ∙ c.self.invariant.index c.args.client c.args.file c.args.page
    ∙ ap (λ es. latest es c.args.client c.args.file c.args.page) c.self.view_is

pub returns-in-None : goal.returns-in-None
returns-in-None c =
    ap (λ x. unwrap_or x 0) (rw c.client_page.ensures at c.in-None.ensures.value)
    ∙ c.self.invariant.index c.args.client c.args.file c.args.page
    ∙ ap (λ es. latest es c.args.client c.args.file c.args.page) c.self.view_is
