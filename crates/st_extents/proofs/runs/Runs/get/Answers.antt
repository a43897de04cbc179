use Rattle.std.proofs.Common.{◌≤◌, Some, arith, ap, subst, sym, ◌∙◌}
use Rattle.std.specs.Option.{IsSomeAnd}
use Rattle.st_extents.proofs.RunOrder.{in_page}
use Rattle.st_extents.proofs.RunsFound.{before_free, behind_free, page_free, page_told}
use Rattle.st_extents.proofs.runs.Runs.get.Goals as goal

pub returns-in_default : goal.returns-in_default
returns-in_default c =
    rw (← c.self.view_is)
    (sym (page_free c.self.inside.map.entries c.self.invariant.ordered c.self.inside.births c.self.invariant.kept c.args.file c.args.page
    (before_free c.self.inside.map.entries c.self.invariant.ordered c.self.inside.births c.self.invariant.kept c.args.file c.args.page
    (λ j e l s. subst (λ o. IsSomeAnd o (λ e. j.1.0 ≤ e.0.1.0)) c.in_default.is (c.last_up_to.ensures.last j e l s)))))

pub returns-then-page-key : goal.returns-then-page-key
returns-then-page-key c =
    let found = c.in-Some.ensures.found in
    rw (← c.self.view_is)
    (ap Some c.extent_in.ensures
    ∙ sym (page_told c.self.inside.map.entries c.self.invariant.ordered c.self.inside.births c.self.invariant.kept c.args.file c.args.page c.in-Some.key c.in-Some.run' found.0
    (in_page c.args.file c.args.page (c.in-Some.key, c.in-Some.run') found.1 found.2 (omega (arith, c.if-page-key.true, found.2)))))

pub returns-else-page-key : goal.returns-else-page-key
returns-else-page-key c =
    let found = c.in-Some.ensures.found in
    rw (← c.self.view_is)
    (sym (page_free c.self.inside.map.entries c.self.invariant.ordered c.self.inside.births c.self.invariant.kept c.args.file c.args.page
    (behind_free c.self.inside.map.entries c.self.invariant.ordered c.self.inside.births c.self.invariant.kept c.args.file c.args.page c.in-Some.key c.in-Some.run' found.0 found.1 found.2
    (λ j e l s. c.in-Some.ensures.last j e l s) (omega (arith, c.if-page-key.false, found.2)))))
