use Rattle.std.proofs.Common.{◌≤◌, ◌+◌, ◌-◌, arith, ap, subst, sym, ◌∙◌, filter}
use Rattle.std.specs.Prelude.{not}
use Rattle.std.specs.Option.{IsSomeAnd}
use Rattle.st_base.specs.declared.ids.FileId.{FileId}
use Rattle.st_rules.specs.declared.extents.Extent.{Extent}
use Rattle.st_rules.specs.Keys.{page_no}
use Rattle.st_rules.specs.Extents.{is_extent_of}
use Rattle.st_extents.specs.Runs.{rows_of}
use Rattle.st_extents.proofs.RunsFound.{ends_last, ends_never, last_told, none_behind}
use Rattle.st_extents.proofs.RunsChanged.{popped}
use Rattle.st_extents.proofs.RunsTold.{pop_table}
use Rattle.st_extents.proofs.runs.Runs.pop_from.Goals as goal

pub returns-in_default-clause-none : goal.returns-in_default-clause-none
returns-in_default-clause-none c =
    rw (← c.self.view_is)
    (none_behind c.self.inside.map.entries c.self.invariant.ordered c.self.inside.births c.self.invariant.kept c.args.file c.args.page
    (ends_never c.self.inside.map.entries c.self.invariant.ordered c.self.inside.births c.self.invariant.kept c.args.file c.args.page.0
    (λ j e l s. subst (λ o. IsSomeAnd o (λ e. j.1.0 ≤ e.0.1.0)) c.in_default.is (c.last_up_to.ensures.last j e l s))))

pub returns-then-key-last-clause-none : goal.returns-then-key-last-clause-none
returns-then-key-last-clause-none c =
    let found = c.in-Some.ensures.found in
    let some = c.self.invariant.kept.some c.in-Some.key c.in-Some.run' found.0 in
    rw (← c.self.view_is)
    (none_behind c.self.inside.map.entries c.self.invariant.ordered c.self.inside.births c.self.invariant.kept c.args.file c.args.page
    (ends_last c.self.inside.map.entries c.self.invariant.ordered c.self.inside.births c.self.invariant.kept c.args.file c.args.page.0 c.in-Some.key c.in-Some.run' found.0 found.1
    (λ j e l s. c.in-Some.ensures.last j e l s) (omega (arith, c.if-key-last.true, some))))

pub overflow_sub-self : goal.overflow_sub-self
overflow_sub-self c = (pop_table c.self.inside.map.entries c.shorten.new.map.entries c.self.inside.births c.self.inside.count c.self.invariant c.in-Some.key c.in-Some.run' c.in-Some.ensures.found.0 c.shorten.ensures.ordered c.shorten.ensures.cut).1.0

pub invariant_of-self : goal.invariant_of-self
invariant_of-self c = (pop_table c.self.inside.map.entries c.shorten.new.map.entries c.self.inside.births c.self.inside.count c.self.invariant c.in-Some.key c.in-Some.run' c.in-Some.ensures.found.0 c.shorten.ensures.ordered c.shorten.ensures.cut).0

pub returns-clause-found : goal.returns-clause-found
returns-clause-found c =
    rw (c.extent_in.ensures, ← c.self.view_is)
    (last_told c.self.inside.map.entries c.self.invariant.ordered c.self.inside.births c.self.invariant.kept c.args.file c.in-Some.key c.in-Some.run' c.in-Some.ensures.found.0 c.in-Some.ensures.found.1)

pub returns-clause-rows : goal.returns-clause-rows
returns-clause-rows c =
    rw (← c.self.view_is)
    (popped c.self.inside.map.entries c.self.invariant.ordered c.self.inside.births c.self.invariant.kept c.in-Some.key c.in-Some.run' c.in-Some.ensures.found.0
    c.shorten.new.map.entries c.shorten.ensures.ordered c.shorten.ensures.cut
    ∙ ap (λ (f : FileId). filter (λ x. not (is_extent_of f (page_no (c.in-Some.key.1.0 + (c.in-Some.run'.length - 1))) x)) (rows_of c.self.inside.births c.self.inside.map.entries)) c.in-Some.ensures.found.1
    ∙ ap (λ (e : Extent). filter (λ x. not (is_extent_of c.args.file e.page x)) (rows_of c.self.inside.births c.self.inside.map.entries)) (sym c.extent_in.ensures))

pub returns-clause-fewer : goal.returns-clause-fewer
returns-clause-fewer c =
    rw (← c.self.view_is)
    (pop_table c.self.inside.map.entries c.shorten.new.map.entries c.self.inside.births c.self.inside.count c.self.invariant c.in-Some.key c.in-Some.run' c.in-Some.ensures.found.0 c.shorten.ensures.ordered c.shorten.ensures.cut).1.1
