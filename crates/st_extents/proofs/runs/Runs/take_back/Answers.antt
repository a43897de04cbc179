use Rattle.std.proofs.Common.{◌≡◌, ◌≤◌, ◌-◌, ◌++◌, ◌∷◌, [], Some, ap, subst, sym, ◌∙◌}
use Rattle.std.specs.Prelude.{find}
use Rattle.std.specs.Option.{IsSomeAnd}
use Rattle.st_rules.specs.declared.extents.Extent.{Extent}
use Rattle.st_rules.specs.Extents.{is_extent_of}
use Rattle.st_extents.specs.Runs.{extent_in, rows_of}
use Rattle.st_extents.proofs.RunsTold.{back_table, never_none}
use Rattle.st_extents.proofs.runs.Runs.take_back.Goals as goal

pub unreachable-requires : goal.unreachable-requires
unreachable-requires c =
    never_none c.self.inside.map.entries c.self.invariant.ordered c.self.inside.births c.self.invariant.kept c.args.file c.args.page (rw (← c.self.view_is) at c.requires)
    (λ j e l s. subst (λ o. IsSomeAnd o (λ e. j.1.0 ≤ e.0.1.0)) c.in_default.is (c.last_up_to.ensures.last j e l s))

pub invariant_of-self : goal.invariant_of-self
invariant_of-self c =
    (back_table c.self.inside.map.entries c.shorten.new.map.entries c.self.inside.births c.self.inside.count c.self.invariant c.args.file c.args.page (rw (← c.self.view_is) at c.requires)
    c.in-Some.key c.in-Some.run' c.in-Some.ensures.found.0 c.in-Some.ensures.found.1 c.in-Some.ensures.found.2 (λ j e l s. c.in-Some.ensures.last j e l s) c.shorten.ensures.ordered c.shorten.ensures.cut).table

pub returns-clause-last : goal.returns-clause-last
returns-clause-last c = λ e h.
    let b = back_table c.self.inside.map.entries c.shorten.new.map.entries c.self.inside.births c.self.inside.count c.self.invariant c.args.file c.args.page (rw (← c.self.view_is) at c.requires)
    c.in-Some.key c.in-Some.run' c.in-Some.ensures.found.0 c.in-Some.ensures.found.1 c.in-Some.ensures.found.2 (λ j e l s. c.in-Some.ensures.last j e l s) c.shorten.ensures.ordered c.shorten.ensures.cut in
    let here : find (is_extent_of c.args.file c.args.page) (rows_of c.self.inside.births c.self.inside.map.entries) ≡ Some e = rw (← c.self.view_is) at h in
    let z : Some (extent_in (c.in-Some.run'.length - 1) (c.in-Some.key, c.in-Some.run')) ≡ Some e = sym b.told ∙ here in
    let w : extent_in (c.in-Some.run'.length - 1) (c.in-Some.key, c.in-Some.run') ≡ e = cc in
    (rw (← c.self.view_is) (b.rows ∙ ap (λ (x : Extent). rows_of (c.self.inside.births - 1) c.shorten.new.map.entries ++ x ∷ []) w), ap (λ (x : Extent). x.at) w)

pub returns-clause-rows : goal.returns-clause-rows
returns-clause-rows c =
    rw (← c.self.view_is)
    (back_table c.self.inside.map.entries c.shorten.new.map.entries c.self.inside.births c.self.inside.count c.self.invariant c.args.file c.args.page (rw (← c.self.view_is) at c.requires)
    c.in-Some.key c.in-Some.run' c.in-Some.ensures.found.0 c.in-Some.ensures.found.1 c.in-Some.ensures.found.2 (λ j e l s. c.in-Some.ensures.last j e l s) c.shorten.ensures.ordered c.shorten.ensures.cut).kept
