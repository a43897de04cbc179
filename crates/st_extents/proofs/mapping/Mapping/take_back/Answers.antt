use Rattle.std.proofs.Common.{◌≡◌, subst, sym, ◌∙◌}
use Rattle.std.specs.Option.{IsSomeAnd}
use Rattle.st_rules.specs.declared.extents.Extent.{Extent}
use Rattle.st_extents.proofs.TakenBack.{newest_found, same_front}
use Rattle.st_extents.proofs.LaidPages.{found_among, laid_drop}
use Rattle.st_extents.proofs.mapping.Mapping.take_back.Goals as goal

pub take_back-at-requires : goal.take_back-at-requires
take_back-at-requires c =
    let n = newest_found c.args.file c.args.page c.self.inside.runs.births c.self.inside.runs.rows c.self.invariant.pages (rw (← c.self.view_is) at c.requires) in
    subst (λ o. IsSomeAnd o (λ (e : Extent). e.birth ≡ c.self.inside.runs.births)) (sym n.1.0) n.1.1

pub place_of-place-requires-clause-among : goal.place_of-place-requires-clause-among
place_of-place-requires-clause-among c =
    let n = newest_found c.args.file c.args.page c.self.inside.runs.births c.self.inside.runs.rows c.self.invariant.pages (rw (← c.self.view_is) at c.requires) in
    rw (c.as_slice.ensures.value, (c.take_back-at.ensures.last n.0 n.1.0).1)
    (found_among c.self.inside.own.items c.self.inside.taken c.self.inside.runs.rows c.self.invariant c.args.file c.args.page n.0 n.1.0)

pub invariant_of-self : goal.invariant_of-self
invariant_of-self c =
    let n = newest_found c.args.file c.args.page c.self.inside.runs.births c.self.inside.runs.rows c.self.invariant.pages (rw (← c.self.view_is) at c.requires) in
    rw (c.give.ensures, c.take_back-at.ensures.rows)
    (laid_drop c.self.inside.own.items c.self.inside.taken c.self.inside.runs.rows c.self.invariant c.args.file c.args.page n.0 c.place_of-place.result n.1.0
    (rw c.as_slice.ensures.value at c.place_of-place.ensures.within)
    (λ d. (rw c.as_slice.ensures.value at (c.place_of-place.ensures.at d)) ∙ (c.take_back-at.ensures.last n.0 n.1.0).1))

pub returns-clause-rows : goal.returns-clause-rows
returns-clause-rows c = λ rows e h.
    let n = newest_found c.args.file c.args.page c.self.inside.runs.births c.self.inside.runs.rows c.self.invariant.pages (rw (← c.self.view_is) at c.requires) in
    same_front c.take_back-at.new.self.rows rows n.0 e (sym (c.take_back-at.ensures.last n.0 n.1.0).0 ∙ (rw (← c.self.view_is) at h))
