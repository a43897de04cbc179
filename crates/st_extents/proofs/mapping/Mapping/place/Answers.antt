use Rattle.std.proofs.Common.{◌+◌, ◌<◌, arith, ap, filter, length, subst, sym, ◌∙◌}
use Rattle.std.proofs.lemmas.List.{get_or_read}
use Rattle.st_extents.specs.Layout.{none_at}
use Rattle.st_extents.specs.Places.{IsMapped}
use Rattle.st_extents.proofs.LaidPages.{first_mapped, laid_push, room_left, some_open}
use Rattle.st_extents.proofs.mapping.Mapping.place.Goals as goal

pub index-at-requires : goal.index-at-requires
index-at-requires c =
    let o : c.first-place.result < length c.self.inside.own.items = some_open c.self.inside.own.items c.self.inside.taken c.self.inside.runs.rows c.self.invariant c.first-place.result c.first-place.ensures.before (rw (← c.self.view_is) at c.requires.room) in
    omega (arith, o, c.self.inside.own.ok.0)

pub take-requires-clause-within : goal.take-requires-clause-within
take-requires-clause-within c =
    let o : c.first-place.result < length c.self.inside.own.items = some_open c.self.inside.own.items c.self.inside.taken c.self.inside.runs.rows c.self.invariant c.first-place.result c.first-place.ensures.before (rw (← c.self.view_is) at c.requires.room) in
    omega (arith, o, c.self.invariant.as_long)

pub take-requires-clause-open : goal.take-requires-clause-open
take-requires-clause-open c =
    let o : c.first-place.result < length c.self.inside.own.items = some_open c.self.inside.own.items c.self.inside.taken c.self.inside.runs.rows c.self.invariant c.first-place.result c.first-place.ensures.before (rw (← c.self.view_is) at c.requires.room) in
    c.first-place.ensures.open (omega (arith, o, c.self.invariant.as_long))

pub invariant_of-self-2 : goal.invariant_of-self-2
invariant_of-self-2 c =
    let o : c.first-place.result < length c.self.inside.own.items = some_open c.self.inside.own.items c.self.inside.taken c.self.inside.runs.rows c.self.invariant c.first-place.result c.first-place.ensures.before (rw (← c.self.view_is) at c.requires.room) in
    rw (c.take.ensures, c.in_ok-push.ensures.rows)
    (laid_push c.self.inside.own.items c.self.inside.taken c.self.inside.runs.rows c.self.invariant (record { file = c.args.file; page = c.args.page; at = c.index-at.result.now; birth = c.self.inside.runs.births + 1 }) c.first-place.result o
    (c.first-place.ensures.open (omega (arith, o, c.self.invariant.as_long)))
    (λ d. sym (get_or_read c.self.inside.own.items c.first-place.result c.index-at.result.now o c.index-at.ensures d)) (rw (← c.self.view_is) at c.requires.fresh))

pub returns-clause-placed : goal.returns-clause-placed
returns-clause-placed c =
    let o : c.first-place.result < length c.self.inside.own.items = some_open c.self.inside.own.items c.self.inside.taken c.self.inside.runs.rows c.self.invariant c.first-place.result c.first-place.ensures.before (rw (← c.self.view_is) at c.requires.room) in
    rw (← c.self.view_is)
    (subst (IsMapped c.self.inside.runs.rows c.args.file c.args.page (c.self.inside.runs.births + 1) (filter (none_at c.self.inside.runs.rows) c.self.inside.own.items)) (sym c.in_ok-push.ensures.rows)
    (first_mapped c.self.inside.own.items c.self.inside.taken c.self.inside.runs.rows c.self.invariant c.args.file c.args.page (c.self.inside.runs.births + 1) c.first-place.result c.index-at.result.now c.first-place.ensures.before o
    (c.first-place.ensures.open (omega (arith, o, c.self.invariant.as_long))) c.index-at.ensures))

pub returns-clause-room : goal.returns-clause-room
returns-clause-room c =
    let o : c.first-place.result < length c.self.inside.own.items = some_open c.self.inside.own.items c.self.inside.taken c.self.inside.runs.rows c.self.invariant c.first-place.result c.first-place.ensures.before (rw (← c.self.view_is) at c.requires.room) in
    rw (← c.self.view_is)
    (ap (λ rows. length (filter (none_at rows) c.self.inside.own.items) + 1) c.in_ok-push.ensures.rows
    ∙ room_left c.self.inside.own.items c.self.inside.taken c.self.inside.runs.rows c.self.invariant (record { file = c.args.file; page = c.args.page; at = c.index-at.result.now; birth = c.self.inside.runs.births + 1 }) c.first-place.result o
    (c.first-place.ensures.open (omega (arith, o, c.self.invariant.as_long)))
    (λ d. sym (get_or_read c.self.inside.own.items c.first-place.result c.index-at.result.now o c.index-at.ensures d)) (rw (← c.self.view_is) at c.requires.fresh))
