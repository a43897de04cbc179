use Rattle.std.proofs.Common.{◌≡◌, ◌+◌, true, false, ap, arith, drop, sym, take, ◌∙◌}
use Rattle.std.specs.Prelude.{not}
use Rattle.st_extents.specs.FreeRuns.{IsGap, ends_above, taken_from}
use Rattle.st_extents.proofs.FreeRuns.{gap_taken, held, table_few, table_given, table_room, table_space, told_given, told_place, told_within}
use Rattle.st_extents.proofs.TakenPlaces.{set_same}
use Rattle.st_extents.proofs.taken_blocks.TakenBlocks.give.Goals as goal

pub overflow_cast-place : goal.overflow_cast-place
overflow_cast-place c = omega (arith, told_within c.self.inside.runs.items c.self.inside.places c.args.place (rw (← c.self.view_is) at c.requires.within), c.self.invariant.fits)

pub overflow_cast-place-2 : goal.overflow_cast-place-2
overflow_cast-place-2 c = omega (arith, told_within c.self.inside.runs.items c.self.inside.places c.args.place (rw (← c.self.view_is) at c.requires.within), c.self.invariant.fits)

pub overflow_cast-place-3 : goal.overflow_cast-place-3
overflow_cast-place-3 c = omega (arith, told_within c.self.inside.runs.items c.self.inside.places c.args.place (rw (← c.self.view_is) at c.requires.within), c.self.invariant.fits)

pub returns-then-ends_above : goal.returns-then-ends_above
returns-then-ends_above c =
    let rs = c.self.inside.runs.items in
    let n = c.self.inside.places in
    let within = told_within rs n c.args.place (rw (← c.self.view_is) at c.requires.within) in
    let ended : ends_above c.args.place (drop c.position-index.result rs) ≡ true = sym (c.ends_above.ensures) ∙ c.if-ends_above.true in
    rw (← c.self.view_is)
    (set_same (taken_from rs 0 n) c.args.place false true (rw (← c.self.view_is) at c.requires.within)
    (told_place rs n c.args.place true within ∙ ap not (held rs c.position-index.result c.args.place c.position-index.ensures.begun ended)))

pub give-requires-clause-fits : goal.give-requires-clause-fits
give-requires-clause-fits c = omega (arith, told_within c.self.inside.runs.items c.self.inside.places c.args.place (rw (← c.self.view_is) at c.requires.within), c.self.invariant.fits)

pub give-requires-clause-space : goal.give-requires-clause-space
give-requires-clause-space c = omega (arith, table_room c.self.inside.places c.self.inside.free c.self.inside.runs.cap c.self.inside.runs.items c.self.invariant, c.self.inside.runs.ok.0)

pub overflow_add-self : goal.overflow_add-self
overflow_add-self c = omega (arith, table_few c.self.inside.places c.self.inside.free c.self.inside.runs.cap c.self.inside.runs.items c.self.invariant, c.self.invariant.fits)

pub invariant_of-self : goal.invariant_of-self
invariant_of-self c =
    let rs = c.self.inside.runs.items in
    let n = c.self.inside.places in
    let within = told_within rs n c.args.place (rw (← c.self.view_is) at c.requires.within) in
    let gap : IsGap c.args.place (take c.position-index.result rs) (drop c.position-index.result rs) = record {
      behind = c.position-index.ensures.behind;
      begun = c.position-index.ensures.begun;
      ended = sym (c.ends_above.ensures) ∙ c.if-ends_above.false;
    } in
    table_space n (c.self.inside.free + 1) c.self.inside.runs.cap c.give.new.runs.cap c.give.new.runs.items c.give.ensures.room
    (table_given n c.self.inside.free c.self.inside.runs.cap c.args.place rs c.give.new.runs.items c.self.invariant c.give.ensures.given within
    (gap_taken (n + 1) rs c.position-index.result c.args.place c.self.invariant.below (omega (arith, within)) gap))

pub returns : goal.returns
returns c =
    let rs = c.self.inside.runs.items in
    let n = c.self.inside.places in
    let within = told_within rs n c.args.place (rw (← c.self.view_is) at c.requires.within) in
    rw (← c.self.view_is)
    (told_given rs c.give.new.runs.items n c.args.place within (c.give.ensures.given (n + 1) (omega (arith, within)) c.self.invariant.below).1)
