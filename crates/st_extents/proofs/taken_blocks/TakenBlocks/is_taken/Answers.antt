use Rattle.std.proofs.Common.{◌+◌, ap, arith, sym, ◌∙◌}
use Rattle.std.specs.Prelude.{not}
use Rattle.st_extents.proofs.FreeRuns.{searched_is, told_place, told_within}
use Rattle.st_extents.proofs.taken_blocks.TakenBlocks.is_taken.Goals as goal

pub overflow_cast-place : goal.overflow_cast-place
overflow_cast-place c =
    omega (arith, told_within c.self.inside.runs.items c.self.inside.places c.args.place (rw (← c.self.view_is) at c.requires), c.self.invariant.fits)

pub overflow_cast-place-2 : goal.overflow_cast-place-2
overflow_cast-place-2 c =
    omega (arith, told_within c.self.inside.runs.items c.self.inside.places c.args.place (rw (← c.self.view_is) at c.requires), c.self.invariant.fits)

pub returns : goal.returns
returns c = λ d.
    let rs = c.self.inside.runs.items in
    let n = c.self.inside.places in
    let within = told_within rs n c.args.place (rw (← c.self.view_is) at c.requires) in
    rw (← c.self.view_is)
    (ap not (c.ends_above.ensures ∙
    sym (searched_is (n + 1) rs c.position-index.result c.args.place c.self.invariant.below (omega (arith, within)) c.position-index.ensures.behind
    c.position-index.ensures.begun))
    ∙ sym (told_place rs n c.args.place d within))
