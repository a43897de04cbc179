use Rattle.std.proofs.Common.{◌-◌, ◌+◌, true, arith}
use Rattle.st_extents.proofs.FreeRuns.{free_some, table_first, table_some, table_space, table_taken, told_free, told_taken, told_within}
use Rattle.st_extents.proofs.taken_blocks.TakenBlocks.take.Goals as goal

pub overflow_cast-place : goal.overflow_cast-place
overflow_cast-place c = omega (arith, told_within c.self.inside.runs.items c.self.inside.places c.args.place (rw (← c.self.view_is) at c.requires.within), c.self.invariant.fits)

pub take_first-requires-clause-some : goal.take_first-requires-clause-some
take_first-requires-clause-some c =
    let within = told_within c.self.inside.runs.items c.self.inside.places c.args.place (rw (← c.self.view_is) at c.requires.within) in
    free_some c.self.inside.runs.items c.args.place (told_free c.self.inside.runs.items c.self.inside.places c.args.place true within (rw (← c.self.view_is) at c.requires.open))

pub take_first-requires-clause-first : goal.take_first-requires-clause-first
take_first-requires-clause-first c =
    table_first c.self.inside.places c.self.inside.free c.self.inside.runs.cap c.args.place c.self.inside.runs.items c.self.invariant
    (rw (← c.self.view_is) at c.requires.first) (rw (← c.self.view_is) at c.requires.within) (rw (← c.self.view_is) at c.requires.open)

pub take_first-requires-clause-fits : goal.take_first-requires-clause-fits
take_first-requires-clause-fits c = omega (arith, told_within c.self.inside.runs.items c.self.inside.places c.args.place (rw (← c.self.view_is) at c.requires.within), c.self.invariant.fits)

pub overflow_sub-self : goal.overflow_sub-self
overflow_sub-self c =
    let within = told_within c.self.inside.runs.items c.self.inside.places c.args.place (rw (← c.self.view_is) at c.requires.within) in
    table_some c.self.inside.places c.self.inside.free c.self.inside.runs.cap c.args.place c.self.inside.runs.items c.self.invariant within
    (told_free c.self.inside.runs.items c.self.inside.places c.args.place true within (rw (← c.self.view_is) at c.requires.open))

pub invariant_of-self : goal.invariant_of-self
invariant_of-self c =
    let within = told_within c.self.inside.runs.items c.self.inside.places c.args.place (rw (← c.self.view_is) at c.requires.within) in
    table_space c.self.inside.places (c.self.inside.free - 1) c.self.inside.runs.cap c.take_first.new.runs.cap c.take_first.new.runs.items c.take_first.ensures.room
    (table_taken c.self.inside.places c.self.inside.free c.self.inside.runs.cap c.args.place c.self.inside.runs.items c.take_first.new.runs.items c.self.invariant c.take_first.ensures.taken within
    (told_free c.self.inside.runs.items c.self.inside.places c.args.place true within (rw (← c.self.view_is) at c.requires.open)))

pub returns : goal.returns
returns c =
    let within = told_within c.self.inside.runs.items c.self.inside.places c.args.place (rw (← c.self.view_is) at c.requires.within) in
    rw (← c.self.view_is)
    (told_taken c.self.inside.runs.items c.take_first.new.runs.items c.self.inside.places c.args.place within (c.take_first.ensures.taken (c.self.inside.places + 1) c.self.invariant.below).1)
