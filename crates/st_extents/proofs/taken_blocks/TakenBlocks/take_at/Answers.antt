use Rattle.std.proofs.Common.{◌≡◌, ◌-◌, ◌+◌, true, arith, drop}
use Rattle.st_extents.specs.FreeRuns.{ends_above}
use Rattle.st_extents.proofs.FreeRuns.{ends_index, held_there, table_room, table_some, table_space, table_taken, table_there, told_free, told_taken, told_within}
use Rattle.st_extents.proofs.taken_blocks.TakenBlocks.take_at.Goals as goal

pub overflow_cast-place : goal.overflow_cast-place
overflow_cast-place c =
    omega (arith, told_within c.self.inside.runs.items c.self.inside.places c.args.place (rw (← c.self.view_is) at c.requires.within), c.self.invariant.fits)

pub overflow_cast-place-2 : goal.overflow_cast-place-2
overflow_cast-place-2 c =
    omega (arith, told_within c.self.inside.runs.items c.self.inside.places c.args.place (rw (← c.self.view_is) at c.requires.within), c.self.invariant.fits)

pub take-requires-clause-within : goal.take-requires-clause-within
take-requires-clause-within c =
    let rs = c.self.inside.runs.items in
    let n = c.self.inside.places in
    let within = told_within rs n c.args.place (rw (← c.self.view_is) at c.requires.within) in
    ends_index rs c.position-index.result c.args.place
    (table_there n c.self.inside.free c.self.inside.runs.cap c.args.place c.position-index.result rs c.self.invariant within
    (rw (← c.self.view_is) at c.requires.open) c.position-index.ensures.behind c.position-index.ensures.begun)

pub take-requires-clause-there : goal.take-requires-clause-there
take-requires-clause-there c =
    let rs = c.self.inside.runs.items in
    let n = c.self.inside.places in
    let within = told_within rs n c.args.place (rw (← c.self.view_is) at c.requires.within) in
    held_there rs c.position-index.result c.args.place c.position-index.ensures.begun
    (table_there n c.self.inside.free c.self.inside.runs.cap c.args.place c.position-index.result rs c.self.invariant within
    (rw (← c.self.view_is) at c.requires.open) c.position-index.ensures.behind c.position-index.ensures.begun)

pub take-requires-clause-space : goal.take-requires-clause-space
take-requires-clause-space c =
    omega (arith, table_room c.self.inside.places c.self.inside.free c.self.inside.runs.cap c.self.inside.runs.items c.self.invariant, c.self.inside.runs.ok.0)

pub overflow_sub-self : goal.overflow_sub-self
overflow_sub-self c =
    let within = told_within c.self.inside.runs.items c.self.inside.places c.args.place (rw (← c.self.view_is) at c.requires.within) in
    table_some c.self.inside.places c.self.inside.free c.self.inside.runs.cap c.args.place c.self.inside.runs.items c.self.invariant within
    (told_free c.self.inside.runs.items c.self.inside.places c.args.place true within (rw (← c.self.view_is) at c.requires.open))

pub invariant_of-self : goal.invariant_of-self
invariant_of-self c =
    let within = told_within c.self.inside.runs.items c.self.inside.places c.args.place (rw (← c.self.view_is) at c.requires.within) in
    table_space c.self.inside.places (c.self.inside.free - 1) c.self.inside.runs.cap c.take.new.runs.cap c.take.new.runs.items c.take.ensures.room
    (table_taken c.self.inside.places c.self.inside.free c.self.inside.runs.cap c.args.place c.self.inside.runs.items c.take.new.runs.items c.self.invariant
    c.take.ensures.taken within
    (told_free c.self.inside.runs.items c.self.inside.places c.args.place true within (rw (← c.self.view_is) at c.requires.open)))

pub returns : goal.returns
returns c =
    let within = told_within c.self.inside.runs.items c.self.inside.places c.args.place (rw (← c.self.view_is) at c.requires.within) in
    rw (← c.self.view_is)
    (told_taken c.self.inside.runs.items c.take.new.runs.items c.self.inside.places c.args.place within
    (c.take.ensures.taken (c.self.inside.places + 1) c.self.invariant.below).1)
