use Rattle.st_snap.proofs.Shelved.{below_none, below_some}
use Rattle.st_snap.proofs.versions.Versions.last_below.Goals as goal

pub returns-in-Some : goal.returns-in-Some
returns-in-Some c =
    let r = c.range.ensures.in_range tt in
    let e = r.3 (c.in-Some.key.now, c.in-Some._slot.now) c.next_back.new.self c.in-Some.ensures.steps in
    rw (← c.self.view_is)
    (below_some _ c.self.invariant c.args.bound c.in-Some.key.now c.in-Some._slot.now e.0.1 e.1
    (λ q l s. r.4 (c.in-Some.key.now, c.in-Some._slot.now) c.next_back.new.self c.in-Some.ensures.steps q (tt, l) s))

pub returns-in-None : goal.returns-in-None
returns-in-None c =
    let r = c.range.ensures.in_range tt in
    rw (← c.self.view_is) (below_none (record { slots = c.self.inside.map.entries; pages = c.self.inside.slots.pages; blocks = c.self.inside.slots.blocks }) c.args.bound (λ q l. r.5 c.in-None.ensures.steps.0 q (tt, l)))
