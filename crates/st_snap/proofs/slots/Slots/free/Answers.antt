use Rattle.st_lemmas.proofs.Words
use Words.{arith}
use Rattle.st_snap.proofs.Slotted.{free_count, slots_long}
use Rattle.st_snap.proofs.slots.Slots.free.Goals as goal

pub returns : goal.returns
returns c =
    rw (← c.self.view_is)
    (let n = free_count c.self.inside.extents c.self.inside.disks c.self.inside.last c.self.invariant in
    let m = slots_long c.self.inside.disks c.self.inside.extents.rows in
    omega (arith, n, m, c.free.ensures))
