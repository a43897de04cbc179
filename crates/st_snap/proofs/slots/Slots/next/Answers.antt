use Rattle.st_lemmas.proofs.Words
use Words.{◌+◌, arith, sym, ◌∙◌}
use Rattle.st_snap.proofs.Slotted.{bytes_at, fresh_slot, more_slots, new_slots, next_slot}
use Rattle.st_snap.proofs.slots.Slots.next.Goals as goal

pub invariant_of-self-2 : goal.invariant_of-self-2
invariant_of-self-2 c =
    more_slots c.self.inside.extents c.allocate.new.self c.self.inside.disks c.self.inside.last c.self.invariant c.allocate.ensures.owned
    (first_of (omega (arith, c.if-self.false, c.self.invariant.fits), grind (arith, c.if-self.false, c.self.invariant.fits)))
    (next_slot c.self.inside.extents c.allocate.new.self c.self.inside.disks c.self.inside.last c.file_of.result c.allocate.result c.self.invariant c.file_of.ensures c.allocate.ensures.exact (sym c.is_err.ensures.value ∙ c.if-is_err.false))

pub returns-clause-fresh : goal.returns-clause-fresh
returns-clause-fresh c = rw (← c.self.view_is) (fresh_slot c.self.inside.disks c.self.inside.last (c.self.inside.last + 1) c.self.inside.extents.rows c.self.invariant.slots (omega arith))

pub returns-clause-added : goal.returns-clause-added
returns-clause-added c =
    let s = next_slot c.self.inside.extents c.allocate.new.self c.self.inside.disks c.self.inside.last c.file_of.result c.allocate.result c.self.invariant c.file_of.ensures c.allocate.ensures.exact (sym c.is_err.ensures.value ∙ c.if-is_err.false) in
    rw (← c.self.view_is) (bytes_at c.self.inside.disks s.extent, new_slots c.self.inside.extents c.allocate.new.self c.self.inside.disks (c.self.inside.last + 1) s)

pub returns-clause-blocks : goal.returns-clause-blocks
returns-clause-blocks c =
    let s = next_slot c.self.inside.extents c.allocate.new.self c.self.inside.disks c.self.inside.last c.file_of.result c.allocate.result c.self.invariant c.file_of.ensures c.allocate.ensures.exact (sym c.is_err.ensures.value ∙ c.if-is_err.false) in
    rw (← c.self.view_is) s.blocks
