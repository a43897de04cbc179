use Rattle.st_lemmas.proofs.Words
use Words.{◌+◌, length, sym, ap, subst, ◌∙◌}
use Words.Extents as extents
use Words.Extents.{Extents}
use Words.Keys.{page_no}
use Rattle.st_extents.specs.Ownership.{IsOwned}
use Rattle.st_snap.specs.Slots.{AreSlots, slot_at, slots_of}
use Rattle.st_snap.proofs.Slotted.{fewer_slots, gone, left_blocks, left_slots, one_gone}
use Rattle.st_snap.proofs.slots.Slots.release.Goals as goal

pub invariant_of-self : goal.invariant_of-self
invariant_of-self c =
    let e = c.release_from.ensures.released ∙ ap (λ f. extents.release_from c.self.inside.extents f (page_no 0)) c.file_of.ensures in
    subst (λ y. AreSlots y c.self.inside.disks c.self.inside.last) (sym e)
    (fewer_slots c.self.inside.extents c.self.inside.disks c.self.inside.last c.args.slot c.self.invariant (subst IsOwned e c.release_from.ensures.owned))

pub returns-clause-left : goal.returns-clause-left
returns-clause-left c =
    let e = c.release_from.ensures.released ∙ ap (λ f. extents.release_from c.self.inside.extents f (page_no 0)) c.file_of.ensures in
    rw (← c.self.view_is) (ap (λ (y : Extents). slots_of c.self.inside.disks y.rows) e ∙ left_slots c.self.inside.extents c.self.inside.disks c.self.inside.last c.args.slot c.self.invariant)

pub returns-clause-gone : goal.returns-clause-gone
returns-clause-gone c =
    let e = c.release_from.ensures.released ∙ ap (λ f. extents.release_from c.self.inside.extents f (page_no 0)) c.file_of.ensures in
    rw (← c.self.view_is)
    (λ q. ap (λ (y : Extents). slot_at (slots_of c.self.inside.disks y.rows) q) e
    ∙ ap (λ l. slot_at l q) (left_slots c.self.inside.extents c.self.inside.disks c.self.inside.last c.args.slot c.self.invariant)
    ∙ gone c.args.slot q (slots_of c.self.inside.disks c.self.inside.extents.rows))

pub returns-clause-length : goal.returns-clause-length
returns-clause-length c =
    let e = c.release_from.ensures.released ∙ ap (λ f. extents.release_from c.self.inside.extents f (page_no 0)) c.file_of.ensures in
    rw (← c.self.view_is)
    (ap (λ (y : Extents). length (slots_of c.self.inside.disks y.rows) + 1) e
    ∙ ap (λ l. length l + 1) (left_slots c.self.inside.extents c.self.inside.disks c.self.inside.last c.args.slot c.self.invariant)
    ∙ one_gone c.self.inside.disks c.self.inside.last c.args.slot c.self.inside.extents.rows c.self.invariant.slots c.self.invariant.owned.pages (rw (← c.self.view_is) at c.requires))

pub returns-clause-blocks : goal.returns-clause-blocks
returns-clause-blocks c =
    rw (← c.self.view_is) (ap (λ (y : Extents). y.blocks) c.release_from.ensures.released ∙ left_blocks c.self.inside.extents c.file_of.result (page_no 0))
