use Rattle.st_lemmas.proofs.Words
use Words.{◌==◌, cond, Some, filter, not, sym, ap, ◌∙◌, is_some}
use Rattle.st_snap.specs.Slots.{Slots, slot_at}
use Rattle.st_snap.proofs.Slotted.{added_and_gone, added_there, cond_twice, err_of, found_last, ok_of}
use Rattle.st_snap.proofs.slots.Slots.add.Goals as goal

pub put-requires : goal.put-requires
put-requires c = added_there c.in_ok-slot.slot c.args.self.now.pages c.next.new.self.pages c.in_ok-slot.ensures.added c.in_ok-slot.ensures.fresh

pub release-requires : goal.release-requires
release-requires c =
    let same = err_of c.put.result _ c.put.ensures.err (sym c.is_err.ensures.value ∙ c.if-is_err.true) in
    ap (λ (s : Slots). is_some (slot_at s.pages c.in_ok-slot.slot)) same
    ∙ added_there c.in_ok-slot.slot c.args.self.now.pages c.next.new.self.pages c.in_ok-slot.ensures.added c.in_ok-slot.ensures.fresh

pub returns-then-is_err-clause-err : goal.returns-then-is_err-clause-err
returns-then-is_err-clause-err c =
    let same = err_of c.put.result _ c.put.ensures.err (sym c.is_err.ensures.value ∙ c.if-is_err.true) in
    let blocks = c.release.ensures.blocks ∙ c.put.ensures.blocks ∙ c.next.ensures.blocks in
    let pages = c.release.ensures.left
    ∙ ap (λ (s : Slots). filter (λ e. not (c.in_ok-slot.slot == e.0)) s.pages) same
    ∙ ap (filter (λ e. not (c.in_ok-slot.slot == e.0))) c.in_ok-slot.ensures.added.1
    ∙ added_and_gone c.in_ok-slot.slot c.in_ok-slot.ensures.added.0 c.args.self.now.pages c.in_ok-slot.ensures.fresh in
    (λ i. record { blocks = blocks i; pages = pages i })

pub returns-clause-added : goal.returns-clause-added
returns-clause-added c = λ q.
    let b = c.in_ok-slot.ensures.added.0 in
    ok_of c.put.result _ c.put.ensures.written (sym c.is_err.ensures.value ∙ c.if-is_err.false) q
    ∙ ap (λ l. cond (c.in_ok-slot.slot == q) (Some c.args.bytes.now) (slot_at l q)) c.in_ok-slot.ensures.added.1
    ∙ ap (cond (c.in_ok-slot.slot == q) (Some c.args.bytes.now)) (found_last c.in_ok-slot.slot q b c.args.self.now.pages c.in_ok-slot.ensures.fresh)
    ∙ cond_twice (c.in_ok-slot.slot == q) (Some c.args.bytes.now) (Some b) (slot_at c.args.self.now.pages q)
