use Rattle.st_lemmas.proofs.Words
use Words.{ap, sym, ◌∙◌}
use Rattle.st_snap.specs.Versions.{page_in, slot_under}
use Rattle.st_snap.proofs.Slotted.{err_of, ok_of}
use Rattle.st_snap.proofs.Shelved.{add_kept, version_undone}
use Rattle.st_snap.proofs.versions.Versions.add.Goals as goal

pub invariant_of-self-else-is_err : goal.invariant_of-self-else-is_err
invariant_of-self-else-is_err c =
    let fine = sym c.is_err.ensures.value ∙ c.if-is_err.false in
    let r = add_kept _ c.self.invariant c.args.key c.in_ok-slot.slot c.args.bytes.now c.put_slot.new.map.entries c.add.new.self.pages c.in_ok-slot.ensures.fresh
    (ok_of c.put_slot.result _ c.put_slot.ensures.ok fine) c.in_ok-slot.ensures.added c.put_slot.ensures.ordered (ok_of c.put_slot.result _ c.put_slot.ensures.length fine) c.in_ok-slot.ensures.length in
    record { ordered = r.ordered; held = r.held; apart = r.apart; counted = r.counted }

pub returns-then-is_err-clause-err : goal.returns-then-is_err-clause-err
returns-then-is_err-clause-err c =
    let same = err_of c.put_slot.result _ c.put_slot.ensures.err (sym c.is_err.ensures.value ∙ c.if-is_err.true) in
    rw (← c.self.view_is)
    (λ q. ap (λ es. page_in c.release.new.self.pages (slot_under es q)) same
    ∙ version_undone _ c.self.invariant c.args.key c.in_ok-slot.slot c.args.bytes.now c.add.new.self.pages c.release.new.self.pages c.in_ok-slot.ensures.fresh c.in_ok-slot.ensures.added c.release.ensures.gone q)
