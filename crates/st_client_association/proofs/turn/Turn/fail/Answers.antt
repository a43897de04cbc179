use Rattle.st_lemmas.proofs.Words
use Words.{refl}
use Words.Versions.{version_failed}
use Rattle.st_client_association.proofs.TurnInvariants.{lent, store_changed}
use Rattle.st_client_association.proofs.turn.Turn.fail.Goals as goal

pub invariant_of-self : goal.invariant_of-self
invariant_of-self c =
    let x = c.self.inside in
    let h = c.deref_mut.result.now in
    let k = lent x.here.value h x.next_command x.out.items c.deref_mut.ensures.value c.self.invariant in
    rw c.fail.ensures (store_changed h.id h.config h.server h.life h.session h.store _ x.next_command x.out.items k refl k.given (version_failed h.store.store.pages c.args.ino c.args.page c.args.command))
