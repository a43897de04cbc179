use Rattle.st_lemmas.proofs.Words
use Words.{refl}
use Words.Versions.{version_hardened}
use Rattle.st_client_association.proofs.TurnInvariants.{lent, store_changed}
use Rattle.st_client_association.proofs.turn.Turn.harden.Goals as goal

pub invariant_of-self-2 : goal.invariant_of-self-2
invariant_of-self-2 c =
    let x = c.self.inside in
    let h = c.deref_mut.result.now in
    let k = lent x.here.value h x.next_command x.out.items c.deref_mut.ensures.value c.self.invariant in
    rw c.in_ok-harden.ensures.ok (store_changed h.id h.config h.server h.life h.session h.store _ x.next_command x.out.items k refl k.given (version_hardened h.store.store.pages c.args.ino c.args.page))
