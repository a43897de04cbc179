use Rattle.st_lemmas.proofs.Words
use Words.{refl}
use Words.ClientPages.{forget_from, drop_from}
use Rattle.st_client_association.proofs.TurnInvariants.{lent, store_changed}
use Rattle.st_client_association.proofs.session_turn.SessionTurn.forget_from.Goals as goal

pub invariant_of-turn : goal.invariant_of-turn
unfolding forget_from drop_from
invariant_of-turn c =
    let x = c.turn.inside in
    let h = c.deref_mut.result.now in
    let k = lent x.here.value h x.next_command x.out.items c.deref_mut.ensures.value c.turn.invariant in
    rw c.forget_from.ensures (store_changed h.id h.config h.server h.life h.session h.store _ x.next_command x.out.items k refl k.given refl)
