use Rattle.st_lemmas.proofs.Words
use Words.{refl}
use Rattle.st_client_association.proofs.TurnInvariants.{lent, store_changed}
use Rattle.st_client_association.proofs.Done.{below_ended}
use Rattle.st_client_association.proofs.turn.Turn.end_command.Goals as goal

pub invariant_of-self : goal.invariant_of-self
invariant_of-self c =
    let x = c.self.inside in
    let h = c.deref_mut.result.now in
    let k = lent x.here.value h x.next_command x.out.items c.deref_mut.ensures.value c.self.invariant in
    rw c.done.ensures.1 (store_changed h.id h.config h.server h.life h.session h.store _ x.next_command x.out.items k refl (below_ended x.next_command h.store.store.commands c.args.number c.args.ok c.args.version k.given) refl)
