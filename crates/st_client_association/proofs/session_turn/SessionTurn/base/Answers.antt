use Rattle.st_lemmas.proofs.Words
use Words.{subst, Option}
use Rattle.st_client_session.specs.Sessions.{ServerSession}
use Rattle.st_client_association.specs.Turns.{IsTurn}
use Rattle.st_client_association.proofs.TurnInvariants.{lent}
use Rattle.st_client_association.proofs.session_turn.SessionTurn.base.Goals as goal

pub invariant_of-turn : goal.invariant_of-turn
invariant_of-turn c =
    let x = c.turn.inside in
    let h = c.deref_mut-here.result.now in
    let k = lent x.here.value h x.next_command x.out.items c.deref_mut-here.ensures.value c.turn.invariant in
    let i = subst (λ (s : Option ServerSession). IsTurn h.id h.config h.server h.life s h.store x.next_command x.out.items) c.in-Some.is k in
    rw c.base.ensures.stays i
