use Rattle.st_lemmas.proofs.Words
use Words.{subst, refl, Option}
use Words.io.{Read}
use Rattle.st_client_session.specs.Sessions.{ServerSession}
use Rattle.st_flush.proofs.Places.{no_number}
use Rattle.st_client_association.specs.Turns.{IsTurn}
use Rattle.st_client_association.proofs.TurnInvariants.{lent, turn_begun}
use Rattle.st_client_association.proofs.session_turn.SessionTurn.submit_read.Goals as goal

pub begin_read-requires-clause-number : goal.begin_read-requires-clause-number
begin_read-requires-clause-number c =
    let x = c.turn.inside in
    let h = c.deref_mut-here.result.now in
    let k = lent x.here.value h x.next_command x.out.items c.deref_mut-here.ensures.value c.turn.invariant in
    no_number h.store.store.commands x.next_command k.given

pub invariant_of-turn-2 : goal.invariant_of-turn-2
invariant_of-turn-2 c =
    let x = c.turn.inside in
    let h = c.deref_mut-here.result.now in
    let k = lent x.here.value h x.next_command x.out.items c.deref_mut-here.ensures.value c.turn.invariant in
    let i = subst (λ (s : Option ServerSession). IsTurn h.id h.config h.server h.life s h.store x.next_command x.out.items) c.in-Some.is k in
    rw (c.in_ok-push.ensures.items, c.begin_read.ensures.stays, c.in_ok-begin_read-in-Some.ensures.ok)
    (turn_begun h.id h.config h.server h.life c.in-Some.session c.in-Some.session h.store _ x.next_command x.out.items _ c.args.ino c.args.page Read i refl refl refl refl)
