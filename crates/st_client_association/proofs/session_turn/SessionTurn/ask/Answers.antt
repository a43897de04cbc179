use Rattle.st_lemmas.proofs.Words
use Words.{ap, subst, Option}
use Words.ClientState.{asking}
use Rattle.st_client_session.specs.Sessions.{ServerSession}
use Rattle.st_client_association.specs.Turns.{IsTurn}
use Rattle.st_client_association.proofs.TurnInvariants.{lent, turn_asked}
use Rattle.st_client_association.proofs.session_turn.SessionTurn.ask.Goals as goal

pub invariant_of-turn-2 : goal.invariant_of-turn-2
unfolding asking
invariant_of-turn-2 c =
    let x = c.turn.inside in
    let h = c.deref_mut.result.now in
    let k = lent x.here.value h x.next_command x.out.items c.deref_mut.ensures.value c.turn.invariant in
    let i = subst (λ (s : Option ServerSession). IsTurn h.id h.config h.server h.life s h.store x.next_command x.out.items) c.in-Some.is k in
    rw (c.push_reserved.ensures.items, c.reserve.ensures.items)
    (turn_asked h.id h.config h.server h.life c.in-Some.session c.ask.new.self h.store x.next_command x.out.items _ i
    (ap (λ s. s.of) c.in_ok-message-in-Some.ensures.left) (ap (λ s. s.session.requests.next) c.in_ok-message-in-Some.ensures.left))
