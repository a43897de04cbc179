use Rattle.st_lemmas.proofs.Words
use Words.{ap, subst, Option}
use Words.ClientPages.{forget_read}
use Rattle.st_client_session.specs.Sessions.{ServerSession}
use Rattle.st_client_association.specs.Turns.{IsTurn}
use Rattle.st_client_association.proofs.TurnInvariants.{below_fewer, lent, turn_written, version_written}
use Rattle.st_client_association.proofs.session_turn.SessionTurn.change_page.Goals as goal

pub invariant_of-turn-in-Ok : goal.invariant_of-turn-in-Ok
unfolding forget_read
invariant_of-turn-in-Ok c =
    let x = c.turn.inside in
    let h = c.deref_mut-here.result.now in
    let k = lent x.here.value h x.next_command x.out.items c.deref_mut-here.ensures.value c.turn.invariant in
    let i = subst (λ (s : Option ServerSession). IsTurn h.id h.config h.server h.life s h.store x.next_command x.out.items) c.in-Some.is k in
    let left = c.in-Ok.ensures.changed.left in
    rw (c.push_reserved.ensures.items, c.reserve.ensures.items)
    (turn_written h.id h.config h.server h.life c.in-Some.session c.change-changed.new.self h.store c.change-changed.new.store x.next_command x.out.items _ i c.change-changed.ensures.stays
    (ap (λ s. s.server) left) (rw left (below_fewer x.next_command _ h.store.store.commands i.given))
    (version_written h.store.store.pages _ c.args.ino c.args.page c.args.bytes.now c.in-Ok.ensures.changed.written))
