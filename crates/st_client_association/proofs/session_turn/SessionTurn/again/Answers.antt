use Rattle.st_lemmas.proofs.Words
use Words.{◌≡◌, ◌∙◌, sym, subst, Option, Some}
use Rattle.st_client_session.specs.Sessions.{ServerSession}
use Rattle.st_client_association.specs.Turns.{IsTurn}
use Rattle.st_client_association.specs.contracts.turn.Turn.{the_view}
use Rattle.st_client_association.proofs.Sending.{sends_again}
use Rattle.st_client_association.proofs.session_turn.SessionTurn.again.Goals as goal

pub returns : goal.returns
returns c =
    let x = c.turn.inside in
    let h = x.here.value in
    let e = c.deref_mut.ensures.value in
    let s : h.session ≡ Some c.in-Some.session = (λ j. (sym e j).session) ∙ c.in-Some.is in
    let i = subst (λ (s : Option ServerSession). IsTurn h.id h.config h.server h.life s h.store x.next_command x.out.items) s c.turn.invariant in
    rw (e, ← c.self.view_is, ← c.turn.view_is, s) (sends_again (the_view x) c.in-Some.session c.again.new.self c.in_ok-message-in-Some.message c.args.now _ i.parties c.in_ok-message-in-Some.ensures.ok)
