use Rattle.st_lemmas.proofs.Words
use Words.{refl}
use Rattle.st_client_session.proofs.Again.{asks_again, session_again, told_again}
use Rattle.st_client_session.proofs.session.Session.again.Goals as goal

pub invariant_of-self-2 : goal.invariant_of-self-2
invariant_of-self-2 c =
    let x = c.self.inside in
    session_again x.life x.epoch x.date x.condemned x.lease x.requests c.again.new.self x.locks c.in_ok-message.message c.args.now
    (asks_again x.life x.epoch x.requests c.again.new.self c.in_ok-message.message c.args.now c.self.invariant.under c.in_ok-message.ensures.ok) c.self.invariant

pub returns-clause-ok : goal.returns-clause-ok
returns-clause-ok c =
    let x = c.self.inside in
    rw (← c.self.view_is)
    (told_again _ _ x.requests c.again.new.self c.in_ok-message.message c.args.now x.requests.requests.asked refl c.self.invariant.asked_there c.self.invariant.retries refl
    (asks_again x.life x.epoch x.requests c.again.new.self c.in_ok-message.message c.args.now c.self.invariant.under c.in_ok-message.ensures.ok))
