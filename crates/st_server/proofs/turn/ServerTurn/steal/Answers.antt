use Rattle.st_lemmas.proofs.Words
use Words.{◌≡◌, ap, sym, ◌∙◌, Some}
use Words.Sessions.{life_of}
use Words.Server.{ServerTurn}
use Rattle.std.proofs.lemmas.Result.{on_ok_weaker}
use Rattle.st_server.proofs.Crashes.{steal_life, steal_none}
use Rattle.st_server.proofs.turn.ServerTurn.steal.Goals as goal

pub returns-in-None-clause-ok : goal.returns-in-None-clause-ok
returns-in-None-clause-ok c =
    sym (steal_none c.args.self.now c.args.client (ap (λ (t : ServerTurn). life_of t.state.sessions c.args.client) (sym c.self.view_is) ∙ sym c.in-None.ensures.life))

pub returns-in-Some-clause-ok : goal.returns-in-Some-clause-ok
returns-in-Some-clause-ok c =
    let life : life_of c.args.self.now.state.sessions c.args.client ≡ Some c.in-Some.life
    = ap (λ (t : ServerTurn). life_of t.state.sessions c.args.client) (sym c.self.view_is) ∙ sym c.in-Some.ensures.life in
    on_ok_weaker c.steal_from.result (λ e. e ∙ sym (steal_life c.args.self.now c.args.client c.in-Some.life life)) c.steal_from.ensures.ok
