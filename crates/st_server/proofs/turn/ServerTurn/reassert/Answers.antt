use Rattle.st_lemmas.proofs.Words
use Words.{ap, sym, ◌∙◌}
use Words.Sessions.{knows}
use Words.Server.{ServerTurn, sender, life_in}
use Rattle.st_server.proofs.Served.{older}
use Rattle.st_server.proofs.turn.ServerTurn.reassert.Goals as goal

pub reassert_new-requires-clause-older : goal.reassert_new-requires-clause-older
reassert_new-requires-clause-older c =
    older c.args.self.now.state.sessions c.args.self.now.state.locks (sender c.args.h) (life_in c.args.h) c.requires.served
    ((λ i. knows c.args.self.now.state.sessions (sym c.sender.ensures i) (life_in c.args.h))
    ∙ ap (λ (t : ServerTurn). knows t.state.sessions c.sender.result (life_in c.args.h)) (sym c.self.view_is)
    ∙ sym c.knows.ensures ∙ c.if-knows.false)
