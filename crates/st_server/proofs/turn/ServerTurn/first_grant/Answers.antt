use Rattle.st_lemmas.proofs.Words
use Words.{ap, ◌∙◌, cond, None}
use Words.Server.{ServerTurn}
use Rattle.st_due.specs.Moments.{earliest, readable_by}
use Rattle.st_due.specs.ServerDue.{grants_at}
use Rattle.st_server.proofs.TimerEnds.{grants_are}
use Rattle.st_server.proofs.turn.ServerTurn.first_grant.Goals as goal

pub returns : goal.returns
returns c =
    c.grant_due.ensures ∙ ap (λ e. cond c.in_ok-may.may e None) c.end.ensures
    ∙ grants_are c.self.inside.grace c.self.inside.locks c.in_ok-may.may c.in_ok-may.ensures
    ∙ ap (λ (t : ServerTurn). readable_by (earliest (grants_at t.state.grace t.state.locks))) c.self.view_is
