use Rattle.st_lemmas.proofs.Words
use Words.{ap, ◌∙◌, filter_map}
use Words.Server.{ServerTurn}
use Rattle.st_due.specs.Moments.{earliest, readable_by}
use Rattle.st_due.specs.ServerDue.{suspicions_at}
use Rattle.st_lock_tables.specs.Overdue.{overdue_row}
use Rattle.st_server.proofs.TimerEnds.{suspicions_are}
use Rattle.st_server.proofs.turn.ServerTurn.first_suspicion.Goals as goal

pub returns : goal.returns
returns c =
    c.first_overdue.ensures
    ∙ ap (λ cs. readable_by (earliest (filter_map (overdue_row c.self.inside.config cs) c.self.inside.locks.rows))) c.suspects.ensures.suspects
    ∙ suspicions_are c.self.inside.config c.self.inside.authority c.self.inside.locks
    ∙ ap (λ (t : ServerTurn). readable_by (earliest (suspicions_at t.state.config t.state.authority t.state.locks))) c.self.view_is
