use Rattle.st_lemmas.proofs.Words
use Words.{ap, ◌∙◌}
use Words.Authority.{suspects_of}
use Words.Server.{ServerTurn}
use Rattle.st_due.specs.Moments.{earliest, readable_by}
use Rattle.st_due.specs.ServerDue.{demands_at, grants_at, suspicions_at, thefts_at}
use Rattle.st_server.proofs.TimerEnds.{first_of_four}
use Rattle.st_server.proofs.turn.ServerTurn.due.Goals as goal

pub returns : goal.returns
returns c =
    let s = c.args.self.now.state in
    c.first_of.ensures
    ∙ first_of_four (thefts_at s.authority) (suspicions_at s.config s.authority s.locks) (grants_at s.grace s.locks) (demands_at s.config s.locks (suspects_of s.authority))
    c.first_theft-thefts.result c.first_suspicion-suspicions.result c.in_ok-grants.grants c.in_ok-demands.demands
    (c.first_theft-thefts.ensures ∙ ap (λ (t : ServerTurn). readable_by (earliest (thefts_at t.state.authority))) c.self.view_is)
    c.first_suspicion-suspicions.ensures c.in_ok-grants.ensures
    (c.in_ok-demands.ensures ∙ ap (λ cs. readable_by (earliest (demands_at c.self.inside.config c.self.inside.locks cs))) c.suspects.ensures.suspects
    ∙ ap (λ (t : ServerTurn). readable_by (earliest (demands_at t.state.config t.state.locks (suspects_of t.state.authority)))) c.self.view_is)
