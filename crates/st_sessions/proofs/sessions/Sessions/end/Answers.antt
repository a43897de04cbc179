use Rattle.std.proofs.Common.{List, sym, ◌∙◌, ap}
use Rattle.st_rules.specs.declared.sessions.Session.{Session}
use Rattle.st_rules.specs.ServerInvariants.{are_once, same_session}
use Rattle.st_rules.specs.Sessions.{end}
use Rattle.st_sessions.proofs.ChangedSessions.{ends, ends_nothing, end_once}
use Rattle.st_sessions.proofs.sessions.Sessions.end.Goals as goal

pub returns-in_default : goal.returns-in_default
unfolding end
returns-in_default c =
    rw (← c.self.view_is)
    (sym (ap (λ (rows : List Session). record { epoch = c.self.inside.epoch; rows = rows })
    (ends_nothing c.args.client c.self.inside.rows (sym c.in_default.is ∙ c.place.ensures))))

pub invariant_of-self : goal.invariant_of-self
invariant_of-self c =
    ap (are_once same_session) (ends c.args.client c.self.inside.rows c.set_state.new.self c.in-Some.place c.self.invariant
    (sym c.in-Some.is ∙ c.place.ensures) c.set_state.ensures)
    ∙ end_once c.args.client c.self.inside.rows ∙ c.self.invariant

pub returns : goal.returns
unfolding end
returns c =
    rw (← c.self.view_is)
    (ap (λ (rows : List Session). record { epoch = c.self.inside.epoch; rows = rows })
    (ends c.args.client c.self.inside.rows c.set_state.new.self c.in-Some.place c.self.invariant
    (sym c.in-Some.is ∙ c.place.ensures) c.set_state.ensures))
