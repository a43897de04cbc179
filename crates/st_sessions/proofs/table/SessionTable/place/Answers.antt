use Rattle.std.proofs.Common.{◌≡◌, List, subst, ◌∙◌}
use Rattle.std.specs.List.{position}
use Rattle.st_rules.specs.declared.sessions.Session.{Session}
use Rattle.st_rules.specs.Sessions.{is_session_of}
use Rattle.st_sessions.proofs.table.SessionTable.place.Goals as goal

pub returns : goal.returns
returns c =
    subst (λ (rows : List Session). c.seat_of.result ≡ position (is_session_of c.args.client) rows) c.self.view_is
    ((rw c.deref.ensures.value at c.seat_of.ensures) ∙ c.self.invariant c.args.client)
