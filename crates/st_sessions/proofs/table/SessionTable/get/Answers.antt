use Rattle.std.proofs.Common.{sym, ◌∙◌}
use Rattle.st_rules.specs.Sessions.{is_session_of}
use Rattle.st_sessions.proofs.Seated.{found_at, found_nowhere}
use Rattle.st_sessions.proofs.table.SessionTable.get.Goals as goal

pub returns-in-None : goal.returns-in-None
returns-in-None c = sym (found_nowhere (is_session_of c.args.client) c.args.self.now (sym c.in-None.is ∙ c.place.ensures))

pub returns-in-Some : goal.returns-in-Some
returns-in-Some c =
    sym c.at.ensures
    ∙ sym (found_at (is_session_of c.args.client) c.args.self.now c.in-Some.place (sym c.in-Some.is ∙ c.place.ensures))
