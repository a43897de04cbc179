use Rattle.std.proofs.Common.{◌≡◌, ◌<◌, List, Some, length, set, sym, subst}
use Rattle.std.specs.Prelude.{slice_get}
use Rattle.st_rules.specs.declared.sessions.Session.{Session}
use Rattle.st_sessions.proofs.Seated.{seated_state}
use Rattle.st_sessions.proofs.table.SessionTable.set_state.Goals as goal

pub invariant_of-self : goal.invariant_of-self
invariant_of-self c =
    seated_state c.self.inside.rows.items c.set_state.new.rows.items c.self.inside.seats.items c.args.place c.args.state c.self.invariant
    (subst (λ (rows : List Session). c.args.place < length rows) (sym c.self.view_is) c.requires) c.set_state.ensures

pub returns : goal.returns
returns c =
    subst (λ (rows : List Session). (s : Session) → slice_get rows c.args.place ≡ Some s → c.set_state.new.rows.items ≡ set rows c.args.place (record s { state = c.args.state }))
    c.self.view_is c.set_state.ensures
