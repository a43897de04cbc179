use Rattle.std.proofs.Common.{◌∙◌, ap, find}
use Rattle.std.specs.Prelude.{is_some}
use Rattle.st_tables.specs.Tables.{row_at, place_of, has_key}
use Rattle.st_tables.proofs.Places.{held}
use Rattle.st_tables.proofs.table.Table.holds.Goals as goal

pub returns : goal.returns
returns g c =
    c.contains_key.ensures ∙ held g.V.Row.key_of c.self.inside.next (row_at c.self.inside.rows.entries) (place_of c.self.inside.places.entries) c.self.invariant c.args.key
    ∙ ap (λ l. is_some (find (has_key g.V.Row.key_of c.args.key) l)) c.self.view_is
