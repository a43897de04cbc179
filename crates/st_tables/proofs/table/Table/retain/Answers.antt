use Rattle.std.proofs.Common.{◌≡◌, subst, filter}
use Rattle.st_tables.specs.Tables.{listed, row_at, place_of}
use Rattle.st_tables.proofs.Places.{kept_is, kept_listed}
use Rattle.st_tables.proofs.table.Table.retain.Goals as goal

pub invariant_of-self : goal.invariant_of-self
invariant_of-self g c =
    kept_is g.V.Row.key_of c.self.inside.next (row_at c.self.inside.rows.entries) (place_of c.self.inside.places.entries) c.self.invariant (g.T.Test.passes c.args.test.now)
    (row_at c.keep_rows.new.rows.entries) (place_of c.keep_places.new.places.entries) c.keep_rows.ensures c.keep_places.ensures

pub returns : goal.returns
returns g c =
    subst (λ l. listed c.self.inside.next (row_at c.keep_rows.new.rows.entries) ≡ filter (g.T.Test.passes c.args.test.now) l) c.self.view_is
    (kept_listed g.V.Row.key_of c.self.inside.next (row_at c.self.inside.rows.entries) (place_of c.self.inside.places.entries) c.self.invariant (g.T.Test.passes c.args.test.now)
    (row_at c.keep_rows.new.rows.entries) (place_of c.keep_places.new.places.entries) c.keep_rows.ensures c.keep_places.ensures)
