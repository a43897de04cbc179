use Rattle.std.proofs.Common.{◌≡◌, ◌∙◌, sym, subst, length, map}
use Rattle.std.specs.List.{IsDistinct}
use Rattle.st_tables.specs.Tables.{row_at, place_of, same_key}
use Rattle.st_tables.proofs.Entries.{listed_length, distinct_keys}
use Rattle.st_tables.proofs.table.Table.len.Goals as goal

pub returns-clause-len : goal.returns-clause-len
returns-clause-len g c =
    subst (λ l. c.len.result ≡ length l) c.self.view_is
    (c.len.ensures.len ∙ sym (listed_length c.self.inside.next c.self.inside.rows.entries c.len.ensures.unique (λ i v e. (c.self.invariant.placed i v e).0)))

pub returns-clause-distinct : goal.returns-clause-distinct
returns-clause-distinct g c =
    subst (λ l. IsDistinct same_key (map g.V.Row.key_of l)) c.self.view_is
    (distinct_keys g.V.Row.key_of c.self.inside.next (row_at c.self.inside.rows.entries) (place_of c.self.inside.places.entries) c.self.invariant c.self.inside.next)
