use Rattle.std.proofs.Common.{◌≡◌, ◌∙◌, sym, ap, subst}
use Rattle.std.specs.Prelude.{None, find}
use Rattle.std.specs.Option.{option_copied}
use Rattle.st_tables.specs.Tables.{row_at, place_of, has_key}
use Rattle.st_tables.proofs.Places.{none_found, found_at}
use Rattle.st_tables.proofs.table.Table.get.Goals as goal

pub returns-in_err-place : goal.returns-in_err-place
returns-in_err-place g c =
    record {
      found = ap option_copied c.from_residual.ensures
          ∙ sym (subst (λ l. find (has_key g.V.Row.key_of c.args.key) l ≡ None) c.self.view_is
          (none_found g.V.Row.key_of c.self.inside.next (row_at c.self.inside.rows.entries) (place_of c.self.inside.places.entries) c.self.invariant c.args.key (sym c.in_err-place.ensures.value)));
    }

pub returns : goal.returns
returns g c =
    record {
      found = c.get-2.ensures.value
          ∙ sym (subst (λ l. find (has_key g.V.Row.key_of c.args.key) l ≡ row_at c.self.inside.rows.entries c.in_ok-place.place.now) c.self.view_is
          (found_at g.V.Row.key_of c.self.inside.next (row_at c.self.inside.rows.entries) (place_of c.self.inside.places.entries) c.self.invariant c.args.key c.in_ok-place.place.now (sym c.in_ok-place.ensures.value)));
    }
