use Rattle.std.proofs.Common.{◌≡◌, sym, subst, filter, not}
use Rattle.st_tables.specs.Tables.{IsTable, listed, row_at, place_of, has_key}
use Rattle.st_tables.proofs.Places.{gone_is, gone_listed, none_gone}
use Rattle.st_tables.proofs.table.Table.remove.Goals as goal

pub invariant_of-self : goal.invariant_of-self
invariant_of-self g c =
    gone_is g.V.Row.key_of c.self.inside.next (row_at c.self.inside.rows.entries) (place_of c.self.inside.places.entries) c.self.invariant c.args.key c.in-Some.place
    (row_at c.swap_remove-row.new.self.entries) (place_of c.swap_remove.new.self.entries) (sym c.in-Some.ensures.value) c.swap_remove-row.ensures.updates.0 c.swap_remove.ensures.updates.0

pub returns-in-Some : goal.returns-in-Some
returns-in-Some g c =
    subst (λ l. listed c.self.inside.next (row_at c.swap_remove-row.new.self.entries) ≡ filter (λ v. not (has_key g.V.Row.key_of c.args.key v)) l) c.self.view_is
    (gone_listed g.V.Row.key_of c.self.inside.next (row_at c.self.inside.rows.entries) (place_of c.self.inside.places.entries) c.self.invariant c.args.key c.in-Some.place
    (row_at c.swap_remove-row.new.self.entries) (place_of c.swap_remove.new.self.entries) (sym c.in-Some.ensures.value) c.swap_remove-row.ensures.updates.0 c.swap_remove.ensures.updates.0)

pub invariant_of-self-in_default : goal.invariant_of-self-in_default
invariant_of-self-in_default g c =
    subst (λ es. IsTable g.V.Row.key_of c.self.inside.next (row_at c.self.inside.rows.entries) (place_of es)) (sym c.in_default.ensures.unchanged) c.self.invariant

pub returns-in_default : goal.returns-in_default
returns-in_default g c =
    subst (λ l. l ≡ filter (λ v. not (has_key g.V.Row.key_of c.args.key v)) c.args.self.now) (sym c.self.view_is)
    (subst (λ l. l ≡ filter (λ v. not (has_key g.V.Row.key_of c.args.key v)) l) c.self.view_is
    (sym (none_gone g.V.Row.key_of c.self.inside.next (row_at c.self.inside.rows.entries) (place_of c.self.inside.places.entries) c.self.invariant c.args.key (sym c.in_default.ensures.value))))
