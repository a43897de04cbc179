use Rattle.std.proofs.Common.{◌≡◌, ◌∙◌, refl, sym, ap, subst, if◌then◌else◌, map, find}
use Rattle.std.specs.Prelude.{Some, None, IsSome}
use Rattle.st_tables.specs.Tables.{listed, row_at, place_of, has_key}
use Rattle.st_tables.proofs.Places.{there, over_is, changed_listed, none_found, found_at}
use Rattle.st_tables.proofs.Counts.{missing_is_map}
use Rattle.st_tables.proofs.table.Table.change.Goals as goal

pub write-requires : goal.write-requires
write-requires g c =
    let r = there g.V.Row.key_of c.self.inside.next (row_at c.self.inside.rows.entries) (place_of c.self.inside.places.entries) c.self.invariant c.key-key.result c.in-Some.place (sym (c.in-Some.ensures ∙ c.get.ensures.value)) in
    subst IsSome (sym r.1.0) refl

pub invariant_of-self : goal.invariant_of-self
invariant_of-self g c =
    over_is g.V.Row.key_of c.self.inside.next (row_at c.self.inside.rows.entries) (place_of c.self.inside.places.entries) c.self.invariant c.key-key.result c.args.row (row_at c.write.new.rows.entries)
    c.key-key.ensures c.in-Some.place (sym (c.in-Some.ensures ∙ c.get.ensures.value)) c.write.ensures

pub returns-in-Some-clause-changed : goal.returns-in-Some-clause-changed
returns-in-Some-clause-changed g c = λ f v found same.
    subst (λ l. listed c.self.inside.next (row_at c.write.new.rows.entries) ≡ map (λ r. if has_key g.V.Row.key_of (g.V.Row.key_of c.args.row) r then f r else r) l) c.self.view_is
    (changed_listed g.V.Row.key_of c.self.inside.next (row_at c.self.inside.rows.entries) (place_of c.self.inside.places.entries) c.self.invariant c.args.row c.in-Some.place (row_at c.write.new.rows.entries)
    (ap (place_of c.self.inside.places.entries) (sym c.key-key.ensures) ∙ sym (c.in-Some.ensures ∙ c.get.ensures.value)) c.write.ensures f v
    (subst (λ l. find (has_key g.V.Row.key_of (g.V.Row.key_of c.args.row)) l ≡ Some v) (sym c.self.view_is) found) same)

pub returns-in_default-clause-changed : goal.returns-in_default-clause-changed
returns-in_default-clause-changed g c = λ f v found same.
    let a = none_found g.V.Row.key_of c.self.inside.next (row_at c.self.inside.rows.entries) (place_of c.self.inside.places.entries) c.self.invariant (g.V.Row.key_of c.args.row)
    (ap (place_of c.self.inside.places.entries) (sym c.key-key.ensures) ∙ sym (c.in_default.ensures ∙ c.get.ensures.value)) in
    let b = subst (λ l. find (has_key g.V.Row.key_of (g.V.Row.key_of c.args.row)) l ≡ None) c.self.view_is a in
    let d : None ≡ Some v = sym b ∙ found in
    cc

pub returns-in-Some-clause-written : goal.returns-in-Some-clause-written
returns-in-Some-clause-written g c =
    let here = ap (place_of c.self.inside.places.entries) (sym c.key-key.ensures) ∙ sym (c.in-Some.ensures ∙ c.get.ensures.value) in
    let r = there g.V.Row.key_of c.self.inside.next (row_at c.self.inside.rows.entries) (place_of c.self.inside.places.entries) c.self.invariant (g.V.Row.key_of c.args.row) c.in-Some.place here in
    subst (λ l. listed c.self.inside.next (row_at c.write.new.rows.entries) ≡ map (λ r. if has_key g.V.Row.key_of (g.V.Row.key_of c.args.row) r then c.args.row else r) l) c.self.view_is
    (changed_listed g.V.Row.key_of c.self.inside.next (row_at c.self.inside.rows.entries) (place_of c.self.inside.places.entries) c.self.invariant c.args.row c.in-Some.place (row_at c.write.new.rows.entries)
    here c.write.ensures (λ _. c.args.row) r.0 (found_at g.V.Row.key_of c.self.inside.next (row_at c.self.inside.rows.entries) (place_of c.self.inside.places.entries) c.self.invariant (g.V.Row.key_of c.args.row) c.in-Some.place here ∙ r.1.0) refl)

pub returns-in_default-clause-written : goal.returns-in_default-clause-written
returns-in_default-clause-written g c =
    let a = none_found g.V.Row.key_of c.self.inside.next (row_at c.self.inside.rows.entries) (place_of c.self.inside.places.entries) c.self.invariant (g.V.Row.key_of c.args.row)
    (ap (place_of c.self.inside.places.entries) (sym c.key-key.ensures) ∙ sym (c.in_default.ensures ∙ c.get.ensures.value)) in
    sym (missing_is_map (has_key g.V.Row.key_of (g.V.Row.key_of c.args.row)) (λ _. c.args.row) c.args.self.now (subst (λ l. find (has_key g.V.Row.key_of (g.V.Row.key_of c.args.row)) l ≡ None) c.self.view_is a))
