use Rattle.std.proofs.Common.{◌≡◌, ◌∙◌, ◌+◌, sym, ap, subst, cond, arith, ℕ}
use Rattle.std.specs.Prelude.{Some, None, nat_eq}
use Rattle.st_rules.specs.Keys.{put}
use Rattle.st_tables.specs.declared.keys.Key.{Key}
use Rattle.st_tables.specs.Tables.{IsTable, listed, row_at, place_of, has_key, same_key}
use Rattle.st_tables.proofs.Places.{new_is, new_listed, over_is, over_listed}
use Rattle.st_tables.proofs.table.Table.put.Goals as goal

pub invariant_of-self : goal.invariant_of-self
invariant_of-self g c =
    subst (λ es. IsTable g.V.Row.key_of c.self.inside.next (row_at es) (place_of c.self.inside.places.entries)) (sym c.in_err-insert-in-Some.ensures.err) c.self.invariant

pub invariant_of-self-in-Some : goal.invariant_of-self-in-Some
invariant_of-self-in-Some g c =
    over_is g.V.Row.key_of c.self.inside.next (row_at c.self.inside.rows.entries) (place_of c.self.inside.places.entries) c.self.invariant c.key-key.result c.args.row (row_at c.insert.new.self.entries)
    c.key-key.ensures c.in-Some.place (sym (c.in-Some.ensures ∙ c.get.ensures.value)) c.in_ok-insert-in-Some.ensures.updates.0

pub returns-in_ok-insert-in-Some-clause-ok : goal.returns-in_ok-insert-in-Some-clause-ok
returns-in_ok-insert-in-Some-clause-ok g c =
    subst (λ l. listed c.self.inside.next (row_at c.insert.new.self.entries) ≡ put (has_key g.V.Row.key_of (g.V.Row.key_of c.args.row)) c.args.row l) c.self.view_is
    (subst (λ k. listed c.self.inside.next (row_at c.insert.new.self.entries) ≡ put (has_key g.V.Row.key_of k) c.args.row (listed c.self.inside.next (row_at c.self.inside.rows.entries))) c.key-key.ensures
    (over_listed g.V.Row.key_of c.self.inside.next (row_at c.self.inside.rows.entries) (place_of c.self.inside.places.entries) c.self.invariant c.key-key.result c.args.row (row_at c.insert.new.self.entries)
    c.key-key.ensures c.in-Some.place (sym (c.in-Some.ensures ∙ c.get.ensures.value)) c.in_ok-insert-in-Some.ensures.updates.0))

pub invariant_of-self-in_err-reserve-in-None : goal.invariant_of-self-in_err-reserve-in-None
invariant_of-self-in_err-reserve-in-None g c =
    subst (λ es. IsTable g.V.Row.key_of c.self.inside.next (row_at c.self.inside.rows.entries) (place_of es)) (sym c.reserve.ensures.entries) c.self.invariant

pub invariant_of-self-in_err-reserve-in-None-2 : goal.invariant_of-self-in_err-reserve-in-None-2
invariant_of-self-in_err-reserve-in-None-2 g c =
    subst (λ es. IsTable g.V.Row.key_of c.self.inside.next (row_at es) (place_of c.reserve.new.self.entries)) (sym c.reserve-in-None.ensures.entries)
    (subst (λ es. IsTable g.V.Row.key_of c.self.inside.next (row_at c.self.inside.rows.entries) (place_of es)) (sym c.reserve.ensures.entries) c.self.invariant)

none : (g : _) (c : goal.After-self-1 g) → place_of c.self.inside.places.entries c.key-key.result ≡ None
none g c = sym (c.in-None.ensures ∙ c.get.ensures.value)

rows : (g : _) (c : goal.After-self-1 g) → (q : ℕ) → row_at c.insert-in-None-2.new.self.entries q ≡ cond (nat_eq c.self.inside.next q) (Some c.args.row) (row_at c.self.inside.rows.entries q)
rows g c q = (rw c.unwrap-in-None.ensures at c.insert-in-None-2.ensures.updates).0 q ∙ ap (λ es. cond (nat_eq c.self.inside.next q) (Some c.args.row) (row_at es q)) c.reserve-in-None.ensures.entries

places : (g : _) (c : goal.After-self-1 g) → (q : Key) → place_of c.insert-in-None.new.self.entries q ≡ cond (same_key c.key-key.result q) (Some c.self.inside.next) (place_of c.self.inside.places.entries q)
places g c q = (rw c.unwrap.ensures at c.insert-in-None.ensures.updates).0 q ∙ ap (λ es. cond (same_key c.key-key.result q) (Some c.self.inside.next) (place_of es q)) c.reserve.ensures.entries

pub invariant_of-self-in-None : goal.invariant_of-self-in-None
invariant_of-self-in-None g c =
    new_is g.V.Row.key_of c.self.inside.next (row_at c.self.inside.rows.entries) (place_of c.self.inside.places.entries) c.self.invariant c.key-key.result c.args.row (row_at c.insert-in-None-2.new.self.entries)
    c.key-key.ensures (place_of c.insert-in-None.new.self.entries) (none g c) (rows g c) (places g c) (omega (arith, c.if-self.false, c.self.invariant.small))

pub returns-in_ok-reserve-in-None-2-clause-ok : goal.returns-in_ok-reserve-in-None-2-clause-ok
returns-in_ok-reserve-in-None-2-clause-ok g c =
    subst (λ l. listed (c.self.inside.next + 1) (row_at c.insert-in-None-2.new.self.entries) ≡ put (has_key g.V.Row.key_of (g.V.Row.key_of c.args.row)) c.args.row l) c.self.view_is
    (subst (λ k. listed (c.self.inside.next + 1) (row_at c.insert-in-None-2.new.self.entries) ≡ put (has_key g.V.Row.key_of k) c.args.row (listed c.self.inside.next (row_at c.self.inside.rows.entries))) c.key-key.ensures
    (new_listed g.V.Row.key_of c.self.inside.next (row_at c.self.inside.rows.entries) (place_of c.self.inside.places.entries) c.self.invariant c.key-key.result c.args.row (row_at c.insert-in-None-2.new.self.entries)
    c.key-key.ensures (place_of c.insert-in-None.new.self.entries) (none g c) (rows g c) (places g c)))
