-- Installing rows of files that differ, for a client that has none.
use Rattle.std.proofs.Common.{◌≡◌, ℕ, zero, suc, ◌+◌, ◌<◌, Bool, true, false, cond, List, [], ◌∷◌, ◌++◌, map, length, take, get_or, refl, sym, ap, ◌∙◌, ⊎_elim, arith, append_assoc, eq-eqb, filter}
use Rattle.std.specs.Prelude.{find, slice_get, Option, Some, None, not, option_map, ◌&&◌, ◌||◌, ◌==◌}
use Rattle.std.specs.List.{IsDistinct, AllByRecursion, list_all, list_any}
use Rattle.std.proofs.lemmas.Bool.{cases_Bool, and_parts}
use Rattle.std.proofs.lemmas.List.Folds.{list_any-append}
use Rattle.std.proofs.lemmas.List.{map-append, take_more}
use Rattle.st_base.specs.declared.ids.ClientId.{ClientId}
use Rattle.st_base.specs.declared.ids.Life.{Life}
use Rattle.st_base.specs.declared.ids.GrantNo.{GrantNo}
use Rattle.st_base.specs.declared.mode.Mode.{Mode}
use Rattle.st_base.specs.Mode.{conflicts}
use Rattle.st_rules.specs.declared.locks.LockRow.{LockRow}
use Rattle.st_rules.specs.Keys.{client, least, rising, same_client}
use Rattle.st_tables.proofs.RisingKeys.{some_in, some_filter, some_map, some_rising}
use Rattle.st_rules.specs.Locks.{Locks, is_row_of, is_row_by, installed, client_of_row, stands_against, holder_against, first_conflict, conflict_or}
use Rattle.st_lock_tables.specs.Calls.{same_file}

pub first_map : {A B : Type 0} (f : A → B) (xs : List A) → slice_get (map f xs) 0 ≡ option_map f (slice_get xs 0)
first_map f [] = refl
first_map f (x ∷ xs) = refl

find_append : (p : LockRow → Bool) (xs ys : List LockRow) → find p xs ≡ None → find p ys ≡ None → find p (xs ++ ys) ≡ None
find_append p [] ys a b = b
find_append p (x ∷ xs) ys a b =
    ⊎_elim
    (λ q. let a' : Some x ≡ None = rw q at a in cc)
    (λ q. let a' : find p xs ≡ None = rw q at a in ap (λ c. cond c (Some x) (find p (xs ++ ys))) q ∙ find_append p xs ys a' b)
    (cases_Bool (p x))

none_of_client : (c : ClientId) (ino : ℕ) (xs : List LockRow) → list_any (is_row_by c) xs ≡ false → find (is_row_of c ino) xs ≡ None
none_of_client c ino [] h = refl
none_of_client c ino (x ∷ xs) h =
    ⊎_elim
    (λ q. let h' : true ≡ false = ap (λ b. b || list_any (is_row_by c) xs) (sym q) ∙ h in cc)
    (λ q.
    let h' : list_any (is_row_by c) xs ≡ false = ap (λ b. b || list_any (is_row_by c) xs) (sym q) ∙ h in
    ap (λ b. cond (b && (x.ino == ino)) (Some x) (find (is_row_of c ino) xs)) q ∙ none_of_client c ino xs h')
    (cases_Bool (is_row_by c x))

abbrev pub Row : Type 0
Row = ℕ × GrantNo × Mode

all_at : (P : Row → Type 0) (xs : List Row) (i : ℕ) (d : Row) → AllByRecursion P xs → i < length xs → P (get_or xs i d)
all_at P [] i d a l = absurd (omega arith)
all_at P (x ∷ xs) zero d a l = a.0
all_at P (x ∷ xs) (suc i) d a l = all_at P xs i d a.1 (omega arith)

and_false : (b : Bool) → b && false ≡ false
and_false true = refl
and_false false = refl

installed_absent : (c : ClientId) (life : Life) (xs : List Row) (i : ℕ) (d : Row) → IsDistinct same_file xs → i < length xs → find (is_row_of c (get_or xs i d).0) (map (installed c life) (take i xs)) ≡ None
unfolding IsDistinct
installed_absent c life [] i d s l = absurd (omega arith)
installed_absent c life (x ∷ xs) zero d s l = refl
installed_absent c life (x ∷ xs) (suc i) d s l =
    let q : (x.0 == (get_or xs i d).0) ≡ false = all_at (λ y. same_file x y ≡ false) xs i d s.0 (omega arith) in
    let f : same_client c c && (x.0 == (get_or xs i d).0) ≡ false = ap (λ b. same_client c c && b) q ∙ and_false (same_client c c) in
    ap (λ b. cond b (Some (installed c life x)) (find (is_row_of c (get_or xs i d).0) (map (installed c life) (take i xs)))) f
    ∙ installed_absent c life xs i d s.1 (omega arith)

-- the next file's row is new
pub next_absent : (c : ClientId) (life : Life) (rows old : List LockRow) (xs : List Row) (i : ℕ) (d : Row) → rows ≡ old ++ map (installed c life) (take i xs) → list_any (is_row_by c) old ≡ false → IsDistinct same_file xs → i < length xs → find (is_row_of c (get_or xs i d).0) rows ≡ None
next_absent c life rows old xs i d e h s l =
    ap (find (is_row_of c (get_or xs i d).0)) e
    ∙ find_append (is_row_of c (get_or xs i d).0) old (map (installed c life) (take i xs)) (none_of_client c (get_or xs i d).0 old h) (installed_absent c life xs i d s l)

-- No row is in the way of those that are installed.

some_or_none : (xs : List ℕ) → option_map client (slice_get xs 0) ≡ None → some_in xs ≡ false
some_or_none [] e = refl
some_or_none (x ∷ xs) e = cc

-- if no other client's lock conflicts, no row conflicts
pub no_holder : (l : Locks) (c : ClientId) (ino : ℕ) (mode : Mode) → holder_against l c ino mode ≡ None → list_any (stands_against c ino mode) l.rows ≡ false
unfolding least
no_holder l c ino mode e =
    let found = map client_of_row (filter (stands_against c ino mode) l.rows) in
    sym (some_filter (stands_against c ino mode) l.rows) ∙ sym (some_map client_of_row (filter (stands_against c ino mode) l.rows)) ∙ sym (some_rising found) ∙ some_or_none (rising found) e

no_first : (rest : Option (ℕ × ClientId)) (ino : ℕ) (h : Option ClientId) → conflict_or rest ino h ≡ None → (h ≡ None) × (rest ≡ None)
unfolding conflict_or
no_first rest ino None e = (refl, e)
no_first rest ino (Some holder) e = cc

first_free : (l : Locks) (c : ClientId) (xs : List Row) (i : ℕ) (d : Row) → first_conflict l c xs ≡ None → i < length xs → holder_against l c (get_or xs i d).0 (get_or xs i d).2 ≡ None
unfolding first_conflict
first_free l c [] i d e h = absurd (omega arith)
first_free l c (x ∷ xs) zero d e h = (no_first (first_conflict l c xs) x.0 (holder_against l c x.0 x.2) e).0
first_free l c (x ∷ xs) (suc i) d e h = first_free l c xs i d (no_first (first_conflict l c xs) x.0 (holder_against l c x.0 x.2) e).1 (omega arith)

not_own : (b d : Bool) → b && (not true && d) ≡ false
not_own true d = refl
not_own false d = refl

installed_aside : (c : ClientId) (life : Life) (ino : ℕ) (mode : Mode) (xs : List Row) → list_any (stands_against c ino mode) (map (installed c life) xs) ≡ false
installed_aside c life ino mode [] = refl
installed_aside c life ino mode (x ∷ xs) = λ i.
    (ap (λ b. (x.0 == ino) && (not b && conflicts x.2 mode)) (eq-eqb c.0 c.0 refl) ∙ not_own (x.0 == ino) (conflicts x.2 mode)) i || installed_aside c life ino mode xs i

-- the next row conflicts with none, neither of another client nor of those that are installed
pub next_free : (l : Locks) (c : ClientId) (life : Life) (rows : List LockRow) (xs : List Row) (i : ℕ) (d : Row) → rows ≡ l.rows ++ map (installed c life) (take i xs) → first_conflict l c xs ≡ None → i < length xs
    → list_any (stands_against c (get_or xs i d).0 (get_or xs i d).2) rows ≡ false
next_free l c life rows xs i d e h s =
    ap (list_any (stands_against c (get_or xs i d).0 (get_or xs i d).2)) e
    ∙ list_any-append (stands_against c (get_or xs i d).0 (get_or xs i d).2) l.rows (map (installed c life) (take i xs))
    ∙ (λ j. no_holder l c (get_or xs i d).0 (get_or xs i d).2 (first_free l c xs i d h s) j || installed_aside c life (get_or xs i d).0 (get_or xs i d).2 (take i xs) j)

-- what all rows are, each is
pub one_of_all : (p : Row → Bool) (xs : List Row) (i : ℕ) (d : Row) → list_all p xs ≡ true → i < length xs → p (get_or xs i d) ≡ true
one_of_all p [] i d h s = absurd (omega arith)
one_of_all p (x ∷ xs) zero d h s = (and_parts (p x) (list_all p xs) h).0
one_of_all p (x ∷ xs) (suc i) d h s = one_of_all p xs i d (and_parts (p x) (list_all p xs) h).1 (omega arith)
