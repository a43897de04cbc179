-- Rows, one after another, each of which is spelled so that its end is known.
use Rattle.std.proofs.Common.{◌≡◌, ℕ, ◌+◌, ◌<◌, ◌≤◌, List, [], ◌∷◌, ◌++◌, length, take, get_or, refl, sym, ap, ◌∙◌, append_assoc, append-nil, arith}
use Rattle.std.specs.List.{AllByRecursion}
use Rattle.std.proofs.lemmas.List.{length-append, take_more}
use Rattle.st_snapshot.specs.Snapshots.{rows}
use Rattle.st_snapshot.specs.Reading.{AreRead, StopsAt}

cons_same : {A : Type 0} (x y : A) (xs ys : List A) → x ≡ y → xs ≡ ys → x ∷ xs ≡ y ∷ ys
cons_same x y xs ys e f = cc

pub rows_more : {A : Type 0} (f : A → List ℕ) (xs : List A) (x : A) → rows f (xs ++ x ∷ []) ≡ rows f xs ++ f x
rows_more f [] x = append-nil (f x)
rows_more f (y ∷ xs) x = ap (λ l. f y ++ l) (rows_more f xs x) ∙ sym (append_assoc (f y) (rows f xs) (f x))

pub each_more : {A : Type 0} (P : A → Type 0) (xs : List A) (x : A) → AllByRecursion P xs → P x → AllByRecursion P (xs ++ x ∷ [])
each_more P [] x a p = (p, tt)
each_more P (y ∷ xs) x a p = (a.0, each_more P xs x a.1 p)

pub none_long : {A : Type 0} (xs : List A) → length xs ≡ 0 → xs ≡ []
none_long [] e = refl
none_long (x ∷ xs) e = absurd (omega (arith, e))

module _ {A : Type 0} (f : A → List ℕ) (fits : A → Type 0) (once : (a b : A) (r q : List ℕ) → fits a → fits b → f a ++ r ≡ f b ++ q → (a ≡ b) × (r ≡ q)) where
  pub rows_once : (xs ys : List A) (r q : List ℕ) → AllByRecursion fits xs → AllByRecursion fits ys → length xs ≡ length ys → rows f xs ++ r ≡ rows f ys ++ q
      → (xs ≡ ys) × (r ≡ q)
  rows_once [] [] r q a b n e = (refl, e)
  rows_once [] (y ∷ ys) r q a b n e = absurd (omega (arith, n))
  rows_once (x ∷ xs) [] r q a b n e = absurd (omega (arith, n))
  rows_once (x ∷ xs) (y ∷ ys) r q a b n e =
      let first = once x y (rows f xs ++ r) (rows f ys ++ q) a.0 b.0 (sym (append_assoc (f x) (rows f xs) r) ∙ (e ∙ append_assoc (f y) (rows f ys) q)) in
      let others = rows_once xs ys r q a.1 b.1 (omega (arith, n)) first.1 in
      (cons_same x y xs ys first.0 others.0, others.1)

  pub rows_stop : (xs ys : List A) (r q : List ℕ) → AllByRecursion fits xs → AllByRecursion fits ys → length xs < length ys → rows f xs ++ r ≡ rows f ys ++ q
      → ((x : A) (more : List ℕ) → fits x → r ≡ f x ++ more → ⊥) → ⊥
  rows_stop xs [] r q a b n e none = omega (arith, n)
  rows_stop [] (y ∷ ys) r q a b n e none = none y (rows f ys ++ q) b.0 (e ∙ append_assoc (f y) (rows f ys) q)
  rows_stop (x ∷ xs) (y ∷ ys) r q a b n e none =
      let first = once x y (rows f xs ++ r) (rows f ys ++ q) a.0 b.0 (sym (append_assoc (f x) (rows f xs) r) ∙ (e ∙ append_assoc (f y) (rows f ys) q)) in
      rows_stop xs ys r q a.1 b.1 (omega (arith, n)) first.1 none

-- rows that were read so far

pub read_none : {A : Type 0} (f : A → List ℕ) (fits : A → Type 0) (bytes : List ℕ) (xs : List A) → xs ≡ [] → AreRead f fits bytes 0 xs bytes
read_none f fits bytes [] e = record { parts = refl; many = refl; each = tt }
read_none f fits bytes (x ∷ xs) e = absurd (omega (arith, ap length e))

pub read_more : {A : Type 0} (f : A → List ℕ) (fits : A → Type 0) (bytes rest more : List ℕ) (n m : ℕ) (xs : List A) (x : A) → AreRead f fits bytes n xs rest →
    rest ≡ f x ++ more → fits x → m ≡ n + 1 → AreRead f fits bytes m (xs ++ x ∷ []) more
read_more f fits bytes rest more n m xs x a e p s = record {
  parts = a.parts ∙ (ap (λ l. rows f xs ++ l) e ∙ (sym (append_assoc (rows f xs) (f x) more) ∙ ap (λ l. l ++ more) (sym (rows_more f xs x))));
  many = omega (arith, length-append xs (x ∷ []), a.many, s);
  each = each_more fits xs x a.each p;
}

pub stops : {A : Type 0} (f : A → List ℕ) (fits : A → Type 0) (bytes rest : List ℕ) (n count whole at : ℕ) (xs : List A) → AreRead f fits bytes n xs rest →
    n < count →
    at + length rest ≡ whole → ((x : A) (more : List ℕ) → fits x → rest ≡ f x ++ more → ⊥) → StopsAt f fits bytes count whole at
stops f fits bytes rest n count whole at xs a l p none =
    record { done = xs; rest = rest; parts = a.parts; fewer = omega (arith, a.many, l); each = a.each; place = p; none = none }

-- the rest of what is read is not longer
pub rest_short : {A : Type 0} (f : A → List ℕ) (fits : A → Type 0) (bytes rest : List ℕ) (n : ℕ) (xs : List A) → AreRead f fits bytes n xs rest →
    length rest ≤ length bytes
rest_short f fits bytes rest n xs a = omega (arith, ap length a.parts, length-append (rows f xs) rest)

-- rows that are written so far
pub written_more : {A : Type 0} (f : A → List ℕ) (old now after : List ℕ) (all : List A) (i : ℕ) (x d : A) → i < length all → now ≡ old ++ rows f (take i all) →
    after ≡ now ++ f x → x ≡ get_or all i d → after ≡ old ++ rows f (take (i + 1) all)
written_more f old now after all i x d l e g is =
    let more : take (i + 1) all ≡ take i all ++ x ∷ [] = take_more all i d l ∙ ap (λ y. take i all ++ y ∷ []) (sym is) in
    let spelled : rows f (take (i + 1) all) ≡ rows f (take i all) ++ f x = ap (rows f) more ∙ rows_more f (take i all) x in
    g ∙ (ap (λ l. l ++ f x) e ∙ (append_assoc old (rows f (take i all)) (f x) ∙ ap (λ l. old ++ l) (sym spelled)))

pub fits_more : {A : Type 0} (P : A → Type 0) (all : List A) (i : ℕ) (x d : A) → i < length all → AllByRecursion P (take i all) → P x → x ≡ get_or all i d →
    AllByRecursion P (take (i + 1) all)
fits_more P all i x d l a p is =
    let more : take (i + 1) all ≡ take i all ++ x ∷ [] = take_more all i d l ∙ ap (λ y. take i all ++ y ∷ []) (sym is) in
    rw more (each_more P (take i all) x a p)
