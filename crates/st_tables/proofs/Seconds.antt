-- The second numbers of keys, collected in any order.
use Rattle.std.proofs.Common.{◌≡◌, ℕ, zero, suc, ◌+◌, ◌<◌, Bool, true, false, if◌then◌else◌, List, [], ◌∷◌, ◌++◌, map, filter, take, refl, sym, ap, subst, ◌∙◌, add-one}
use Rattle.std.specs.Prelude.{Some, slice_get, nat_eq, ◌&&◌, ◌||◌, ◌==◌}
use Rattle.std.specs.List.{IsDistinct, list_any}
use Rattle.std.specs.Map.{keys_of, values_of}
use Rattle.std.proofs.lemmas.List.Folds.{list_any-append}
use Rattle.st_rules.specs.Keys.{rising}
use Rattle.st_tables.specs.declared.keys.Key.{Key}
use Rattle.st_tables.specs.Tables.{listed, row_at, second_of}
use Rattle.st_tables.proofs.Entries.{any_value}
use Rattle.st_tables.proofs.RisingKeys.{has, rising_same, any_map_filter}

module _ {V : Type 0} (key : V → Key) (p : V → Bool) where
  -- the keys are the second numbers of the rows that pass
  abbrev pub AreSeconds : List ℕ → List V → Type 0
  AreSeconds ks rows = (k : ℕ) → has k ks ≡ list_any (λ v. p v && (second_of key v == k)) rows

  take_found : (xs : List V) (i : ℕ) (x : V) → slice_get xs i ≡ Some x → take (suc i) xs ≡ take i xs ++ x ∷ []
  take_found [] i x e = cc
  take_found (y ∷ ys) zero x e = let s : y ≡ x = cc in ap (λ z. z ∷ []) s
  take_found (y ∷ ys) (suc i) x e = ap (λ l. y ∷ l) (take_found ys i x e)

  one_more : (ks : List ℕ) (rows : List V) (x : V) → AreSeconds ks rows → AreSeconds (ks ++ (if p x then second_of key x ∷ [] else [])) (rows ++ x ∷ [])
  one_more ks rows x a k =
      list_any-append (λ n. n == k) ks (if p x then second_of key x ∷ [] else []) ∙ (λ i. a k i || by (p x) i)
      ∙ sym (list_any-append (λ v. p v && (second_of key v == k)) rows (x ∷ []))
    where
      by : (b : Bool) → has k (if b then second_of key x ∷ [] else []) ≡ (b && (second_of key x == k)) || false
      by true = refl
      by false = refl

  -- one more row is looked at
  pub seconds_more : (ks js : List ℕ) (xs : List V) (i : ℕ) (x : V) → slice_get xs i ≡ Some x → js ≡ ks ++ (if p x then second_of key x ∷ [] else []) →
      AreSeconds ks (take i xs) → AreSeconds js (take (i + 1) xs)
  seconds_more ks js xs i x e s a =
      subst (λ l. AreSeconds l (take (i + 1) xs)) (sym s)
      (subst (AreSeconds (ks ++ (if p x then second_of key x ∷ [] else []))) (sym (ap (λ n. take n xs) (add-one i) ∙ take_found xs i x e))
      (one_more ks (take i xs) x a))

  -- all rows were looked at
  pub seconds_are : (ks : List ℕ) (n : ℕ) (es : List (ℕ × V)) → IsDistinct nat_eq (keys_of es) → ((i : ℕ) (v : V) → row_at es i ≡ Some v → i < n) →
      AreSeconds ks (values_of es) → rising ks ≡ rising (map (second_of key) (filter p (listed n (row_at es))))
  seconds_are ks n es d l a =
      rising_same ks (map (second_of key) (filter p (listed n (row_at es))))
      (λ k. a k ∙ sym (any_value (λ v. p v && (second_of key v == k)) n es d l) ∙ sym (any_map_filter (second_of key) p k (listed n (row_at es))))

-- one more row is looked at
pub any_next : {V : Type 0} (p : V → Bool) (xs : List V) (i : ℕ) (x : V) → slice_get xs i ≡ Some x →
    list_any p (take (i + 1) xs) ≡ list_any p (take i xs) || p x
any_next p xs i x e = ap (λ n. list_any p (take n xs)) (add-one i) ∙ from p xs i x e
  where
    alone : (b : Bool) → b || false ≡ b
    alone true = refl
    alone false = refl

    turn : (a b c : Bool) → a || (b || c) ≡ (a || b) || c
    turn true b c = refl
    turn false b c = refl

    from : {V : Type 0} (p : V → Bool) (xs : List V) (i : ℕ) (x : V) → slice_get xs i ≡ Some x → list_any p (take (suc i) xs) ≡ list_any p (take i xs) || p x
    from p [] i x e = cc
    from p (y ∷ ys) zero x e = let s : y ≡ x = cc in alone (p y) ∙ ap p s
    from p (y ∷ ys) (suc i) x e = ap (λ b. p y || b) (from p ys i x e) ∙ turn (p y) (list_any p (take i ys)) (p x)
