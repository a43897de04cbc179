-- The moments at which files are looked at again, in their order.
use Rattle.std.proofs.Common.{◌≡◌, ℕ, suc, ◌+◌, ◌<◌, ◌≤◌, Bool, true, false, cond, List, [], ◌∷◌, refl, sym, ap, ◌∙◌, true≢false, arith}
use Rattle.std.specs.Prelude.{nat_le, nat_lt, ◌==◌, ◌&&◌, ◌||◌}
use Rattle.std.specs.BTreeSet.{BTreeSet, contains}
use Rattle.std.specs.List.{All, list_any}
use Rattle.std.specs.declared.cmp.Ordering.TheVariants.{Less, Equal, Greater}
use Rattle.std.specs.Ordering.{nat_cmp, ordering_then, is_eq, is_gt}
use Rattle.std.proofs.lemmas.Bool.{and_parts, eqb-true, eq-eqb, leb-false, lt-leb, ltb-true}
use Rattle.st_base.specs.declared.config.Config.{Config}
use Rattle.st_base.specs.declared.ids.Stamp.{Stamp}
use Rattle.st_locks.specs.SettledFiles.{is_by, is_kept, is_old, moment_order}
use Rattle.st_lock_tables.proofs.Overdue.{some_one}
use Rattle.st_lock_tables.proofs.SinceKeys.{equal_numbers, then_equal}

same_moment : (k q : Stamp × ℕ) → is_eq (moment_order k q) ≡ (q.0.0 == k.0.0) && (q.1 == k.1)
same_moment k q = then_equal (nat_cmp k.0.0 q.0.0) (nat_cmp k.1 q.1) ∙ (λ i. equal_numbers k.0.0 q.0.0 i && equal_numbers k.1 q.1 i)

itself : (k : Stamp × ℕ) → is_eq (moment_order k k) ≡ true
itself k = same_moment k k ∙ (λ i. eq-eqb k.0.0 k.0.0 refl i && eq-eqb k.1 k.1 refl i)

put_true : (b d : Bool) → d ≡ true → cond b true d ≡ true
put_true true d e = refl
put_true false d e = e

-- what is in a set stands for one moment of it
from_set : (set : BTreeSet (Stamp × ℕ)) (k : Stamp × ℕ) (j : ℕ) (s : Stamp) → contains moment_order set k ≡ true → is_by j s k ≡ true → is_kept set.keys j s ≡ true
from_set set k j s e b =
    let y = some_one (λ q. is_eq (moment_order k q)) set.keys e in
    let a = and_parts (y.0.0.0 == k.0.0) (y.0.1 == k.1) (sym (same_moment k y.0) ∙ y.1) in
    y.2 (is_by j s) ((λ i. (eqb-true y.0.1 k.1 a.1 i == j) && nat_le (eqb-true y.0.0.0 k.0.0 a.0 i) s.0) ∙ b)

module _ (old new : BTreeSet (Stamp × ℕ)) (key : Stamp × ℕ) (updates : (q : Stamp × ℕ) → contains moment_order new q ≡ cond (is_eq (moment_order key q)) true (contains moment_order old q)) where
  -- one moment more
  pub keeps_put : (j : ℕ) (s : Stamp) → is_kept old.keys j s ≡ true → is_kept new.keys j s ≡ true
  keeps_put j s e =
      let x = some_one (is_by j s) old.keys e in
      from_set new x.0 j s (updates x.0 ∙ put_true (is_eq (moment_order key x.0)) (contains moment_order old x.0) (x.2 (λ q. is_eq (moment_order x.0 q)) (itself x.0))) x.1

  pub kept_put : (j : ℕ) (s : Stamp) → is_by j s key ≡ true → is_kept new.keys j s ≡ true
  kept_put j s e = from_set new key j s (updates key ∙ ap (λ b. cond b true (contains moment_order old key)) (itself key)) e

pub by_own : (ino : ℕ) (s : Stamp) → is_by ino s (s, ino) ≡ true
by_own ino s = λ i. eq-eqb ino ino refl i && own i
  where
    own : nat_le s.0 s.0 ≡ true
    own = lt-own s.0
      where
        lt-own : (n : ℕ) → nat_le n n ≡ true
        lt-own n = grind arith

-- If the first moment is not old, none is.

not_later : (a b x y : ℕ) (e f : Bool) → nat_lt a b ≡ e → (a == b) ≡ f → is_gt (ordering_then (cond e Less (cond f Equal Greater)) (nat_cmp x y)) ≡ false → a ≤ b
not_later a b x y true f p q h = let l = ltb-true a b p in omega (arith, l)
not_later a b x y false true p q h = let l = eqb-true a b q in omega (arith, l)
not_later a b x y false false p q h = absurd (true≢false h)

young_by : (k : Config) (now : Stamp) (x y : Stamp × ℕ) → is_gt (moment_order x y) ≡ false → is_old k now x ≡ false → is_old k now y ≡ false
young_by k now x y o f =
    let l : x.0.0 ≤ y.0.0 = not_later x.0.0 y.0.0 x.1 y.1 (nat_lt x.0.0 y.0.0) (x.0.0 == y.0.0) refl refl o in
    let g : now.0 < x.0.0 + k.retry = leb-false (x.0.0 + k.retry) now.0 f in
    lt-leb (y.0.0 + k.retry) now.0 (omega (arith, l, g))

pub none_old : (k : Config) (now : Stamp) (x : Stamp × ℕ) (ys : List (Stamp × ℕ)) → All (λ y. is_gt (moment_order x y) ≡ false) ys → is_old k now x ≡ false → list_any (is_old k now) ys ≡ false
none_old k now x [] a f = refl
none_old k now x (y ∷ ys) a f =
    ap (λ b. b || list_any (is_old k now) ys) (young_by k now x y (a 0 y (omega arith)) f)
    ∙ none_old k now x ys (λ i d l. a (suc i) d (omega (arith, l))) f
