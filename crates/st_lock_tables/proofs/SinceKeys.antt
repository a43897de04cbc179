-- One key of the set of waiting demands.
use Rattle.std.proofs.Common.{◌≡◌, ℕ, Bool, true, false, cond, List, [], ◌∷◌, filter, refl, sym, ap, ◌∙◌, ⊎_elim, true≢false, arith}
use Rattle.std.specs.Prelude.{◌&&◌, ◌||◌, ◌==◌, nat_lt, not}
use Rattle.std.specs.declared.cmp.Ordering.{Ordering}
use Rattle.std.specs.declared.cmp.Ordering.TheVariants.{Less, Equal, Greater}
use Rattle.std.specs.Ordering.{nat_cmp, ordering_then, is_eq}
use Rattle.std.proofs.lemmas.Bool.{cases_Bool, and_parts, ltb-true, ne_eqb, eqb-true}
use Rattle.st_base.specs.declared.ids.ClientId.{ClientId}
use Rattle.st_base.specs.declared.ids.Stamp.{Stamp}
use Rattle.std.specs.List.{list_any}
use Rattle.st_rules.specs.Keys.{same_client}
use Rattle.st_lock_tables.specs.DemandStarts.{same_wait, wait_order}

eq_turn : (a b : ℕ) → (a == b) ≡ (b == a)
eq_turn a b = grind arith

by_equal : (a b : ℕ) (e : Bool) → (a == b) ≡ e → is_eq (cond e Equal Greater) ≡ (b == a)
by_equal a b true q = sym q ∙ eq_turn a b
by_equal a b false q = sym q ∙ eq_turn a b

by_less : (a b : ℕ) (l : Bool) → nat_lt a b ≡ l → is_eq (cond l Less (cond (a == b) Equal Greater)) ≡ (b == a)
by_less a b true q = let l = ltb-true a b q in sym (ne_eqb b a (λ (z : b ≡ a). omega (arith, z, l)))
by_less a b false q = by_equal a b (a == b) refl

pub equal_numbers : (a b : ℕ) → is_eq (nat_cmp a b) ≡ (b == a)
equal_numbers a b = by_less a b (nat_lt a b) refl

pub then_equal : (o p : Ordering) → is_eq (ordering_then o p) ≡ is_eq o && is_eq p
then_equal Less p = refl
then_equal Equal p = refl
then_equal Greater p = refl

and_turn : (a b d : Bool) → (a && b) && d ≡ a && (d && b)
and_turn true true true = refl
and_turn true true false = refl
and_turn true false true = refl
and_turn true false false = refl
and_turn false b d = refl

pub same_key : (k q : Stamp × ℕ × ClientId) → is_eq (wait_order k q) ≡ same_wait q k
same_key k q =
    then_equal (ordering_then (nat_cmp k.0.0 q.0.0) (nat_cmp k.1 q.1)) (nat_cmp k.2.0 q.2.0)
    ∙ (λ i. (then_equal (nat_cmp k.0.0 q.0.0) (nat_cmp k.1 q.1) ∙ (λ j. equal_numbers k.0.0 q.0.0 j && equal_numbers k.1 q.1 j)) i && equal_numbers k.2.0 q.2.0 i)
    ∙ and_turn (q.0.0 == k.0.0) (q.1 == k.1) (q.2.0 == k.2.0)

taken_by : (b d : Bool) → cond b false d ≡ d && not b
taken_by true true = refl
taken_by true false = refl
taken_by false true = refl
taken_by false false = refl

put_by : (b d : Bool) → cond b true d ≡ d || b
put_by true true = refl
put_by true false = refl
put_by false true = refl
put_by false false = refl

-- what is there once one key is taken out
pub taken : (k q : Stamp × ℕ × ClientId) (d : Bool) → cond (is_eq (wait_order k q)) false d ≡ d && not (same_wait q k)
taken k q d = taken_by (is_eq (wait_order k q)) d ∙ ap (λ b. d && not b) (same_key k q)

-- what is there once one key is put in
pub put : (k q : Stamp × ℕ × ClientId) (d : Bool) → cond (is_eq (wait_order k q)) true d ≡ d || same_wait q k
put k q d = put_by (is_eq (wait_order k q)) d ∙ ap (λ b. d || b) (same_key k q)

pub none_put : (d k : Bool) → d ≡ d || (false && k)
none_put true k = refl
none_put false k = refl

module _ {A : Type 0} (P g : A → Bool) where
  false_by : (x : A) (b : Bool) (xs : List A) → (b ≡ true → P x ≡ false) → list_any P xs ≡ false → list_any P (cond b (x ∷ xs) xs) ≡ false
  false_by x true xs h e = λ i. h refl i || e i
  false_by x false xs h e = e

  any_filter_false : (xs : List A) → ((x : A) → g x ≡ true → P x ≡ false) → list_any P (filter g xs) ≡ false
  any_filter_false [] h = refl
  any_filter_false (x ∷ xs) h = false_by x (g x) (filter g xs) (h x) (any_filter_false xs h)

  same_by : (x : A) (b : Bool) (xs ys : List A) → (b ≡ false → P x ≡ false) → list_any P xs ≡ list_any P ys → list_any P (cond b (x ∷ xs) xs) ≡ P x || list_any P ys
  same_by x true xs ys h e = ap (λ b. P x || b) e
  same_by x false xs ys h e = e ∙ (λ i. sym (h refl) i || list_any P ys)

  any_filter_same : (xs : List A) → ((x : A) → g x ≡ false → P x ≡ false) → list_any P (filter g xs) ≡ list_any P xs
  any_filter_same [] h = refl
  any_filter_same (x ∷ xs) h = same_by x (g x) (filter g xs) xs (h x) (any_filter_same xs h)

and_no : (b : Bool) → false ≡ b && false
and_no true = refl
and_no false = refl

and_yes : (b : Bool) → b ≡ b && true
and_yes true = refl
and_yes false = refl

-- the waits of other clients stay
pub kept_others : (client : ClientId) (k : Stamp × ℕ × ClientId) (qs : List (Stamp × ℕ × ClientId)) → list_any (λ q. is_eq (wait_order k q)) (filter (λ q. not (same_client q.2 client)) qs) ≡ list_any (λ q. is_eq (wait_order k q)) qs && not (same_client k.2 client)
kept_others client k qs =
    ⊎_elim
    (λ t.
    any_filter_false (λ q. is_eq (wait_order k q)) (λ q. not (same_client q.2 client)) qs
    (λ q g. ⊎_elim (λ e. absurd (true≢false (sym g ∙ ap (λ n. not (n == client.0)) (of_key q e) ∙ ap not t))) (λ e. e) (cases_Bool (is_eq (wait_order k q))))
    ∙ and_no (list_any (λ q. is_eq (wait_order k q)) qs) ∙ ap (λ b. list_any (λ q. is_eq (wait_order k q)) qs && not b) (sym t))
    (λ t.
    any_filter_same (λ q. is_eq (wait_order k q)) (λ q. not (same_client q.2 client)) qs
    (λ q g. ⊎_elim (λ e. absurd (true≢false (sym (ap not t) ∙ ap (λ n. not (n == client.0)) (sym (of_key q e)) ∙ g))) (λ e. e) (cases_Bool (is_eq (wait_order k q))))
    ∙ and_yes (list_any (λ q. is_eq (wait_order k q)) qs) ∙ ap (λ b. list_any (λ q. is_eq (wait_order k q)) qs && not b) (sym t))
    (cases_Bool (same_client k.2 client))
  where
    of_key : (q : Stamp × ℕ × ClientId) → is_eq (wait_order k q) ≡ true → q.2.0 ≡ k.2.0
    of_key q e = eqb-true q.2.0 k.2.0 (and_parts (same_client q.2 k.2) (q.1 == k.1) (and_parts (q.0.0 == k.0.0) (same_client q.2 k.2 && (q.1 == k.1)) (sym (same_key k q) ∙ e)).1).0
