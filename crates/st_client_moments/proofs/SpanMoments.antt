-- The first moment of a span, and of several spans, that a clock may read.
use Rattle.std.proofs.Common.{◌≡◌, ℕ, zero, suc, ◌+◌, ◌<◌, ◌≤◌, Bool, true, false, cond, if◌then◌else◌, List, [], ◌∷◌, ◌++◌, length, take, get_or, refl, sym, ap, ◌∙◌, ◌⊎◌, inl, inr, arith, add-one, append_assoc, le-leb}
use Rattle.std.specs.Prelude.{filter_map, max, min, nat_le, nat_lt, Option, Some, None, slice_get, ◌&&◌}
use Rattle.std.specs.List.{cons_option, flat_map}
use Rattle.std.specs.Option.{option_to_list}
use Rattle.std.proofs.Math.Nat.{max-eq_left, max-eq_right, min-eq_left, min-eq_right}
use Rattle.std.proofs.lemmas.Bool.{cases_lt, le-ltb, lt-leb, lt-ltb}
use Rattle.std.proofs.lemmas.List.{append-nil, take_more}
use Rattle.std.proofs.lemmas.List.Concat.{flat_map-append}
use Rattle.std.proofs.lemmas.List.Elements.{filter_map-append}
use Rattle.st_base.specs.declared.ids.Stamp.{Stamp}
use Rattle.st_client_due.specs.Spans.{Span, first_in, from_on, if_within, until}
use Rattle.st_client_moments.specs.FirstMoments.{first_readable}
use Rattle.st_due.specs.Moments.{earliest, readable, readable_by, sooner}
use Rattle.st_due.proofs.EarliestFound.{next_found}

-- One span.

le_self : (n : ℕ) → nat_le n n ≡ true
le_self n = le-leb n n (omega arith)

-- from its start on
begun : (f m : ℕ) → first_in f (from_on m) ≡ Some (if nat_le m f then f else m)
begun f m = by (cases_lt f m)
  where
    by : (f < m) ⊎ (m ≤ f) → first_in f (from_on m) ≡ Some (if nat_le m f then f else m)
    by (inl l) =
        let k : f ≤ m = omega (arith, l) in
        ap (if_within (from_on m)) (max-eq_right k) ∙ ap (λ b. cond (b && true) (Some m) None) (le_self m) ∙ ap (λ b. Some (cond b f m)) (sym (lt-leb m f l))
    by (inr l) =
        ap (if_within (from_on m)) (max-eq_left l) ∙ ap (λ b. cond (b && true) (Some f) None) (le-leb m f l) ∙ ap (λ b. Some (cond b f m)) (sym (le-leb m f l))

-- up to its end
ended : (f e : ℕ) → first_in f (until e) ≡ (if nat_le e f then None else Some f)
ended f e = by (cases_lt f e)
  where
    start : max f 0 ≡ f
    start = max-eq_left (omega arith)

    by : (f < e) ⊎ (e ≤ f) → first_in f (until e) ≡ (if nat_le e f then None else Some f)
    by (inl l) =
        ap (if_within (until e)) start
        ∙ ap (λ b. cond (b && nat_lt f e) (Some f) None) (le-leb 0 f (omega arith))
        ∙ ap (λ b. cond b (Some f) None) (lt-ltb f e l)
        ∙ ap (λ b. cond b None (Some f)) (sym (lt-leb e f l))
    by (inr l) =
        ap (if_within (until e)) start
        ∙ ap (λ b. cond (b && nat_lt f e) (Some f) None) (le-leb 0 f (omega arith))
        ∙ ap (λ b. cond b (Some f) None) (not_lt l)
        ∙ ap (λ b. cond b None (Some f)) (sym (le-leb e f l))
      where
        not_lt : e ≤ f → nat_lt f e ≡ false
        not_lt l = le-ltb f e l

one : (o : Option ℕ) → earliest (cons_option o []) ≡ o
one None = refl
one (Some m) = refl

pub first_since : (from : Stamp) (m : ℕ) → first_readable from (from_on m ∷ []) ≡ (if nat_le m from.0 then readable from.0 else readable m)
first_since from m = ap readable_by (one (first_in from.0 (from_on m)) ∙ begun from.0 m) ∙ by (nat_le m from.0)
  where
    by : (b : Bool) → readable (cond b from.0 m) ≡ cond b (readable from.0) (readable m)
    by true = refl
    by false = refl

pub first_at_once : (from : Stamp) → first_readable from (from_on 0 ∷ []) ≡ readable from.0
first_at_once from = first_since from 0 ∙ ap (λ b. cond b (readable from.0) (readable 0)) (le-leb 0 from.0 (omega arith))

pub first_before : (from : Stamp) (e : ℕ) → first_readable from (until e ∷ []) ≡ (if nat_le e from.0 then None else readable from.0)
first_before from e = ap readable_by (one (first_in from.0 (until e)) ∙ ended from.0 e) ∙ by (nat_le e from.0)
  where
    by : (b : Bool) → readable_by (cond b None (Some from.0)) ≡ cond b None (readable from.0)
    by true = refl
    by false = refl

-- The bound of quiesce.

-- the lesser of two sums
pub min_sum : (d m n : ℕ) → min (d + m) (d + n) ≡ d + min m n
min_sum d m n = by (cases_lt m n)
  where
    by : (m < n) ⊎ (n ≤ m) → min (d + m) (d + n) ≡ d + min m n
    by (inl l) = min-eq_left (omega (arith, l)) ∙ ap (λ k. d + k) (sym (min-eq_left (omega (arith, l))))
    by (inr l) = min-eq_right (omega (arith, l)) ∙ ap (λ k. d + k) (sym (min-eq_right (omega (arith, l))))

-- no moment is before 0
pub never_before : (from : Stamp) → first_readable from (until 0 ∷ []) ≡ None
never_before from = first_before from 0 ∙ ap (λ b. cond b None (readable from.0)) (le-leb 0 from.0 (omega arith))

-- Several spans.

-- with nothing after them
pub first_alone : (from : Stamp) (xs : List Span) → first_readable from (xs ++ []) ≡ first_readable from xs
first_alone from xs = ap (first_readable from) (append-nil xs)

-- those of two lists
pub first_joined : (from : Stamp) (xs ys : List Span) → sooner (first_readable from xs) (first_readable from ys) ≡ first_readable from (xs ++ ys)
first_joined from xs ys =
    next_found (filter_map (first_in from.0) xs) (filter_map (first_in from.0) ys) (first_readable from xs) (first_readable from ys) refl refl
    ∙ ap (λ ms. readable_by (earliest ms)) (sym (filter_map-append (first_in from.0) xs ys))

-- what was found in two lists is what is found in both
pub joined : (from : Stamp) (xs ys : List Span) (a b first : Option ℕ) → first ≡ sooner a b → a ≡ first_readable from xs → b ≡ first_readable from ys → first ≡ first_readable from (xs ++ ys)
joined from xs ys a b first e f g = e ∙ (λ j. sooner (f j) (g j)) ∙ first_joined from xs ys

-- one span, and others
pub first_added : (from : Stamp) (x : Span) (xs : List Span) → sooner (first_readable from (x ∷ [])) (first_readable from xs) ≡ first_readable from (x ∷ xs)
first_added from x xs = first_joined from (x ∷ []) xs

-- One item more may have several.
pub first_more : {A : Type 0} (f : A → List Span) (from : Stamp) (xs : List A) (i : ℕ) (d : A) (first o : Option ℕ) → i < length xs → first ≡ first_readable from (flat_map f (take i xs))
    → o ≡ first_readable from (f (get_or xs i d)) → sooner first o ≡ first_readable from (flat_map f (take (i + 1) xs))
first_more f from xs i d first o l e g =
    (λ j. sooner (e j) (g j))
    ∙ first_joined from (flat_map f (take i xs)) (f (get_or xs i d))
    ∙ ap (first_readable from) (ap (λ l. flat_map f (take i xs) ++ l) (sym (append-nil (f (get_or xs i d)))) ∙ sym (flat_map-append f (take i xs) (get_or xs i d ∷ [])) ∙ ap (flat_map f) (sym (take_more xs i d l)))

-- the same by a place, at which there may be none
placed : {A : Type 0} (f : A → List Span) (xs : List A) (i : ℕ) → flat_map f (take i xs) ++ flat_map f (option_to_list (slice_get xs i)) ≡ flat_map f (take (suc i) xs)
placed f [] zero = refl
placed f [] (suc i) = refl
placed f (x ∷ xs) zero = refl
placed f (x ∷ xs) (suc i) =
    append_assoc (f x) (flat_map f (take i xs)) (flat_map f (option_to_list (slice_get xs i))) ∙ ap (λ ys. f x ++ ys) (placed f xs i)

pub first_placed : {A : Type 0} (f : A → List Span) (from : Stamp) (xs : List A) (i : ℕ) (first o : Option ℕ) → first ≡ first_readable from (flat_map f (take i xs))
    → o ≡ first_readable from (flat_map f (option_to_list (slice_get xs i))) → sooner first o ≡ first_readable from (flat_map f (take (i + 1) xs))
first_placed f from xs i first o e g =
    (λ j. sooner (e j) (g j))
    ∙ first_joined from (flat_map f (take i xs)) (flat_map f (option_to_list (slice_get xs i)))
    ∙ ap (first_readable from) (placed f xs i ∙ ap (λ n. flat_map f (take n xs)) (sym (add-one i)))

-- all of a list
pub take_whole : {A : Type 0} (xs : List A) (i : ℕ) → length xs ≤ i → take i xs ≡ xs
take_whole [] zero l = refl
take_whole [] (suc i) l = refl
take_whole (x ∷ xs) zero l = absurd (omega arith)
take_whole (x ∷ xs) (suc i) l = ap (λ ys. x ∷ ys) (take_whole xs i (omega arith))
