-- The number of the first operation that passes, place by place.
use Rattle.st_lemmas.proofs.Words
use Words.{◌≡◌, ℕ, zero, suc, ◌+◌, ◌≤◌, Bool, true, false, List, [], ◌∷◌, Option, Some, None, cond, drop, find, length, option_map, slice_get}
use Words.{refl, sym, ap, ◌∙◌, add-one, arith, Operation}
use Rattle.st_third.specs.State.{op_of}
use Rattle.st_third_turn.specs.Owing.{number_at}

-- of what is found
abbrev found : (Operation → Bool) → List Operation → Option ℕ
found p os = option_map op_of (find p os)

past : (p : Operation → Bool) (os : List Operation) (i : ℕ) → number_at p (slice_get os i) ≡ None → found p (drop i os) ≡ found p (drop (suc i) os)
past p [] zero e = refl
past p [] (suc i) e = refl
past p (o ∷ os) zero e = by (p o) e
  where
    by : (b : Bool) → cond b (Some o.op) None ≡ None → option_map op_of (cond b (Some o) (find p os)) ≡ option_map op_of (find p os)
    by true e = cc
    by false e = refl
past p (o ∷ os) (suc i) e = past p os i e

-- the one at a place fails
pub found_past : (p : Operation → Bool) (os : List Operation) (i : ℕ) → number_at p (slice_get os i) ≡ None → found p (drop i os) ≡ found p (drop (i + 1) os)
found_past p os i e = past p os i e ∙ ap (λ n. found p (drop n os)) (sym (add-one i))

-- the one at a place passes
pub found_here : (p : Operation → Bool) (os : List Operation) (i op : ℕ) → number_at p (slice_get os i) ≡ Some op → found p (drop i os) ≡ Some op
found_here p [] zero op e = cc
found_here p [] (suc i) op e = cc
found_here p (o ∷ os) zero op e = by (p o) e
  where
    by : (b : Bool) → cond b (Some o.op) None ≡ Some op → option_map op_of (cond b (Some o) (find p os)) ≡ Some op
    by true e = e
    by false e = cc
found_here p (o ∷ os) (suc i) op e = found_here p os i op e

-- none is left
pub found_none : (p : Operation → Bool) (os : List Operation) (i : ℕ) → length os ≤ i → found p (drop i os) ≡ None
found_none p [] zero l = refl
found_none p [] (suc i) l = refl
found_none p (o ∷ os) zero l = absurd (omega arith)
found_none p (o ∷ os) (suc i) l = found_none p os i (omega arith)
