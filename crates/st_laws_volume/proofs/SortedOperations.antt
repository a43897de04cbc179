-- Operations whose numbers don't fall.
use Rattle.st_lemmas.proofs.Words
use Words.{◌≡◌, ◌⊎◌, ◌≤◌, arith, Bool, true, false, List, [], ◌∷◌, ◌++◌, refl, sym, ap, ◌∙◌, subst, inl, inr, if◌then◌else◌}
use Words.{filter, map, Operation}
use Words.Lists.{Has}
use Words.Members.{has_left, has_middle, has_right}
use Words.Tables.{has_append, has_filter, has_map}

-- Operations whose numbers don't fall.
abbrev pub Sorted : List Operation → Type 0
Sorted [] = Unit {0}
Sorted (o ∷ os) = ((p : Operation) → Has p os → o.op ≤ p.op) × Sorted os

pub sorted_filter : (os : List Operation) (f : Operation → Bool) → Sorted os → Sorted (filter f os)
sorted_filter [] f h = tt
sorted_filter (o ∷ os) f h = go (f o) (sorted_filter os f h.1)
  where
    go : (b : Bool) → Sorted (filter f os) → Sorted (if b then o ∷ filter f os else filter f os)
    go true rest = (λ p i. h.0 p (has_filter f os p i).0, rest)
    go false rest = rest

pub sorted_map : (os : List Operation) (f : Operation → Operation) → ((o : Operation) → (f o).op ≡ o.op) → Sorted os → Sorted (map f os)
sorted_map [] f e h = tt
sorted_map (o ∷ os) f e h = (
  λ p i. let z = has_map f os p i in
      let l = h.0 z.0 z.1 in
      let a = e o in
      let b = ap (λ (y : Operation). y.op) z.2 ∙ e z.0 in omega (arith, l, a, b),
  sorted_map os f e h.1,
)

pub sorted_last : (os : List Operation) (o : Operation) → ((p : Operation) → Has p os → p.op ≤ o.op) → Sorted os → Sorted (os ++ o ∷ [])
sorted_last [] o l h = (λ p i. absurd i, tt)
sorted_last (x ∷ os) o l h = (λ p i. go p (has_append os (o ∷ []) p i), sorted_last os o (λ p i. l p (inr i)) h.1)
  where
    go : (p : Operation) → Has p os ⊎ Has p (o ∷ []) → x.op ≤ p.op
    go p (inl i) = h.0 p i
    go p (inr (inl e)) = subst (λ (y : Operation). x.op ≤ y.op) (sym e) (l x (inl refl))
    go p (inr (inr i)) = absurd i

pub sorted_less : (xs : List Operation) (o : Operation) (ys : List Operation) → Sorted (xs ++ o ∷ ys) → Sorted (xs ++ ys)
sorted_less [] o ys h = h.1
sorted_less (x ∷ xs) o ys h = (λ p i. h.0 p (has_middle o p xs ys i), sorted_less xs o ys h.1)

pub sorted_after : (xs : List Operation) (o : Operation) (ys : List Operation) → Sorted (xs ++ o ∷ ys) → (p : Operation) → Has p ys → o.op ≤ p.op
sorted_after [] o ys h p i = h.0 p i
sorted_after (x ∷ xs) o ys h p i = sorted_after xs o ys h.1 p i

pub sorted_put : (xs : List Operation) (o q : Operation) (ys : List Operation) → q.op ≡ o.op → Sorted (xs ++ o ∷ ys) → Sorted (xs ++ q ∷ ys)
sorted_put [] o q ys e h = (λ p i. let l = h.0 p i in omega (arith, l, e), h.1)
sorted_put (x ∷ xs) o q ys e h = (λ p i. go p (has_append xs (q ∷ ys) p i), sorted_put xs o q ys e h.1)
  where
    go : (p : Operation) → Has p xs ⊎ Has p (q ∷ ys) → x.op ≤ p.op
    go p (inl i) = h.0 p (has_left xs (o ∷ ys) p i)
    go p (inr (inl k)) =
        let l = h.0 o (has_right xs (o ∷ ys) o (inl refl)) in let z = ap (λ (y : Operation). y.op) k in omega (arith, l, e, z)
    go p (inr (inr i)) = h.0 p (has_right xs (o ∷ ys) p (inr i))
