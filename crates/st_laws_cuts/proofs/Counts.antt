-- How often an ask is pending, and how often it was answered.
use Rattle.st_lemmas.proofs.Words
use Words.{◌≡◌, ℕ, ◌+◌, ◌≤◌, Bool, true, false, not, ◌==◌, List, [], ◌∷◌, ◌++◌, refl, sym, ap, ◌∙◌, subst, inl, inr, arith, if◌then◌else◌, filter, map}
use Words.{eqb-true, eq-eqb, AppAnswer, Output, Operation}
use Words.outputs
use Words.ClientState.{answer_to}
use Words.Lists.{Has}

-- 1 if it holds
abbrev pub one_if : Bool → ℕ
one_if true = 1
one_if false = 0

-- how many of these operations have this number
abbrev pub pending : ℕ → List Operation → ℕ
pending k [] = 0
pending k (o ∷ os) = one_if (o.op == k) + pending k os

-- an answer to this ask
abbrev pub answers_it : ℕ → Output → ℕ
answers_it k (outputs.Answer op a) = one_if (op == k)
answers_it k o = 0

-- how many of these outputs answer it
abbrev pub told : ℕ → List Output → ℕ
told k [] = 0
told k (o ∷ os) = answers_it k o + told k os

pub pending_more : (k : ℕ) (xs ys : List Operation) → pending k (xs ++ ys) ≡ pending k xs + pending k ys
pending_more k [] ys = omega arith
pending_more k (x ∷ xs) ys = let z = pending_more k xs ys in omega (arith, z)

pub told_more : (k : ℕ) (xs ys : List Output) → told k (xs ++ ys) ≡ told k xs + told k ys
told_more k [] ys = omega arith
told_more k (x ∷ xs) ys = let z = told_more k xs ys in omega (arith, z)

pub pending_split : (k : ℕ) (p : Operation → Bool) (xs : List Operation) → pending k (filter (λ o. not (p o)) xs) + pending k (filter p xs) ≡ pending k xs
pending_split k p [] = refl
pending_split k p (x ∷ xs) = go (p x) (pending_split k p xs)
  where
    go : (b : Bool) → pending k (filter (λ o. not (p o)) xs) + pending k (filter p xs) ≡ pending k xs →
        pending k (if not b then x ∷ filter (λ o. not (p o)) xs else filter (λ o. not (p o)) xs) + pending k (if b then x ∷ filter p xs else filter p xs) ≡ one_if (x.op == k) + pending k xs
    go true e = omega (arith, e)
    go false e = omega (arith, e)

pub pending_map : (k : ℕ) (f : Operation → Operation) → ((o : Operation) → (f o).op ≡ o.op) → (xs : List Operation) → pending k (map f xs) ≡ pending k xs
pending_map k f e [] = refl
pending_map k f e (x ∷ xs) = ap (λ n. one_if (n == k) + pending k (map f xs)) (e x) ∙ ap (λ n. one_if (x.op == k) + n) (pending_map k f e xs)

pub told_answers : (k : ℕ) (a : AppAnswer) (xs : List Operation) → told k (map (answer_to a) xs) ≡ pending k xs
told_answers k a [] = refl
told_answers k a (x ∷ xs) = ap (λ n. one_if (x.op == k) + n) (told_answers k a xs)

self : (k : ℕ) → one_if (k == k) ≡ 1
self k = ap one_if (eq-eqb k k refl)

pub pending_has : (xs : List Operation) (o : Operation) → Has o xs → 1 ≤ pending o.op xs
pending_has (x ∷ xs) o (inl e) = subst (λ (y : Operation). 1 ≤ one_if (y.op == o.op) + pending o.op xs) e (let z = self o.op in omega (arith, z))
pending_has (x ∷ xs) o (inr h) = let z = pending_has xs o h in omega (arith, z)
pending_has [] o h = absurd h

pub told_has : (out : List Output) (k : ℕ) (a : AppAnswer) → Has (outputs.Answer k a) out → 1 ≤ told k out
told_has (x ∷ out) k a (inl e) = subst (λ y. 1 ≤ answers_it k y + told k out) e (let z = self k in omega (arith, z))
told_has (x ∷ out) k a (inr h) = let z = told_has out k a h in omega (arith, z)
told_has [] k a h = absurd h

-- an ask that is answered once has one answer
pub told_once : (out : List Output) (k : ℕ) (a b : AppAnswer) → told k out ≤ 1 → Has (outputs.Answer k a) out → Has (outputs.Answer k b) out → a ≡ b
told_once (x ∷ out) k a b l (inl e) (inl f) = same (e ∙ sym f)
  where
    same : outputs.Answer k a ≡ outputs.Answer k b → a ≡ b
    same q = cc q
told_once (x ∷ out) k a b l (inl e) (inr h) = let y = told_has out k b h in let z = self k in absurd (omega (arith, y, z, subst (λ o. answers_it k o + told k out ≤ 1) (sym e) l))
told_once (x ∷ out) k a b l (inr h) (inl f) = let y = told_has out k a h in let z = self k in absurd (omega (arith, y, z, subst (λ o. answers_it k o + told k out ≤ 1) (sym f) l))
told_once (x ∷ out) k a b l (inr h) (inr i) = told_once out k a b (omega (arith, l)) h i
told_once [] k a b l h i = absurd h

pub pending_none : (k : ℕ) (xs : List Operation) → ((o : Operation) → Has o xs → o.op ≡ k → ⊥) → pending k xs ≡ 0
pending_none k [] f = refl
pending_none k (x ∷ xs) f = go (x.op == k) refl (pending_none k xs (λ o h. f o (inr h)))
  where
    go : (b : Bool) → (x.op == k) ≡ b → pending k xs ≡ 0 → one_if b + pending k xs ≡ 0
    go true e z = absurd (f x (inl refl) (eqb-true x.op k e))
    go false e z = omega (arith, z)

pub told_none : (k : ℕ) (out : List Output) → ((a : AppAnswer) → Has (outputs.Answer k a) out → ⊥) → told k out ≡ 0
told_none k [] f = refl
told_none k (x ∷ out) f = go x (λ a e. f a (inl e)) (told_none k out (λ a h. f a (inr h)))
  where
    go : (x : Output) → ((a : AppAnswer) → outputs.Answer k a ≡ x → ⊥) → told k out ≡ 0 → answers_it k x + told k out ≡ 0
    go (outputs.Answer op a) g e = by (op == k) refl
      where
        by : (b : Bool) → (op == k) ≡ b → one_if b + told k out ≡ 0
        by true q = absurd (g a (ap (λ n. outputs.Answer n a) (sym (eqb-true op k q))))
        by false q = omega (arith, e)
    go (outputs.Send m) g e = omega (arith, e)
    go (outputs.Submit n at what) g e = omega (arith, e)
    go (outputs.Note n) g e = omega (arith, e)
