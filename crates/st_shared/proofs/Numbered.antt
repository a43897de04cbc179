-- What goes by a number from 1: after one more, a change of one, and a change of all.
use Rattle.st_lemmas.proofs.Words
use Words.{◌≡◌, ◌≢◌, ℕ, ◌⊎◌, Bool, true, false, List, [], ◌∷◌, ◌++◌, ◌==◌, Some, None, refl, sym, ap, ◌∙◌, subst, inl, inr, if◌then◌else◌, zero, suc, length}
use Words.{map, option_map, Option, slice_get, eqb-true, eq-eqb, ne_eqb, DiskCommand}
use Words.Disks.{command_at}
use Words.World.{numbered, with_numbered}
use Words.Lookups.{if_true, if_false}
use Words.Numbers.{get_last, get_map, length_more, numbered_below, numbered_other, numbered_own}
use Words.Tables.{same_or_not}

pub command_is : (cs : List DiskCommand) (n : ℕ) → command_at cs n ≡ numbered cs n
command_is cs zero = refl
command_is cs (suc n) = refl

pub none_numbered : {A : Type 0} (n : ℕ) → numbered {A = A} [] n ≡ None
none_numbered zero = refl
none_numbered (suc n) = refl

-- one more goes by the number that is the new length
push_other : {A : Type 0} (xs : List A) (y : A) (n : ℕ) → n ≢ suc (length xs) → numbered (xs ++ y ∷ []) n ≡ numbered xs n
push_other {A} xs y zero h = refl
push_other {A} xs y (suc n) h = at xs n (λ e. h (ap suc e))
  where
    at : (zs : List A) (k : ℕ) → k ≢ length zs → slice_get (zs ++ y ∷ []) k ≡ slice_get zs k
    at [] zero d = absurd (d refl)
    at [] (suc k) d = refl
    at (z ∷ zs) zero d = refl
    at (z ∷ zs) (suc k) d = at zs k (λ e. d (ap suc e))

pub numbered_push : {A : Type 0} (xs : List A) (y : A) (n : ℕ) → numbered (xs ++ y ∷ []) n ≡ (if length (xs ++ y ∷ []) == n then Some y else numbered xs n)
numbered_push {A} xs y n = go (same_or_not (length (xs ++ y ∷ [])) n)
  where
    more : length (xs ++ y ∷ []) ≡ suc (length xs)
    more = length_more xs y

    go : (length (xs ++ y ∷ []) ≡ n) ⊎ (length (xs ++ y ∷ []) ≢ n) → numbered (xs ++ y ∷ []) n ≡ (if length (xs ++ y ∷ []) == n then Some y else numbered xs n)
    go (inl e) =
        subst (λ k. numbered (xs ++ y ∷ []) k ≡ Some y) (sym more ∙ e) (get_last xs y)
        ∙ sym (if_true (length (xs ++ y ∷ []) == n) (Some y) (numbered xs n) (eq-eqb _ _ e))
    go (inr d) =
        push_other xs y n (λ e. d (more ∙ sym e))
        ∙ sym (if_false (length (xs ++ y ∷ []) == n) (Some y) (numbered xs n) (ne_eqb _ _ d))

-- what says nothing about one more
pub same_push : {A B : Type 0} (f : Option A → B) (xs : List A) (y : A) (n : ℕ) → f (Some y) ≡ f None → f (numbered (xs ++ y ∷ []) n) ≡ f (numbered xs n)
same_push {A} f xs y zero e = refl
same_push {A} {B} f xs y (suc n) e = at xs n
  where
    at : (zs : List A) (k : ℕ) → f (slice_get (zs ++ y ∷ []) k) ≡ f (slice_get zs k)
    at [] zero = e
    at [] (suc k) = refl
    at (z ∷ zs) zero = refl
    at (z ∷ zs) (suc k) = at zs k

-- one changed
pub numbered_with : {A : Type 0} (xs : List A) (n m : ℕ) (x y : A) → numbered xs n ≡ Some y → numbered (with_numbered n x xs) m ≡ (if n == m then Some x else numbered xs m)
numbered_with {A} xs n m x y e = go (same_or_not n m)
  where
    go : (n ≡ m) ⊎ (n ≢ m) → numbered (with_numbered n x xs) m ≡ (if n == m then Some x else numbered xs m)
    go (inl q) = subst (λ k. numbered (with_numbered n x xs) k ≡ Some x) q (numbered_own xs n x y e) ∙ sym (if_true (n == m) (Some x) (numbered xs m) (eq-eqb _ _ q))
    go (inr d) = numbered_other xs n m x (numbered_below xs n y e).0 (λ q. d (sym q)) ∙ sym (if_false (n == m) (Some x) (numbered xs m) (ne_eqb _ _ d))

-- what a change of one leaves
pub same_with : {A B : Type 0} (f : Option A → B) (xs : List A) (n m : ℕ) (x y : A) → numbered xs n ≡ Some y → f (Some x) ≡ f (Some y) → f (numbered (with_numbered n x xs) m) ≡ f (numbered xs m)
same_with {A} {B} f xs n m x y e h = ap f (numbered_with xs n m x y e) ∙ go (n == m) refl
  where
    go : (b : Bool) → (n == m) ≡ b → f (if b then Some x else numbered xs m) ≡ f (numbered xs m)
    go true q = h ∙ ap f (sym e) ∙ ap (λ k. f (numbered xs k)) (eqb-true _ _ q)
    go false q = refl

-- what holds of all holds after a change of one of which it holds
pub each_with : {A : Type 0} (p : Option A → Bool) (xs : List A) (n : ℕ) (x y : A) → numbered xs n ≡ Some y → p (Some x) ≡ true → ((m : ℕ) → p (numbered xs m) ≡ true) → (m : ℕ) → p (numbered (with_numbered n x xs) m) ≡ true
each_with p xs n x y e h each m = ap p (numbered_with xs n m x y e) ∙ go (n == m)
  where
    go : (b : Bool) → p (if b then Some x else numbered xs m) ≡ true
    go true = h
    go false = each m

-- all changed
pub numbered_map : {A B : Type 0} (f : A → B) (xs : List A) (n : ℕ) → numbered (map f xs) n ≡ option_map f (numbered xs n)
numbered_map f xs zero = refl
numbered_map f xs (suc n) = get_map f xs n
