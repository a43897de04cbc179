-- Who is in, after a client came, went or stopped.
use Rattle.st_lemmas.proofs.Words
use Words.{◌≡◌, ◌≢◌, ◌⊎◌, Bool, true, false, not, ◌&&◌, ◌||◌, List, [], ◌∷◌, ◌++◌, ◌==◌, Some, None, refl, sym, ap, ◌∙◌, inl, inr, if◌then◌else◌, find, map}
use Words.{is_some, Option, eqb-true, eq-eqb, ne_eqb, ClientId}
use Words.Keys.{same_client}
use Words.Lookups.{find_without}
use Words.Tables.{same_or_not}
use Rattle.st_shared.specs.declared.members.Member.{Member}
use Rattle.st_shared.specs.Shared.{is_member, least_member, running, stop_member, without_member}

-- one client is the same as another, or is not
pub flip_client : (c d : ClientId) → same_client c d ≡ same_client d c
flip_client c d = go (same_or_not c.0 d.0)
  where
    go : (c.0 ≡ d.0) ⊎ (c.0 ≢ d.0) → same_client c d ≡ same_client d c
    go (inl e) = eq-eqb _ _ e ∙ sym (eq-eqb _ _ (sym e))
    go (inr n) = ne_eqb _ _ n ∙ sym (ne_eqb _ _ (λ e. n (sym e)))

pub is_client : (c d : ClientId) → same_client c d ≡ true → c ≡ d
is_client c d e = let q : c.0 ≡ d.0 = eqb-true _ _ e in λ i. record { 0 = q i }

-- one more
pub some_last : {A : Type 0} (p : A → Bool) (x : A) (xs : List A) → is_some (find p (xs ++ x ∷ [])) ≡ (p x || is_some (find p xs))
some_last p x [] = go (p x)
  where
    go : (b : Bool) → is_some (if b then Some x else None) ≡ (b || false)
    go true = refl
    go false = refl
some_last {A} p x (y ∷ ys) = go (p y) (p x) (some_last p x ys)
  where
    go : (a b : Bool) → is_some (find p (ys ++ x ∷ [])) ≡ (b || is_some (find p ys)) → is_some (if a then Some y else find p (ys ++ x ∷ [])) ≡ (b || is_some (if a then Some y else find p ys))
    go true true e = refl
    go true false e = refl
    go false b e = e

pub in_entered : (ms : List Member) (c d : ClientId) → is_some (find (is_member d) (ms ++ running c ∷ [])) ≡ (same_client c d || is_some (find (is_member d) ms))
in_entered ms c d = some_last (is_member d) (running c) ms

-- one less
pub in_left : (ms : List Member) (c d : ClientId) → is_some (find (is_member d) (without_member c ms)) ≡ (not (same_client c d) && is_some (find (is_member d) ms))
in_left ms c d = ap is_some (find_without (λ m. m.client.0) c.0 d.0 ms) ∙ go (d.0 == c.0) (find (is_member d) ms) ∙ ap (λ b. not b && is_some (find (is_member d) ms)) (flip_client d c)
  where
    go : (b : Bool) (o : Option Member) → is_some (if b then None else o) ≡ (not b && is_some o)
    go true o = refl
    go false o = refl

-- one stopped
pub member_stopped : (c d : ClientId) (m : Member) → is_member d (stop_member c m) ≡ is_member d m
member_stopped c d m = go (is_member c m)
  where
    go : (b : Bool) → is_member d (if b then record m { running = false } else m) ≡ is_member d m
    go true = refl
    go false = refl

pub in_stopped : (ms : List Member) (c d : ClientId) → is_some (find (is_member d) (map (stop_member c) ms)) ≡ is_some (find (is_member d) ms)
in_stopped [] c d = refl
in_stopped (m ∷ ms) c d =
    ap (λ b. is_some (if b then Some (stop_member c m) else find (is_member d) (map (stop_member c) ms))) (member_stopped c d m)
    ∙ go (is_member d m) (in_stopped ms c d)
  where
    go : (b : Bool) → is_some (find (is_member d) (map (stop_member c) ms)) ≡ is_some (find (is_member d) ms)
        → is_some (if b then Some (stop_member c m) else find (is_member d) (map (stop_member c) ms)) ≡ is_some (if b then Some m else find (is_member d) ms)
    go true e = refl
    go false e = e

-- nobody is in if there is no least client
pub nobody : (ms : List Member) → least_member ms ≡ None → ms ≡ []
unfolding least_member
nobody [] e = refl
nobody (m ∷ ms) e = cc
