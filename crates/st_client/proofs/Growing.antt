-- The invariant of associations still holds when numbers of commands and outputs grow.
use Rattle.st_lemmas.proofs.Words
use Words.{◌≡◌, ℕ, suc, zero, ◌+◌, ◌<◌, ◌≤◌, List, [], ◌∷◌, ◌++◌, get_or, length, map, sym, ap, subst, ◌∙◌, arith, Option, Some, None, insert, remove, Config}
use Words.{ClientId, Output}
use Words.Client.{fresh_association}
use Words.Extents.{numbers}
use Words.ClientState.{Association, ClientSession}
use Rattle.st_client_association.proofs.TurnInvariants.{below_more}
use Rattle.st_client_association.specs.Associations.{ClientAssociation, IsCounted, RequestsBelow}
use Rattle.st_client_association.specs.Turns.{most_of}
use Rattle.st_client.proofs.Advancing.{more_out, same_number}
use Rattle.st_client.specs.Machines.{AreIn, IsIn, IsMachine}

module _ (n m : ℕ) (out more : List Output) (l : n ≤ m) (g : length out ≤ length more) (c : m < most_of more) where
  asks_more : (o : Option ClientSession) → RequestsBelow (most_of out) o → RequestsBelow (most_of more) o
  asks_more None r = tt
  asks_more (Some s) r = let a = g in omega (arith, r)

  pub counted_more : (a : Association) → IsCounted a n out → IsCounted a m more
  counted_more a i =
      let h = g in
      let v = i.versions in
      let b = i.lives in
      record {
        given = below_more n m a.store.commands l i.given;
        commands = c;
        versions = omega (arith, v);
        lives = omega (arith, b);
        requests = asks_more a.session i.requests;
      }

  pub in_more : (id : ClientId) (config : Config) (xs : List ClientAssociation) → AreIn id config n out xs → AreIn id config m more xs
  in_more id config [] i = tt
  in_more id config (a ∷ xs) i = (record { id = i.0.id; config = i.0.config; counted = counted_more a.here i.0.counted }, in_more id config xs i.1)

-- one more association, at a place
pub in_placed : (id : ClientId) (config : Config) (n : ℕ) (out : List Output) (xs : List ClientAssociation) (i : ℕ) (a : ClientAssociation) → AreIn id config n out xs → IsIn id config n out a →
    AreIn id config n out (insert xs i a)
in_placed id config n out xs zero a i j = (j, i)
in_placed id config n out [] (suc k) a i j = (j, tt)
in_placed id config n out (x ∷ xs) (suc k) a i j = (i.0, in_placed id config n out xs k a i.1 j)

-- the one at a place, and the others
in_at : (id : ClientId) (config : Config) (n : ℕ) (out : List Output) (xs : List ClientAssociation) (i : ℕ) (a : ClientAssociation) → i < length xs → a ≡ get_or xs i a → AreIn id config n out xs → IsIn id config n out a
in_at id config n out [] i a l e m = absurd (omega (arith, l))
in_at id config n out (x ∷ xs) zero a l e m = subst (IsIn id config n out) (sym e) m.0
in_at id config n out (x ∷ xs) (suc i) a l e m = in_at id config n out xs i a (omega (arith, l)) e m.1

in_others : (id : ClientId) (config : Config) (n : ℕ) (out : List Output) (xs : List ClientAssociation) (i : ℕ) → AreIn id config n out xs → AreIn id config n out (remove xs i)
in_others id config n out [] zero m = m
in_others id config n out [] (suc i) m = m
in_others id config n out (x ∷ xs) zero m = m.1
in_others id config n out (x ∷ xs) (suc i) m = (m.0, in_others id config n out xs i m.1)

pub one_in : (id : ClientId) (config : Config) (n : ℕ) (out : List Output) (xs : List ClientAssociation) (i : ℕ) (a : ClientAssociation) → i < length xs → a ≡ get_or xs i a → IsMachine id config n out xs → IsIn id config n out a
one_in id config n out xs i a l e m = in_at id config n out xs i a l e m.each

pub others_in : (id : ClientId) (config : Config) (n : ℕ) (out : List Output) (xs ys : List ClientAssociation) (i : ℕ) → ys ≡ remove xs i → IsMachine id config n out xs → IsMachine id config n out ys
others_in id config n out xs ys i e m = record { commands = m.commands; each = rw e (in_others id config n out xs i m.each) }

-- one more output
pub machine_said : (id : ClientId) (config : Config) (n : ℕ) (out more : List Output) (o : Output) (xs : List ClientAssociation) → more ≡ out ++ o ∷ [] → IsMachine id config n out xs → IsMachine id config n more xs
machine_said id config n out more o xs e i =
    let g : length out ≤ length more = rw e (more_out out (o ∷ [])) in
    let c = i.commands in
    let k : n < most_of more = omega (arith, g, c) in
    record { commands = k; each = in_more n n out more (same_number n) g k id config xs i.each }

-- one more association, after a rule at it
pub machine_run : (id : ClientId) (config : Config) (n m : ℕ) (out more : List Output) (xs ys : List ClientAssociation) (p : ℕ) (a : ClientAssociation) → ys ≡ insert xs p a → n ≤ m → length out ≤ length more →
    IsIn id config m more a → IsMachine id config n out xs → IsMachine id config m more ys
machine_run id config n m out more xs ys p a e l g i k =
    let c = i.counted.commands in record { commands = c; each = rw e (in_placed id config m more xs p a (in_more n m out more l g c id config xs k.each) i) }

-- one number more
pub numbers_more : (first n : ℕ) → map fresh_association (numbers first (suc n)) ≡ map fresh_association (numbers first n) ++ fresh_association (first + n) ∷ []
unfolding numbers
numbers_more first zero = ap (λ k. fresh_association k ∷ []) (arith-is first)
  where
    arith-is : (a : ℕ) → a ≡ a + 0
    arith-is a = omega arith
numbers_more first (suc n) =
    ap (λ ys. fresh_association first ∷ ys) (numbers_more (first + 1) n ∙ ap (λ k. map fresh_association (numbers (first + 1) n) ++ fresh_association k ∷ []) (moved first n))
  where
    moved : (a b : ℕ) → a + 1 + b ≡ a + suc b
    moved a b = omega arith

pub numbers_next : (n : ℕ) → map fresh_association (numbers 1 (n + 1)) ≡ map fresh_association (numbers 1 n) ++ fresh_association (n + 1) ∷ []
numbers_next n =
    ap (λ k. map fresh_association (numbers 1 k)) (after n) ∙ numbers_more 1 n ∙ ap (λ k. map fresh_association (numbers 1 n) ++ fresh_association k ∷ []) (swapped n)
  where
    after : (a : ℕ) → a + 1 ≡ suc a
    after a = omega arith

    swapped : (a : ℕ) → 1 + a ≡ a + 1
    swapped a = omega arith
