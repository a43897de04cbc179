-- The rest of the pass, by the place that it has come to.
use Rattle.std.proofs.Common.{◌≡◌, ℕ, zero, suc, ◌+◌, ◌≤◌, Bool, true, false, if◌then◌else◌, List, [], ◌∷◌, ◌++◌, length, take, drop, Option, Some, None, refl, sym, ap, ◌∙◌, arith, add-one, append-nil}
use Rattle.std.specs.Prelude.{IfSome, remove, slice_get}
use Rattle.st_base.specs.declared.ids.Stamp.{Stamp}
use Rattle.st_rules.specs.declared.client.Operation.{Operation}
use Rattle.st_rules.specs.ClientPasses.{operate, operate_each}
use Rattle.st_rules.specs.ClientState.{Turn, with_operations}
use Rattle.st_client_passes.specs.PassConditions.{put_back}
use Rattle.st_client_passes.proofs.Behind.{behind, behind_operate}

-- the operations before the place stayed pending, and those from it on still go through the pass
abbrev pub remaining : List Operation → Stamp → ℕ → List Operation → Turn → Turn
remaining sent now place all t = operate_each sent now (drop place all) (with_operations (take place all) t)

-- Lists by a place.

some_same : {A : Type 0} {x y : A} → Some x ≡ Some y → x ≡ y
some_same e = cc

drop_place : {A : Type 0} (xs : List A) (i : ℕ) (x : A) → slice_get xs i ≡ Some x → drop i xs ≡ x ∷ drop (suc i) xs
drop_place [] i x e = cc
drop_place (y ∷ ys) zero x e = ap (λ z. z ∷ ys) (some_same e)
drop_place (y ∷ ys) (suc i) x e = drop_place ys i x e

take_place : {A : Type 0} (xs : List A) (i : ℕ) (x : A) → slice_get xs i ≡ Some x → take (suc i) xs ≡ take i xs ++ x ∷ []
take_place [] i x e = cc
take_place (y ∷ ys) zero x e = ap (λ z. z ∷ []) (some_same e)
take_place (y ∷ ys) (suc i) x e = ap (λ zs. y ∷ zs) (take_place ys i x e)

take_removed : {A : Type 0} (xs : List A) (i : ℕ) (x : A) → slice_get xs i ≡ Some x → take i (remove xs i) ≡ take i xs
take_removed [] i x e = cc
take_removed (y ∷ ys) zero x e = refl
take_removed (y ∷ ys) (suc i) x e = ap (λ zs. y ∷ zs) (take_removed ys i x e)

drop_removed : {A : Type 0} (xs : List A) (i : ℕ) (x : A) → slice_get xs i ≡ Some x → drop i (remove xs i) ≡ drop (suc i) xs
drop_removed [] i x e = cc
drop_removed (y ∷ ys) zero x e = refl
drop_removed (y ∷ ys) (suc i) x e = drop_removed ys i x e

drop_whole : {A : Type 0} (xs : List A) (i : ℕ) → length xs ≤ i → drop i xs ≡ []
drop_whole [] zero l = refl
drop_whole [] (suc i) l = refl
drop_whole (x ∷ xs) zero l = absurd (omega arith)
drop_whole (x ∷ xs) (suc i) l = drop_whole xs i (omega arith)

take_whole : {A : Type 0} (xs : List A) (i : ℕ) → length xs ≤ i → take i xs ≡ xs
take_whole [] zero l = refl
take_whole [] (suc i) l = refl
take_whole (x ∷ xs) zero l = absurd (omega arith)
take_whole (x ∷ xs) (suc i) l = ap (λ zs. x ∷ zs) (take_whole xs i (omega arith))

-- The pass.

-- a turn without pending operations, after some
behind_none : (ks : List Operation) (t : Turn) → t.operations ≡ [] → behind ks t ≡ with_operations ks t
behind_none ks t e = (λ i. with_operations (ks ++ e i) t) ∙ (λ i. with_operations (append-nil ks i) t)

module _ (sent : List Operation) (now : Stamp) where
  -- the operation at the place goes through the pass
  at_place : (all : List Operation) (place : ℕ) (t : Turn) (o : Operation) → t.operations ≡ [] → slice_get all place ≡ Some o →
      operate_each sent now (drop (suc place) all) (behind (take place all) (operate sent t now o)) ≡ remaining sent now place all t
  unfolding operate_each
  at_place all place t o e g =
      ap (operate_each sent now (drop (suc place) all)) (sym (behind_operate (take place all) sent t now o) ∙ ap (λ u. operate sent u now o) (behind_none (take place all) t e))
      ∙ (λ i. operate_each sent now (sym (drop_place all place o g) i) (with_operations (take place all) t))

  -- it stays, or it is no longer pending
  next_place : (all : List Operation) (place : ℕ) (t u : Turn) (o : Operation) (stays : Bool) → u.operations ≡ [] → slice_get all place ≡ Some o →
      remaining sent now (if stays then place + 1 else place) (if stays then all else remove all place) u
      ≡ operate_each sent now (drop (suc place) all) (behind (take place all) (put_back o stays u))
  next_place all place t u o true e g =
      ap (λ n. remaining sent now n all u) (add-one place)
      ∙ (λ i. operate_each sent now (drop (suc place) all) (with_operations (take_place all place o g i) u))
      ∙ (λ i. operate_each sent now (drop (suc place) all) (with_operations (take place all ++ (sym e i ++ o ∷ [])) u))
  next_place all place t u o false e g =
      (λ i. operate_each sent now (drop_removed all place o g i) (with_operations (take_removed all place o g i) u))
      ∙ ap (operate_each sent now (drop (suc place) all)) (sym (behind_none (take place all) u e))

  -- the rest of the pass stays the same
  pub remaining_next : (all : List Operation) (place : ℕ) (t u : Turn) (stays : Bool) → t.operations ≡ [] → u.operations ≡ t.operations → suc place ≤ length all →
      IfSome (slice_get all place) (λ o. put_back o stays u ≡ operate sent t now o) →
      remaining sent now (if stays then place + 1 else place) (if stays then all else remove all place) u ≡ remaining sent now place all t
  remaining_next all place t u stays e f l h = by (slice_get all place) refl (there all place l) h
    where
      there : (xs : List Operation) (i : ℕ) → suc i ≤ length xs → slice_get xs i ≡ None → ⊥
      there [] i l e = absurd (omega arith)
      there (x ∷ xs) zero l e = cc
      there (x ∷ xs) (suc i) l e = there xs i (omega arith) e

      by : (o : Option Operation) → slice_get all place ≡ o → (slice_get all place ≡ None → ⊥) → IfSome o (λ o. put_back o stays u ≡ operate sent t now o) →
          remaining sent now (if stays then place + 1 else place) (if stays then all else remove all place) u ≡ remaining sent now place all t
      by None g n h = absurd (n g)
      by (Some o) g n h =
          next_place all place t u o stays (f ∙ e) g
          ∙ ap (λ v. operate_each sent now (drop (suc place) all) (behind (take place all) v)) h
          ∙ at_place all place t o e g

  -- nothing is left
  pub remaining_none : (all : List Operation) (place : ℕ) (t : Turn) → length all ≤ place → remaining sent now place all t ≡ with_operations all t
  unfolding operate_each
  remaining_none all place t l =
      (λ i. operate_each sent now (drop_whole all place l i) (with_operations (take_whole all place l i) t))

  -- all of it is left
  pub remaining_all : (all : List Operation) (t : Turn) → t.operations ≡ [] → remaining sent now 0 all t ≡ operate_each sent now all t
  remaining_all all t e = λ i. operate_each sent now all (with_operations (sym e i) t)
