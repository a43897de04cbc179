-- The first operation that asks, by its place.
use Rattle.std.proofs.Common.{◌≡◌, ℕ, zero, suc, ◌+◌, Bool, true, false, List, [], ◌∷◌, take, drop, length, ◌≤◌, Option, Some, None, refl, sym, ap, ◌∙◌, subst, arith, add-one}
use Rattle.std.specs.Prelude.{option_map, slice_get}
use Rattle.st_base.specs.declared.ids.Stamp.{Stamp}
use Rattle.st_rules.specs.declared.client.Operation.{Operation}
use Rattle.st_rules.specs.ClientPasses.{Asking, Wanted, asks_or, behind, first_asking, sent_if}
use Rattle.st_rules.specs.ClientState.{ClientSession, Turn}
use Rattle.st_client_passes.specs.Requests.{asked_at, asking_at, behind_all, marked_if}

abbrev asking : Wanted → List Operation → Asking
asking w os = record { wanted = w; operations = os }

module _ (t : Turn) (s : ClientSession) (now : Stamp) where
  -- the next one asks nothing
  past : (os : List Operation) (i : ℕ) → asked_at t s now (slice_get os i) ≡ None →
      behind_all (take i os) (first_asking t s now (drop i os)) ≡ behind_all (take (suc i) os) (first_asking t s now (drop (suc i) os))
  unfolding first_asking asks_or
  past [] zero h = refl
  past [] (suc i) h = refl
  past (x ∷ xs) zero h = ap (asks_or x xs (first_asking t s now xs)) h
  past (x ∷ xs) (suc i) h = ap (behind x) (past xs i h)

  pub asking_past : (os : List Operation) (i : ℕ) → asked_at t s now (slice_get os i) ≡ None →
      behind_all (take i os) (first_asking t s now (drop i os)) ≡ behind_all (take (i + 1) os) (first_asking t s now (drop (i + 1) os))
  asking_past os i h = past os i h ∙ ap (λ n. behind_all (take n os) (first_asking t s now (drop n os))) (sym (add-one i))

  -- the next one asks
  pub asking_here : (os : List Operation) (i : ℕ) (w : Wanted) → asked_at t s now (slice_get os i) ≡ Some w →
      behind_all (take i os) (first_asking t s now (drop i os)) ≡ Some (asking_at os (i, w))
  unfolding first_asking asks_or
  asking_here [] zero w h = cc
  asking_here [] (suc i) w h = cc
  asking_here (x ∷ xs) zero w h = ap (asks_or x xs (first_asking t s now xs)) h ∙ by w.own
    where
      by : (b : Bool) → Some (asking w (sent_if b x ∷ xs)) ≡ Some (asking w (marked_if b 0 (x ∷ xs)))
      by true = refl
      by false = refl
  asking_here (x ∷ xs) (suc i) w h = ap (behind x) (asking_here xs i w h) ∙ by w.own
    where
      by : (b : Bool) → Some (asking w (x ∷ marked_if b i xs)) ≡ Some (asking w (marked_if b (suc i) (x ∷ xs)))
      by true = refl
      by false = refl

  none_behind : (os : List Operation) → behind_all os None ≡ None
  none_behind [] = refl
  none_behind (x ∷ xs) = ap (behind x) (none_behind xs)

  drop_whole : (os : List Operation) (i : ℕ) → length os ≤ i → drop i os ≡ []
  drop_whole [] zero l = refl
  drop_whole [] (suc i) l = refl
  drop_whole (x ∷ xs) zero l = absurd (omega arith)
  drop_whole (x ∷ xs) (suc i) l = drop_whole xs i (omega arith)

  -- none of them asks
  pub asking_none : (os : List Operation) (i : ℕ) → length os ≤ i → behind_all (take i os) (first_asking t s now (drop i os)) ≡ None
  unfolding first_asking
  asking_none os i l = ap (λ xs. behind_all (take i os) (first_asking t s now xs)) (drop_whole os i l) ∙ none_behind (take i os)

-- what is found of the same turn and session
pub same_asking : (t u : Turn) (s r : ClientSession) (now : Stamp) (found : Option (ℕ × Wanted)) → u ≡ t → r ≡ s →
    option_map (asking_at u.operations) found ≡ first_asking u r now u.operations → option_map (asking_at t.operations) found ≡ first_asking t s now t.operations
same_asking t u s r now found e f h =
    subst (λ (v : Turn). option_map (asking_at v.operations) found ≡ first_asking v s now v.operations) e
    (subst (λ (q : ClientSession). option_map (asking_at u.operations) found ≡ first_asking u q now u.operations) f h)
