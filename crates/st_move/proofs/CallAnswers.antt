-- What the calls on containers say, case by case.
use Rattle.st_lemmas.proofs.Words
use Words.{◌≡◌, ◌≢◌, ℕ, suc, ◌+◌, ◌⊎◌, Bool, true, false, List, [], ◌∷◌, ◌++◌, length, Option, Some, None, refl, sym, ap, ◌∙◌, subst, inl, inr, arith, eqb}
use Words.{zero, pred, if◌then◌else◌, not, ◌==◌, nat_le, slice_get, option_map, Ok, Err, list_any, ServerId}
use Words.modes
use Words.Keys.{same_server}
use Words.Locks.{Locks, grant, is_row_of, is_row_on, new_row}
use Words.World.{numbered, with_numbered}
use Words.Lists.{Has}
use Words.Lookups.{any_filter}
use Words.Tables.{cond_true, cond_false, has_append}
use Words.Members.{has_set}
use Rattle.std.proofs.lemmas.Bool.Decides.{eqb_tells}
use Rattle.st_lemmas.proofs.Puts.{any_put}
use Rattle.st_move.specs.declared.record.ContainerRecord.{ContainerRecord}
use Rattle.st_move.specs.declared.record.MoveMessage.{MoveMessage}
use Rattle.st_move.specs.declared.record.MoveMessage.TheVariants.{Image, Taken}
use Rattle.st_move.specs.declared.record.ContainerState.{ContainerState}
use Rattle.st_move.specs.declared.record.ContainerState.TheVariants.{Holding, Leaving, Sent, Gone}
use Rattle.st_move.specs.declared.refusal.MoveRefusal.{MoveRefusal}
use Rattle.st_move.specs.declared.refusal.MoveRefusal.TheVariants as refusals
use Rattle.st_move.specs.Containers.{Containers, after_order, after_put, changeable, changed, found, found_at, held, image_by, image_of, images_from, is_locked}
use Rattle.st_move.specs.Containers.{leaves, listed, ordered, readable, sent_from, sent_if, unless_leaving, unless_sent, updated, updated_with, updates_of}
use Rattle.st_move.specs.Containers.{with_record, with_records, with_state, with_updates}
use Rattle.st_move.specs.Updates.{added, bytes_of, most_bytes}
use Rattle.st_move.specs.Law.{is_held, known}
use Rattle.st_move.specs.World.{has_lock, locked, one, unlocked}
use Rattle.st_move.proofs.MovedContainers.{leaves_if}
use Rattle.std.proofs.lemmas.Bool.{false_from_ne_true}

-- a container that may be changed is held
abbrev pub IsHeldAt : List (Option ContainerRecord) → ℕ → ContainerRecord → Type 0
IsHeldAt rs c r = (numbered rs c ≡ Some (Some r)) × (r.state ≡ Holding)

pub held_says : (m : Containers) (c : ℕ) → ((r : ContainerRecord) × IsHeldAt m.records c r × (held m c ≡ Ok r)) ⊎ ((e : MoveRefusal) × (held m c ≡ Err e))
unfolding found found_at changeable unless_leaving unless_sent
held_says m c = go (numbered m.records c) refl
  where
    go : (o : Option (Option ContainerRecord)) → numbered m.records c ≡ o → ((r : ContainerRecord) × IsHeldAt m.records c r × (held m c ≡ Ok r)) ⊎ ((e : MoveRefusal) × (held m c ≡ Err e))
    go None e = inr (refusals.NoContainer c, ap (λ o. changeable (found_at c o)) e)
    go (Some None) e = inr (refusals.Absent, ap (λ o. changeable (found_at c o)) e)
    go (Some (Some r)) e = by r.state refl
      where
        by : (st : ContainerState) → r.state ≡ st → ((r : ContainerRecord) × IsHeldAt m.records c r × (held m c ≡ Ok r)) ⊎ ((e : MoveRefusal) × (held m c ≡ Err e))
        by Holding h = inl (r, (e, h), ap (λ o. changeable (found_at c o)) e ∙ ap (unless_leaving r) h)
        by (Leaving to) h = inr (refusals.Leaving to, ap (λ o. changeable (found_at c o)) e ∙ ap (unless_leaving r) h)
        by (Sent to) h = inr (refusals.Redirect to r.version, ap (λ o. changeable (found_at c o)) e ∙ ap (unless_leaving r) h)
        by (Gone to) h = inr (refusals.Redirect to r.version, ap (λ o. changeable (found_at c o)) e ∙ ap (unless_leaving r) h)

pub listed_says : (m : Containers) (c : ℕ) → ((r : ContainerRecord) × (numbered m.records c ≡ Some (Some r)) × (is_held r.state ≡ true) × (listed m c ≡ Ok r.updates)) ⊎ ((e : MoveRefusal) × (listed m c ≡ Err e))
unfolding found found_at readable unless_sent updates_of
listed_says m c = go (numbered m.records c) refl
  where
    go : (o : Option (Option ContainerRecord)) → numbered m.records c ≡ o → ((r : ContainerRecord) × (numbered m.records c ≡ Some (Some r)) × (is_held r.state ≡ true) × (listed m c ≡ Ok r.updates)) ⊎ ((e : MoveRefusal) × (listed m c ≡ Err e))
    go None e = inr (refusals.NoContainer c, ap (λ o. updates_of (readable (found_at c o))) e)
    go (Some None) e = inr (refusals.Absent, ap (λ o. updates_of (readable (found_at c o))) e)
    go (Some (Some r)) e = by r.state refl
      where
        by : (st : ContainerState) → r.state ≡ st → ((r : ContainerRecord) × (numbered m.records c ≡ Some (Some r)) × (is_held r.state ≡ true) × (listed m c ≡ Ok r.updates)) ⊎ ((e : MoveRefusal) × (listed m c ≡ Err e))
        by Holding h = inl (r, e, ap is_held h, ap (λ o. updates_of (readable (found_at c o))) e ∙ ap (λ st. updates_of (unless_sent r st)) h)
        by (Leaving to) h = inl (r, e, ap is_held h, ap (λ o. updates_of (readable (found_at c o))) e ∙ ap (λ st. updates_of (unless_sent r st)) h)
        by (Sent to) h = inr (refusals.Redirect to r.version, ap (λ o. updates_of (readable (found_at c o))) e ∙ ap (λ st. updates_of (unless_sent r st)) h)
        by (Gone to) h = inr (refusals.Redirect to r.version, ap (λ o. updates_of (readable (found_at c o))) e ∙ ap (λ st. updates_of (unless_sent r st)) h)

-- the containers with a changed record
abbrev pub with_changed : Containers → ℕ → ContainerRecord → Containers
with_changed m c r = with_records m (with_record c r m.records)

pub put_says : (m : Containers) (c : ℕ) (u : List ℕ) → ((r : ContainerRecord) × IsHeldAt m.records c r × (after_put m c u ≡ Ok (with_changed m c (with_updates r (r.updates ++ u ∷ []))))) ⊎ ((e : MoveRefusal) × (after_put m c u ≡ Err e))
unfolding changed updated updated_with added
put_says m c u = go (held_says m c)
  where
    go : ((r : ContainerRecord) × IsHeldAt m.records c r × (held m c ≡ Ok r)) ⊎ ((e : MoveRefusal) × (held m c ≡ Err e))
        → ((r : ContainerRecord) × IsHeldAt m.records c r × (after_put m c u ≡ Ok (with_changed m c (with_updates r (r.updates ++ u ∷ []))))) ⊎ ((e : MoveRefusal) × (after_put m c u ≡ Err e))
    go (inr h) = inr (h.0, ap (λ o. changed m c (updated u o)) h.1)
    go (inl h) = by (nat_le (bytes_of h.0.updates + length u) most_bytes) refl
      where
        by : (b : Bool) → nat_le (bytes_of h.0.updates + length u) most_bytes ≡ b
            → ((r : ContainerRecord) × IsHeldAt m.records c r × (after_put m c u ≡ Ok (with_changed m c (with_updates r (r.updates ++ u ∷ []))))) ⊎ ((e : MoveRefusal) × (after_put m c u ≡ Err e))
        by true e = inl (h.0, h.1, ap (λ o. changed m c (updated u o)) h.2 ∙ ap (λ o. changed m c (updated_with h.0 o)) (cond_true _ _ _ e))
        by false e = inr (refusals.Full (bytes_of h.0.updates + length u), ap (λ o. changed m c (updated u o)) h.2 ∙ ap (λ o. changed m c (updated_with h.0 o)) (cond_false _ _ _ e))

pub order_says : (m : Containers) (c : ℕ) (to : ServerId) → ((r : ContainerRecord) × IsHeldAt m.records c r × (to.0 ≢ m.server.0) × (after_order m c to ≡ Ok (with_changed m c (with_state r (Leaving to))))) ⊎ ((e : MoveRefusal) × (after_order m c to ≡ Err e))
unfolding changed ordered
order_says m c to = go (held_says m c)
  where
    go : ((r : ContainerRecord) × IsHeldAt m.records c r × (held m c ≡ Ok r)) ⊎ ((e : MoveRefusal) × (held m c ≡ Err e))
        → ((r : ContainerRecord) × IsHeldAt m.records c r × (to.0 ≢ m.server.0) × (after_order m c to ≡ Ok (with_changed m c (with_state r (Leaving to))))) ⊎ ((e : MoveRefusal) × (after_order m c to ≡ Err e))
    go (inr h) = inr (h.0, ap (λ o. changed m c (ordered m.server to o)) h.1)
    go (inl h) = by (eqb_tells to.0 m.server.0)
      where
        by : ((eqb to.0 m.server.0 ≡ true) × (to.0 ≡ m.server.0)) ⊎ ((eqb to.0 m.server.0 ≡ false) × (to.0 ≢ m.server.0))
            → ((r : ContainerRecord) × IsHeldAt m.records c r × (to.0 ≢ m.server.0) × (after_order m c to ≡ Ok (with_changed m c (with_state r (Leaving to))))) ⊎ ((e : MoveRefusal) × (after_order m c to ≡ Err e))
        by (inl e) = inr (refusals.Same, ap (λ o. changed m c (ordered m.server to o)) h.2 ∙ ap (changed m c) (cond_true (same_server to m.server) _ _ e.0))
        by (inr e) = inl (h.0, h.1, e.1, ap (λ o. changed m c (ordered m.server to o)) h.2 ∙ ap (changed m c) (cond_false (same_server to m.server) _ _ e.0))

-- what becomes of the record at a place
abbrev sent_at : Locks → ℕ → Option ContainerRecord → Option ContainerRecord
sent_at l c o = sent_if (leaves l c o) o

sent_get : (l : Locks) (place : ℕ) (rs : List (Option ContainerRecord)) (n k : ℕ) → k ≡ place + suc n → slice_get (sent_from l place rs) n ≡ option_map (sent_at l k) (slice_get rs n)
unfolding sent_from
sent_get l place [] n k e = refl
sent_get l place (r ∷ rs) zero k e = let f : place + 1 ≡ k = omega arith in ap (λ c. Some (sent_at l c r)) f
sent_get l place (r ∷ rs) (suc n) k e = sent_get l (place + 1) rs n k (omega arith)

sent_numbered : (l : Locks) (rs : List (Option ContainerRecord)) (c : ℕ) → numbered (sent_from l 0 rs) c ≡ option_map (sent_at l c) (numbered rs c)
sent_numbered l rs zero = refl
sent_numbered l rs (suc n) = sent_get l 0 rs n (suc n) (omega arith)

pub sent_known : (l : Locks) (rs : List (Option ContainerRecord)) (c : ℕ) → known (numbered (sent_from l 0 rs) c) ≡ sent_if (leaves_if (is_locked l c) (known (numbered rs c))) (known (numbered rs c))
unfolding sent_if
sent_known l rs c = ap known (sent_numbered l rs c) ∙ go (numbered rs c)
  where
    go : (o : Option (Option ContainerRecord)) → known (option_map (sent_at l c) o) ≡ sent_if (leaves_if (is_locked l c) (known o)) (known o)
    go None = refl
    go (Some None) = refl
    go (Some (Some r)) = refl

pub sent_length : (l : Locks) (place : ℕ) (rs : List (Option ContainerRecord)) → length (sent_from l place rs) ≡ length rs
unfolding sent_from
sent_length l place [] = refl
sent_length l place (r ∷ rs) = ap suc (sent_length l (place + 1) rs)

-- Images are those of records.
abbrev pub IsImageAt : ℕ → List (Option ContainerRecord) → ServerId → MoveMessage → Type 0
IsImageAt place rs to (Taken d v) = ⊥
IsImageAt place rs to (Image d v us) = (n : ℕ) × (d ≡ place + suc n) × (r : ContainerRecord) × (slice_get rs n ≡ Some (Some r)) × (r.state ≡ Sent to) × (v ≡ r.version) × (us ≡ r.updates)

image_on : (place : ℕ) (o : Option ContainerRecord) (rs : List (Option ContainerRecord)) (y : ServerId × MoveMessage) → Has y (image_of (place + 1) o) → IsImageAt place (o ∷ rs) y.0 y.1
unfolding image_of image_by
image_on place None rs y h = absurd h
image_on place (Some r) rs y h = go r.state refl h
  where
    go : (st : ContainerState) → r.state ≡ st → Has y (image_by (place + 1) r st) → IsImageAt place (Some r ∷ rs) y.0 y.1
    go Holding e i = absurd i
    go (Leaving to) e i = absurd i
    go (Gone to) e i = absurd i
    go (Sent to) e (inr i) = absurd i
    go (Sent to) e (inl i) = subst (λ (p : ServerId × MoveMessage). IsImageAt place (Some r ∷ rs) p.0 p.1) (sym i) (zero, omega arith, r, refl, e, refl, refl)

images_later : (place : ℕ) (o : Option ContainerRecord) (rs : List (Option ContainerRecord)) (to : ServerId) (message : MoveMessage) → IsImageAt (place + 1) rs to message → IsImageAt place (o ∷ rs) to message
images_later place o rs to (Taken d v) h = h
images_later place o rs to (Image d v us) h = let e : d ≡ place + 1 + suc h.0 = h.1 in (suc h.0, omega arith, h.2, h.3, h.4, h.5, h.6)

pub images_at : (place : ℕ) (rs : List (Option ContainerRecord)) (y : ServerId × MoveMessage) → Has y (images_from place rs) → IsImageAt place rs y.0 y.1
unfolding images_from
images_at place [] y h = absurd h
images_at place (o ∷ rs) y h = go (has_append (image_of (place + 1) o) (images_from (place + 1) rs) y h) (λ i. images_at (place + 1) rs y i)
  where
    go : Has y (image_of (place + 1) o) ⊎ Has y (images_from (place + 1) rs) → (Has y (images_from (place + 1) rs) → IsImageAt (place + 1) rs y.0 y.1) → IsImageAt place (o ∷ rs) y.0 y.1
    go (inl i) f = image_on place o rs y i
    go (inr i) f = images_later place o rs y.0 y.1 (f i)

-- Lock rows.

pub locked_other : (l : Locks) (c d : ℕ) → d ≢ c → is_locked l d ≡ false → is_locked (locked l c) d ≡ false
unfolding locked grant
locked_other l c d n h = go (has_lock l c)
  where
    row_other : (c == d) ≡ true → ⊥
    row_other e = by (eqb_tells c d)
      where
        by : ((eqb c d ≡ true) × (c ≡ d)) ⊎ ((eqb c d ≡ false) × (c ≢ d)) → ⊥
        by (inl i) = n (sym i.1)
        by (inr i) = cc

    go : (b : Bool) → is_locked (if b then l else grant l one (record { 0 = 1 }) c modes.X) d ≡ false
    go true = h
    go false = false_from_ne_true _ (λ e. by (any_put (is_row_on d) (is_row_of one c) (new_row l one (record { 0 = 1 }) c modes.X) l.rows e))
      where
        by : (list_any (is_row_on d) l.rows ≡ true) ⊎ ((c == d) ≡ true) → ⊥
        by (inl i) = cc
        by (inr i) = row_other i

pub unlocked_any : (l : Locks) (c d : ℕ) → is_locked l d ≡ false → is_locked (unlocked l c) d ≡ false
unfolding unlocked
unlocked_any l c d h =
    false_from_ne_true _ (λ e. let i : list_any (is_row_on d) l.rows ≡ true = any_filter (is_row_on d) (λ r. not (is_row_of one c r)) l.rows e in cc)

pub numbered_set_has : {A : Type 0} (xs : List A) (n : ℕ) (y v : A) → Has v (with_numbered n y xs) → (v ≡ y) ⊎ Has v xs
numbered_set_has xs n y v h = has_set xs (pred n) y v h
