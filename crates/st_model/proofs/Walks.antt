-- A walk over the places of the pending entries does what a pass over all entries does.
use Rattle.std.proofs.Common.{◌≡◌, ℕ, zero, suc, ◌+◌, ◌<◌, Bool, true, false, if◌then◌else◌, List, [], ◌∷◌, ◌++◌, length, drop, set, get_or, refl, sym, ap, subst, ◌∙◌, ⊎_elim, arith, true≢false}
use Rattle.std.proofs.lemmas.List.{append_assoc, length-append, get_or-drop}
use Rattle.std.proofs.lemmas.Bool.{cases_Bool}
use Rattle.std.proofs.Math.Seq.{get_or-append_seam, set-append_seam}
use Rattle.st_rules.specs.declared.log.Fate.{Fate}
use Rattle.st_rules.specs.declared.log.Fate.TheVariants.{Pending, Hard, Gone}
use Rattle.st_rules.specs.declared.log.LogOwner.{LogOwner}
use Rattle.st_rules.specs.declared.log.LogEntry.{LogEntry}
use Rattle.st_rules.specs.FlatLog.{is_pending}
use Rattle.st_rules.specs.Events.{fate_seen, fates_from}
use Rattle.st_model.specs.Walks.{marked_fate, with_fate, marked, mark_from, pending_from, nth, step, walk, if_pending, left, seen_at}

pending_next : (f g : Fate) → is_pending f ≡ true → marked_fate f g ≡ g
pending_next Pending g h = refl
pending_next Hard g h = absurd (true≢false (sym h))
pending_next (Gone c) g h = absurd (true≢false (sym h))

closed_same : (f g : Fate) → is_pending f ≡ false → marked_fate f g ≡ f
closed_same Pending g h = absurd (true≢false h)
closed_same Hard g h = refl
closed_same (Gone c) g h = refl

open_is : (f : Fate) → is_pending f ≡ true → f ≡ Pending
open_is Pending h = refl
open_is Hard h = absurd (true≢false (sym h))
open_is (Gone c) h = absurd (true≢false (sym h))

-- what isn't pending shows nothing
closed_unseen : (n : ℕ) (f g : Fate) → is_pending f ≡ false → fate_seen n f (marked_fate f g) ≡ []
closed_unseen n Pending g h = absurd (true≢false h)
closed_unseen n Hard g h = refl
closed_unseen n (Gone c) g h = refl

-- each place is one of these entries
pub below_one : (n k m : ℕ) (ks : List ℕ) (b : Bool) (i d : ℕ) → ((j : ℕ) → j < length ks → get_or ks j d < n + 1 + m) → i < length (if b then n ∷ ks else ks) → get_or (if b then n ∷ ks else ks) i d < n + suc m
below_one n k m ks true zero d h l = omega arith
below_one n k m ks true (suc i) d h l = let q = h i (omega arith) in omega (arith, q)
below_one n k m ks false i d h l = let q = h i l in omega (arith, q)

pub pending_below : (n : ℕ) (es : List LogEntry) (i d : ℕ) → i < length (pending_from n es) → get_or (pending_from n es) i d < n + length es
pending_below n [] i d l = absurd (omega arith)
pending_below n (e ∷ es) i d l = below_one n 0 (length es) (pending_from (n + 1) es) (is_pending e.fate) i d (λ j q. pending_below (n + 1) es j d q) l

-- a place of the list of all pending ones
pub place_below : (es : List LogEntry) (ks : List ℕ) (i d : ℕ) → ks ≡ pending_from 0 es → i < length ks → get_or ks i d < length es
place_below es ks i d q l = let h = pending_below 0 es i d (subst (λ x. i < length x) q l) in subst (λ x. get_or x i d < length es) (sym q) (omega (arith, h))

get_or_rest : (ks js : List ℕ) (i d : ℕ) → drop i ks ≡ drop i js → get_or ks i d ≡ get_or js i d
get_or_rest ks js i d q =
    let s : i + 0 ≡ i = omega arith in
    ap (λ j. get_or ks j d) (sym s) ∙ sym (get_or-drop i ks 0 d) ∙ ap (λ x. get_or x 0 d) q ∙ get_or-drop i js 0 d ∙ ap (λ j. get_or js j d) s

-- the same, if the list is the old one from here on
pub place_below_now : (es now : List LogEntry) (ks js : List ℕ) (i d : ℕ) → js ≡ pending_from 0 es → drop i ks ≡ drop i js → length ks ≡ length js → length now ≡ length es → i < length ks → get_or ks i d < length now
place_below_now es now ks js i d q r s t l = rw t (rw (get_or_rest ks js i d r) (place_below es js i d q (rw (← s) l)))

put_pending : (g : Fate) (n : ℕ) (ks : List ℕ) → if_pending g n ++ ks ≡ (if is_pending g then n ∷ ks else ks)
put_pending Pending n ks = refl
put_pending Hard n ks = refl
put_pending (Gone c) n ks = refl

module _ (next : ℕ → LogOwner → Fate) where
  -- the entry after a prefix
  seam : (pre es : List LogEntry) (e : LogEntry) (n : ℕ) → length pre ≡ n → nth (pre ++ e ∷ es) n ≡ e
  seam pre es e n l = subst (λ m. nth (pre ++ e ∷ es) m ≡ e) l (get_or-append_seam pre e es _)

  seam_set : (pre es : List LogEntry) (e x : LogEntry) (n : ℕ) → length pre ≡ n → set (pre ++ e ∷ es) n x ≡ pre ++ x ∷ es
  seam_set pre es e x n l = subst (λ m. set (pre ++ e ∷ es) m x ≡ pre ++ x ∷ es) l (set-append_seam pre e es x)

  step_seam : (pre es : List LogEntry) (e : LogEntry) (n : ℕ) → length pre ≡ n → is_pending e.fate ≡ true → step next n (pre ++ e ∷ es) ≡ (pre ++ marked next (n + 1) e ∷ []) ++ es
  step_seam pre es e n l h =
      ap (λ x. set (pre ++ e ∷ es) n (with_fate (next (n + 1) x.of) x)) (seam pre es e n l)
      ∙ seam_set pre es e (with_fate (next (n + 1) e.of) e) n l
      ∙ ap (λ f. pre ++ with_fate f e ∷ es) (sym (pending_next e.fate (next (n + 1) e.of) h))
      ∙ sym (append_assoc pre (marked next (n + 1) e ∷ []) es)

  longer : (pre : List LogEntry) (e : LogEntry) (n : ℕ) → length pre ≡ n → length (pre ++ e ∷ []) ≡ n + 1
  longer pre e n l = length-append pre (e ∷ []) ∙ ap (λ m. m + 1) l

  marked_closed : (e : LogEntry) (n : ℕ) → is_pending e.fate ≡ false → marked next n e ≡ e
  marked_closed e n h = ap (λ f. with_fate f e) (closed_same e.fate (next n e.of) h)

  -- all entries after a prefix
  pub walk_all : (pre es : List LogEntry) (n : ℕ) → length pre ≡ n → walk next (pending_from n es) (pre ++ es) ≡ pre ++ mark_from next (n + 1) es
  walk_all pre [] n l = refl
  walk_all pre (e ∷ es) n l =
      let X = pre ++ e ∷ es in
      let P = pending_from (n + 1) es in
      let m = marked next (n + 1) e in
      ⊎_elim
      (λ h. ap (λ b. walk next (if b then n ∷ P else P) X) h
      ∙ ap (walk next P) (step_seam pre es e n l h)
      ∙ walk_all (pre ++ m ∷ []) es (n + 1) (longer pre m n l)
      ∙ append_assoc pre (m ∷ []) (mark_from next (n + 1 + 1) es))
      (λ h. ap (λ b. walk next (if b then n ∷ P else P) X) h
      ∙ ap (walk next P) (sym (append_assoc pre (e ∷ []) es))
      ∙ walk_all (pre ++ e ∷ []) es (n + 1) (longer pre e n l)
      ∙ append_assoc pre (e ∷ []) (mark_from next (n + 1 + 1) es)
      ∙ ap (λ x. pre ++ x ∷ mark_from next (n + 1 + 1) es) (sym (marked_closed e (n + 1) h)))
      (cases_Bool (is_pending e.fate))

  pub left_all : (pre es : List LogEntry) (n : ℕ) → length pre ≡ n → left next (pending_from n es) (pre ++ es) ≡ pending_from n (mark_from next (n + 1) es)
  left_all pre [] n l = refl
  left_all pre (e ∷ es) n l =
      let X = pre ++ e ∷ es in
      let P = pending_from (n + 1) es in
      let m = marked next (n + 1) e in
      let R = pending_from (n + 1) (mark_from next (n + 1 + 1) es) in
      ⊎_elim
      (λ h. ap (λ b. left next (if b then n ∷ P else P) X) h
      ∙ (λ i. if_pending (next (n + 1) (seam pre es e n l i).of) n ++ left next P (step_seam pre es e n l h i))
      ∙ ap (λ ks. if_pending (next (n + 1) e.of) n ++ ks) (left_all (pre ++ m ∷ []) es (n + 1) (longer pre m n l))
      ∙ put_pending (next (n + 1) e.of) n R
      ∙ ap (λ f. if is_pending f then n ∷ R else R) (sym (pending_next e.fate (next (n + 1) e.of) h)))
      (λ h. ap (λ b. left next (if b then n ∷ P else P) X) h
      ∙ ap (left next P) (sym (append_assoc pre (e ∷ []) es))
      ∙ left_all (pre ++ e ∷ []) es (n + 1) (longer pre e n l)
      ∙ ap (λ b. if b then n ∷ R else R) (sym (ap is_pending (closed_same e.fate (next (n + 1) e.of) h) ∙ h)))
      (cases_Bool (is_pending e.fate))

  pub seen_all : (pre es : List LogEntry) (n : ℕ) → length pre ≡ n → seen_at next (pending_from n es) (pre ++ es) ≡ fates_from (n + 1) es (mark_from next (n + 1) es)
  unfolding fates_from
  seen_all pre [] n l = refl
  seen_all pre (e ∷ es) n l =
      let X = pre ++ e ∷ es in
      let P = pending_from (n + 1) es in
      let g = next (n + 1) e.of in
      let R = fates_from (n + 1 + 1) es (mark_from next (n + 1 + 1) es) in
      let rest : seen_at next P X ≡ R = ap (seen_at next P) (sym (append_assoc pre (e ∷ []) es)) ∙ seen_all (pre ++ e ∷ []) es (n + 1) (longer pre e n l) in
      ⊎_elim
      (λ h. ap (λ b. seen_at next (if b then n ∷ P else P) X) h
      ∙ (λ i. fate_seen (n + 1) Pending (next (n + 1) (seam pre es e n l i).of) ++ rest i)
      ∙ (λ i. fate_seen (n + 1) (sym (open_is e.fate h) i) (sym (pending_next e.fate g h) i) ++ R))
      (λ h. ap (λ b. seen_at next (if b then n ∷ P else P) X) h
      ∙ rest
      ∙ ap (λ s. s ++ R) (sym (closed_unseen (n + 1) e.fate g h)))
      (cases_Bool (is_pending e.fate))
