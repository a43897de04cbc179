-- What a failed write does to the entries of the volume, and what lines leave of those of the world.
use Rattle.st_lemmas.proofs.Words
use Words.{◌≡◌, ◌≤◌, ◌⊎◌, ℕ, zero, suc, ◌+◌, ◌&&◌, ◌||◌, ◌==◌, Bool, true, false, List, [], ◌∷◌, ◌++◌, Option, Some, None, refl, sym, ap, ◌∙◌, subst, inl, inr, arith}
use Words.{eq-eqb, if◌then◌else◌, set, slice_get, ClientId, FileId, PageNo, Fate, LogEntry, Observation}
use Words.seen
use Words.fates
use Words.FlatLog as log
use Words.Lines as lines
use Words.Lookups.{if_false, or_left, or_right, some_is}
use Words.Numbers.{get_old, set_other, set_own}
use Words.Tables.{and_both, and_left, same_or_not}
use Words.World.{World}
use Rattle.st_laws_volume.proofs.FateKeeps.{AllKeep, Keeps}
use Rattle.st_volume.specs.Pages.{Entry, failed_up_to, failure_of, is_by_at, is_open}

-- An open entry of the client and page, up to the one that the write carried, is failed by it.
abbrev FailedTo : List Entry → ℕ → ℕ → Type 0
FailedTo fs n number = (f : Entry) × (slice_get fs n ≡ Some f) × (f.failed ≡ number)

pub fails_here : (i : ℕ) (c : ClientId) (number : ℕ) (x : FileId × PageNo) (es : List Entry) (n : ℕ) (e : Entry) → slice_get es n ≡ Some e → suc n ≤ i →
    is_by_at c x e ≡ true → is_open e.fate ≡ true → FailedTo (failed_up_to i c number x es) n number
unfolding failed_up_to
fails_here zero c number x es n e q l b o = absurd (omega (arith, l))
fails_here (suc i) c number x [] n e q l b o = cc q
fails_here (suc i) c number x (y ∷ es) zero e q l b o = (
  failure_of c number x (i == 0) y,
  refl,
  ap (λ t. (if t then record y { failed = number } else y).failed)
      (and_both (is_by_at c x y) ((i == 0) || is_open y.fate) (ap (is_by_at c x) (some_is q) ∙ b)
      (or_right (i == 0) (is_open y.fate) (ap (λ (z : Entry). is_open z.fate) (some_is q) ∙ o))),
)
fails_here (suc i) c number x (y ∷ es) (suc n) e q l b o = fails_here i c number x es n e q (omega (arith, l)) b o

-- So is the one that it carried, whatever became of it.
pub fails_carried : (i : ℕ) (c : ClientId) (number : ℕ) (x : FileId × PageNo) (es : List Entry) (n : ℕ) (e : Entry) → slice_get es n ≡ Some e → suc n ≡ i →
    is_by_at c x e ≡ true → FailedTo (failed_up_to i c number x es) n number
unfolding failed_up_to
fails_carried zero c number x es n e q l b = absurd (omega (arith, l))
fails_carried (suc i) c number x [] n e q l b = cc q
fails_carried (suc i) c number x (y ∷ es) zero e q l b = (
  failure_of c number x (i == 0) y,
  refl,
  ap (λ t. (if t then record y { failed = number } else y).failed)
      (and_both (is_by_at c x y) ((i == 0) || is_open y.fate) (ap (is_by_at c x) (some_is q) ∙ b)
      (or_left (i == 0) (is_open y.fate) (eq-eqb i 0 (omega (arith, l))))),
)
fails_carried (suc i) c number x (y ∷ es) (suc n) e q l b = fails_carried i c number x es n e q (omega (arith, l)) b

-- Other entries stay as they are.
pub spares : (i : ℕ) (c : ClientId) (number : ℕ) (x : FileId × PageNo) (es : List Entry) (n : ℕ) (e : Entry) → slice_get es n ≡ Some e →
    (suc n ≤ i → is_by_at c x e ≡ true → ⊥) → slice_get (failed_up_to i c number x es) n ≡ Some e
unfolding failed_up_to
spares zero c number x es n e q never = q
spares (suc i) c number x [] n e q never = cc q
spares (suc i) c number x (y ∷ es) zero e q never = ap (λ z. Some z) (go (is_by_at c x y) refl) ∙ q
  where
    go : (b : Bool) → is_by_at c x y ≡ b → failure_of c number x (i == 0) y ≡ y
    go true h = absurd (never (omega arith) (ap (is_by_at c x) (sym (some_is q)) ∙ h))
    go false h =
        if_false (is_by_at c x y && ((i == 0) || is_open y.fate)) (record y { failed = number }) y
        (and_left (is_by_at c x y) ((i == 0) || is_open y.fate) h)
spares (suc i) c number x (y ∷ es) (suc n) e q never = spares i c number x es n e q (λ l b. never (let k = l in omega (arith, k)) b)

-- One of the entries that stay.
pub kept_at : (q : Type 0) (es fs : List Entry) → AllKeep q es fs → (n : ℕ) (e : Entry) → slice_get es n ≡ Some e →
    (f : Entry) × (slice_get fs n ≡ Some f) × Keeps q e f
kept_at q [] fs k n e i = cc i
kept_at q (x ∷ es) [] k n e i = absurd k
kept_at q (x ∷ es) (y ∷ fs) k zero e i = (y, refl, subst (λ z. Keeps q z y) (some_is i) k.0)
kept_at q (x ∷ es) (y ∷ fs) k (suc n) e i = kept_at q es fs k.1 n e i

-- The lines of an event: an entry stays whose it is, and was pending before if it is after.
pub record IsBack (o p : LogEntry) : Type 0 where
  pub of : p.of ≡ o.of
  pub change : p.change ≡ o.change
  pub pending : p.fate ≡ fates.Pending → o.fate ≡ fates.Pending

abbrev pub Back : List LogEntry → List LogEntry → Type 0
Back os ps = (n : ℕ) (o : LogEntry) → slice_get os n ≡ Some o → (p : LogEntry) × (slice_get ps n ≡ Some p) × IsBack o p

back_self : (os : List LogEntry) → Back os os
back_self os n o q = (o, q, record { of = refl; change = refl; pending = λ h. h })

back_then : (os ps qs : List LogEntry) → Back os ps → Back ps qs → Back os qs
back_then os ps qs a b n o q =
    let x = a n o q in
    let y = b n x.0 x.1 in (y.0, y.1, record { of = y.2.of ∙ x.2.of; change = y.2.change ∙ x.2.change; pending = λ h. x.2.pending (y.2.pending h) })

back_more : (os : List LogEntry) (e : LogEntry) → Back os (os ++ e ∷ [])
back_more os e n o q = (o, get_old os e n o q, record { of = refl; change = refl; pending = λ h. h })

back_set : (os : List LogEntry) (i : ℕ) (e : LogEntry) (fate : Fate) → (fate ≡ fates.Pending → ⊥) → slice_get os i ≡ Some e →
    Back os (set os i (record e { fate = fate }))
back_set os i e fate never there n o q = go (same_or_not n i)
  where
    own : n ≡ i → e ≡ o
    own h = some_is (sym there ∙ (ap (slice_get os) (sym h) ∙ q))

    go : (n ≡ i) ⊎ (n ≡ i → ⊥) → (p : LogEntry) × (slice_get (set os i (record e { fate = fate })) n ≡ Some p) × IsBack o p
    go (inl h) = (
      record e { fate = fate },
      ap (slice_get (set os i (record e { fate = fate }))) h ∙ set_own os i (record e { fate = fate }) e there,
      record {
        of = ap (λ (z : LogEntry). z.of) (own h);
        change = ap (λ (z : LogEntry). z.change) (own h);
        pending = λ k. absurd (never k);
      },
    )
    go (inr h) = (o, set_other os i n (record e { fate = fate }) h ∙ q, record { of = refl; change = refl; pending = λ k. k })

back_fated : (os : List LogEntry) (index : ℕ) (fate : Fate) → (fate ≡ fates.Pending → ⊥) → Back os (lines.fated os index fate)
back_fated os zero fate never = back_self os
back_fated os (suc n) fate never = go (slice_get os n) refl
  where
    go : (o : Option LogEntry) → slice_get os n ≡ o → Back os (lines.with_fate (suc n) fate o os)
    go None q = back_self os
    go (Some e) q = back_set os n e fate never q

line_back : (v : World) (os : List LogEntry) (x : Observation) → Back os (lines.log_behind v os x)
unfolding lines.log_behind log.accept log.patch log.cut
line_back v os (seen.Wrote i c f p bytes) = back_more os _
line_back v os (seen.Patched i c f p at bytes) = back_more os _
line_back v os (seen.CutAt i f p) = back_more os _
line_back v os (seen.Hardened i) = back_fated os i fates.Hard (λ h. cc h)
line_back v os (seen.Dropped i cause) = back_fated os i (fates.Gone cause) (λ h. cc h)
line_back v os (seen.Sent k m) = back_self os
line_back v os (seen.Submitted k c number what) = back_self os
line_back v os (seen.Answered c op answer) = back_self os
line_back v os (seen.Leased c s end) = back_self os
line_back v os (seen.Lost c s life) = back_self os
line_back v os (seen.Suspected s c start) = back_self os
line_back v os (seen.Stolen s c life) = back_self os

pub lines_back : (v : World) (os : List LogEntry) (xs : List Observation) → Back os (lines.log_told v os xs)
unfolding lines.log_told
lines_back v os [] = back_self os
lines_back v os (x ∷ xs) =
    back_then os (lines.log_behind v os x) (lines.log_told v (lines.log_behind v os x) xs) (line_back v os x) (lines_back v (lines.log_behind v os x) xs)
