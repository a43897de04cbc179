-- Entries that are counted, one after another.
use Rattle.std.proofs.Common.{◌≡◌, ℕ, zero, suc, ◌+◌, ◌≤◌, Bool, true, false, List, [], ◌∷◌, drop, length, refl, sym, ap, ◌∙◌, arith}
use Rattle.std.specs.Prelude.{filter, slice_get, Option, Some, None, option_map}
use Rattle.st_rules.specs.declared.log.Change.{Change}
use Rattle.st_rules.specs.declared.log.Change.TheVariants as changes
use Rattle.st_rules.specs.declared.log.EntryHead.{EntryHead}
use Rattle.st_rules.specs.declared.log.Fate.{Fate}
use Rattle.st_rules.specs.declared.log.LogEntry.{LogEntry}
use Rattle.st_rules.specs.FlatLog.{entry_at, head_by, head_of}
use Rattle.st_world_parts.specs.declared.counts.Sort.{Sort}
use Rattle.st_world_parts.specs.declared.counts.Sort.TheVariants as sorts
use Rattle.st_world_parts.specs.Sorts.{head_changes, one_if, picks, picks_by}
use Rattle.st_rules.specs.Events.{changes_page}

same_change : (e : LogEntry) (c : Change) → head_changes (head_by e.of c) ≡ changes_page c
same_change e (changes.Write bytes) = refl
same_change e (changes.Patch at bytes) = refl
same_change e changes.Cut = refl

picks_is : (s : Sort) (e : LogEntry) → picks_by s (head_of e) e.fate ≡ picks s e
picks_is sorts.Changes e = same_change e e.change
picks_is sorts.Hard e = rw (same_change e e.change) refl
picks_is sorts.Gone e = refl

pub record IsNext (log : List LogEntry) (i : ℕ) (h : EntryHead) (f : Fate) : Type 0 where
  pub entry : LogEntry
  pub there : slice_get log i ≡ Some entry
  pub head : head_of entry ≡ h
  pub fate : entry.fate ≡ f

next_of : (log : List LogEntry) (i : ℕ) (h : EntryHead) (f : Fate) (o : Option LogEntry) → slice_get log i ≡ o → option_map head_of o ≡ Some h → option_map (λ (e : LogEntry). e.fate) o ≡ Some f → IsNext log i h f
next_of log i h f None e a b = absurd (cc)
next_of log i h f (Some x) e a b = record { entry = x; there = e; head = cc; fate = cc }

dropped : {A : Type 0} (xs : List A) (i : ℕ) (x : A) → slice_get xs i ≡ Some x → drop i xs ≡ x ∷ drop (suc i) xs
dropped [] i x h = absurd (cc)
dropped (y ∷ ys) zero x h = let e : y ≡ x = cc in ap (λ z. z ∷ ys) e
dropped (y ∷ ys) (suc i) x h = dropped ys i x h

first_counts : (p : LogEntry → Bool) (x : LogEntry) (xs : List LogEntry) (b : Bool) → p x ≡ b → length (filter p (x ∷ xs)) ≡ one_if b + length (filter p xs)
first_counts p x xs true h = rw h (let z : suc (length (filter p xs)) ≡ 1 + length (filter p xs) = omega arith in z)
first_counts p x xs false h = rw h (let z : length (filter p xs) ≡ 0 + length (filter p xs) = omega arith in z)

-- one more entry is looked at
pub counted_next : (s : Sort) (log : List LogEntry) (i n : ℕ) (h : EntryHead) (f : Fate) (total : ℕ) →
    option_map head_of (entry_at log (i + 1)) ≡ Some h → option_map (λ (e : LogEntry). e.fate) (entry_at log (i + 1)) ≡ Some f →
    n + length (filter (picks s) (drop i log)) ≡ total → (n + one_if (picks_by s h f)) + length (filter (picks s) (drop (i + 1) log)) ≡ total
counted_next s log i n h f total a b before =
    let q : i + 1 ≡ suc i = omega arith in
    let a2 : option_map head_of (slice_get log i) ≡ Some h = sym (ap (λ k. option_map head_of (entry_at log k)) q) ∙ a in
    let b2 : option_map (λ (e : LogEntry). e.fate) (slice_get log i) ≡ Some f = sym (ap (λ k. option_map (λ (e : LogEntry). e.fate) (entry_at log k)) q) ∙ b in
    let x = next_of log i h f (slice_get log i) refl a2 b2 in
    let is : picks_by s h f ≡ picks s x.entry = sym (ap (λ y. picks_by s y f) x.head) ∙ sym (ap (picks_by s (head_of x.entry)) x.fate) ∙ picks_is s x.entry in
    let split : length (filter (picks s) (drop i log)) ≡ one_if (picks s x.entry) + length (filter (picks s) (drop (suc i) log)) =
    ap (λ l. length (filter (picks s) l)) (dropped log i x.entry x.there) ∙ first_counts (picks s) x.entry (drop (suc i) log) (picks s x.entry) refl in
    let z : one_if (picks_by s h f) ≡ one_if (picks s x.entry) = ap one_if is in
    let w : length (filter (picks s) (drop (i + 1) log)) ≡ length (filter (picks s) (drop (suc i) log)) = ap (λ k. length (filter (picks s) (drop k log))) q in
    omega (arith, before, split, z, w)

nothing_left : {A : Type 0} (xs : List A) (i : ℕ) → length xs ≤ i → drop i xs ≡ []
nothing_left [] zero h = refl
nothing_left [] (suc i) h = refl
nothing_left (x ∷ xs) zero h = absurd (omega (arith, h))
nothing_left (x ∷ xs) (suc i) h = nothing_left xs i (omega (arith, h))

-- all were looked at
pub counted_all : (s : Sort) (log : List LogEntry) (i n total : ℕ) → length log ≤ i → n + length (filter (picks s) (drop i log)) ≡ total → n ≡ total
counted_all s log i n total h e =
    let z : length (filter (picks s) (drop i log)) ≡ 0 = ap (λ l. length (filter (picks s) l)) (nothing_left log i h) in
    omega (arith, e, z)
