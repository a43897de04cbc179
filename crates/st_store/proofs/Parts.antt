-- A write into a list of bytes, as its three parts.
use Rattle.std.proofs.Common.{◌≡◌, ℕ, zero, suc, ◌+◌, ◌-◌, ◌≤◌, ◌<◌, List, [], ◌∷◌, ◌++◌, length, get_or, take, drop, replicate, true, false, inl, inr, refl, sym, ap, ◌∙◌, subst, arith}
use Rattle.std.specs.Prelude.{nat_le, nat_lt}
use Rattle.std.proofs.lemmas.Bool.{and_parts, cases_Bool, cases_lt, leb-true, ltb-true, or_from}
use Rattle.std.proofs.lemmas.List.{append-nil, drop-drop, drop_all, get_or_past, length-replicate, take_all}
use borrow.Rule.Slice.PartMut.{put_mid}
use Rattle.st_store.specs.InMemory.{filled, Contents, Held, after_fill, after, after_all, is_loose, recorded, fresh_held, zeros}
use Rattle.st_store.specs.Invariants.{AreInside, IsKept}
use Rattle.st_store.specs.Laws.{IsOutside, fill_stays, length-filled, length-written, outside, stays}
use Rattle.st_store.specs.Store.{is_within, written}
use Rattle.st_store.specs.declared.history.Span.{Span}
use Rattle.st_store.specs.declared.history.StoreCall.{StoreCall}
use Rattle.st_store.specs.declared.history.StoreCall.TheVariants.{Write, Sync}
use Rattle.std.specs.Prelude.{Option, Some, None}
use Rattle.st_store.proofs.StoreBytes.{after_push, same_bytes, takes}

-- a write within the list is three parts
pub written_parts : (old : List ℕ) (at : ℕ) (new : List ℕ) → at + length new ≤ length old → written old at new ≡ take at old ++ (new ++ drop (at + length new) old)
written_parts [] zero [] l = refl
written_parts [] zero (n ∷ new) l = absurd (omega arith)
written_parts [] (suc at) new l = absurd (omega arith)
written_parts (b ∷ old) zero [] l = refl
written_parts (b ∷ old) zero (n ∷ new) l =
    let e : zero + length (n ∷ new) ≡ suc (zero + length new) = omega arith in
    ap (λ (t : List ℕ). n ∷ t) (written_parts old zero new (omega arith)) ∙ ap (λ (k : ℕ). n ∷ (new ++ drop k (b ∷ old))) (sym e)
written_parts (b ∷ old) (suc at) new l =
    let e : suc at + length new ≡ suc (at + length new) = omega arith in
    ap (λ (t : List ℕ). b ∷ t) (written_parts old at new (omega arith)) ∙ ap (λ (k : ℕ). b ∷ (take at old ++ (new ++ drop k (b ∷ old)))) (sym e)

-- what a write to a part of a slice leaves
pub put_written : (at end : ℕ) (old new : List ℕ) → end ≡ at + length new → end ≤ length old → put_mid at (end - at) old new ≡ written old at new
put_written at end old new e l =
    let k : end - at ≡ length new = omega arith in
    ap (λ (n : ℕ). take at old ++ (new ++ drop n (drop at old))) k ∙ ap (λ (t : List ℕ). take at old ++ (new ++ t)) (drop-drop (length new) at old) ∙ sym (written_parts old at new (omega arith))

-- a slice over all of a list
pub whole_written : (len : ℕ) (items new : List ℕ) → len ≡ length items → length new ≡ length items → take len (new ++ drop (length new) items) ≡ new
whole_written len items new e f =
    ap (λ (t : List ℕ). take len (new ++ t)) (drop_all (length new) items (omega arith)) ∙ ap (λ (t : List ℕ). take len t) (append-nil new) ∙ take_all len new (omega arith)

-- ranges in a store
pub inside_push : (size : ℕ) (loose : List Span) (s : Span) → AreInside size loose → s.at + s.count ≤ size → AreInside size (loose ++ s ∷ [])
inside_push size [] s h l = (l, tt)
inside_push size (x ∷ loose) s h l = (h.0, inside_push size loose s h.1 l)

-- filling ranges leaves nothing of what was in them
pub filled_over : (byte : ℕ) (spans : List Span) (a b : List ℕ) → length a ≡ length b → ((i : ℕ) → is_loose spans i ≡ false → get_or a i 0 ≡ get_or b i 0) → filled byte spans a ≡ filled byte spans b
filled_over byte [] a b size each = same_bytes a b size (λ i. each i refl)
filled_over byte (s ∷ spans) a b size each =
    let new : List ℕ = replicate s.count byte in
    let long : length new ≡ s.count = length-replicate s.count byte in
    let x = written a s.at new in
    let y = written b s.at new in
    let here : (i : ℕ) → is_within s.at s.count i ≡ true → get_or x i 0 ≡ get_or y i 0 = λ i e.
    let both = and_parts (nat_le s.at i) (nat_lt i (s.at + s.count)) e in
    let low : s.at ≤ i = leb-true s.at i both.0 in
    let high : i < s.at + s.count = ltb-true i (s.at + s.count) both.1 in
    let k = i - s.at in
    let is : i ≡ s.at + k = omega arith in
    let few : k < length new = omega (arith, long) in
    elim (cases_lt i (length a)) [
      | inl within ↦ takes a s.at new i k is few within ∙ sym (takes b s.at new i k is few (omega (arith, size)))
      | inr past ↦ get_or_past x i 0 (omega (arith, length-written a s.at new)) ∙ sym (get_or_past y i 0 (omega (arith, length-written b s.at new, size)))
    ] in
    let beside : (i : ℕ) → is_loose spans i ≡ false → is_within s.at s.count i ≡ false → get_or x i 0 ≡ get_or y i 0 = λ i e f.
    let out : IsOutside s.at (length new) i = subst (λ (n : ℕ). IsOutside s.at n i) (sym long) (outside s.at s.count i f) in
    stays a s.at new i out ∙ each i (or_from (is_within s.at s.count i) (is_loose spans i) f e) ∙ sym (stays b s.at new i out) in
    filled_over byte spans x y (length-written a s.at new ∙ size ∙ sym (length-written b s.at new))
    (λ i e. elim (cases_Bool (is_within s.at s.count i)) [ inl in_range ↦ here i in_range | inr out ↦ beside i e out ])

-- What the store's bytes are at first.
pub kept_new : (size : ℕ) (bytes : List ℕ) (history : List StoreCall) (loose : List Span) → bytes ≡ replicate size 0 → history ≡ [] → loose ≡ []
    → IsKept (record { size = length bytes; history = history; fill = None }) bytes loose
unfolding zeros
kept_new size bytes history loose e f g =
    let long : length bytes ≡ size = ap length e ∙ length-replicate size 0 in
    record {
      seen = e ∙ ap (λ (n : ℕ). replicate {A = ℕ} n 0) (sym long) ∙ sym (ap (λ (calls : List StoreCall). (after_all calls (fresh_held (length bytes))).seen) f);
      ranges = g ∙ sym (ap (λ (calls : List StoreCall). (after_all calls (fresh_held (length bytes))).loose) f);
      inside = subst (λ (l : List Span). AreInside (length bytes) l) (sym g) tt;
    }

-- What they are after a call.

module _ (size : ℕ) (history : List StoreCall) (fill : Option ℕ) (bytes : List ℕ) (loose : List Span) (kept : IsKept (record { size = size; history = history; fill = fill }) bytes loose) where
  abbrev s : Contents
  s = record { size = size; history = history; fill = fill }

  same_loose : (fill : Option ℕ) (h : Held) → (after_fill fill h).loose ≡ h.loose
  same_loose None h = refl
  same_loose (Some byte) h = refl

  fill_again : (byte : ℕ) (fill : Option ℕ) (h : Held) → filled byte h.loose (after_fill fill h).seen ≡ filled byte h.loose h.seen
  fill_again byte None h = refl
  fill_again byte (Some old) h = filled_over byte h.loose (filled old h.loose h.seen) h.seen (length-filled old h.loose h.seen) (λ i e. fill_stays old h.loose h.seen i e)

  pub kept_fill : (byte : ℕ) (now : List ℕ) → now ≡ filled byte loose bytes → IsKept (record { size = size; history = history; fill = Some byte }) now loose
  kept_fill byte now e =
      let ranges : loose ≡ (recorded s).loose = kept.ranges ∙ same_loose fill (recorded s) in
      record {
        seen = e ∙ ap (λ (l : List Span). filled byte l bytes) ranges ∙ ap (λ (b : List ℕ). filled byte (recorded s).loose b) kept.seen ∙ fill_again byte fill (recorded s);
        ranges = ranges;
        inside = kept.inside;
      }

  pub kept_sync : (later : List StoreCall) (none : List Span) → later ≡ history ++ Sync fill ∷ [] → none ≡ [] → IsKept (record { size = size; history = later; fill = None }) bytes none
  kept_sync later none e f =
      let t : Contents = record { size = size; history = later; fill = None } in
      let is : recorded t ≡ after (Sync fill) (recorded s) = ap (λ (calls : List StoreCall). after_all calls (fresh_held size)) e ∙ after_push history (Sync fill) (fresh_held size) in
      record {
        seen = kept.seen ∙ sym (ap (λ (h : Held). h.seen) is);
        ranges = f ∙ sym (ap (λ (h : Held). h.loose) is);
        inside = subst (λ (l : List Span). AreInside size l) (sym f) tt;
      }

  pub kept_write : (at : ℕ) (new : List ℕ) (later : List StoreCall) (more : List Span) (now : List ℕ) → later ≡ history ++ Write fill at new ∷ [] → more ≡ loose ++ record { at = at; count = length new } ∷ []
      → now ≡ written bytes at new → at + length new ≤ size → IsKept (record { size = size; history = later; fill = None }) now more
  kept_write at new later more now e f g l =
      let t : Contents = record { size = size; history = later; fill = None } in
      let is : recorded t ≡ after (Write fill at new) (recorded s) = ap (λ (calls : List StoreCall). after_all calls (fresh_held size)) e ∙ after_push history (Write fill at new) (fresh_held size) in
      record {
        seen = g ∙ ap (λ (b : List ℕ). written b at new) kept.seen ∙ sym (ap (λ (h : Held). h.seen) is);
        ranges = f ∙ ap (λ (x : List Span). x ++ record { at = at; count = length new } ∷ []) kept.ranges ∙ sym (ap (λ (h : Held). h.loose) is);
        inside = subst (λ (x : List Span). AreInside size x) (sym f) (inside_push size loose (record { at = at; count = length new }) kept.inside l);
      }
