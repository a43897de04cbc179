-- What always holds of what a store in memory holds, by the calls that it recorded.
use Rattle.std.proofs.Common.{◌≡◌, ◌⊎◌, ℕ, zero, suc, ◌+◌, ◌≤◌, ◌<◌, false, List, [], ◌∷◌, ◌++◌, length, get_or, replicate, Option, Some, None, refl, sym, ap, ◌∙◌, subst, inl, inr, arith}
use Rattle.std.proofs.lemmas.Bool.{and_cases, or_parts, leb-false, ltb-false}
use Rattle.std.proofs.lemmas.List.{length-replicate, take_all}
use Rattle.std.proofs.lemmas.List.Folds.{list_any-append}
use Rattle.std.specs.Prelude.{nat_le, nat_lt}
use Rattle.st_store.specs.Store.{written, is_within}
use Rattle.st_store.specs.InMemory.{Held, Contents, InMemory, Keeps, MayLeave, LeftSince, filled, after_fill, after_write, after, after_all, fresh_held, is_loose, recorded, held}
use Rattle.st_store.specs.declared.history.Span.{Span}
use Rattle.st_store.specs.declared.history.StoreCall.{StoreCall}
use Rattle.st_store.specs.declared.history.StoreCall.TheVariants.{Write, Sync}

-- an index before a range, or after it
abbrev pub IsOutside : ℕ → ℕ → ℕ → Type 0
IsOutside at count i = (i < at) ⊎ (at + count ≤ i)

pub outside : (at count i : ℕ) → is_within at count i ≡ false → IsOutside at count i
outside at count i e = elim (and_cases (nat_le at i) (nat_lt i (at + count)) e) [
  | inl before ↦ inl (leb-false at i before)
  | inr behind ↦ inr (ltb-false i (at + count) behind)
]

pub length-written : (old : List ℕ) (at : ℕ) (new : List ℕ) → length (written old at new) ≡ length old
length-written [] at new = refl
length-written (b ∷ old) zero [] = refl
length-written (b ∷ old) zero (n ∷ new) = ap suc (length-written old zero new)
length-written (b ∷ old) (suc at) new = ap suc (length-written old at new)

-- bytes outside the range stay
pub stays : (old : List ℕ) (at : ℕ) (new : List ℕ) (i : ℕ) → IsOutside at (length new) i → get_or (written old at new) i 0 ≡ get_or old i 0
stays [] at new i out = refl
stays (b ∷ old) zero [] i out = refl
stays (b ∷ old) zero (n ∷ new) zero (inl before) = absurd (omega arith)
stays (b ∷ old) zero (n ∷ new) zero (inr behind) = absurd (omega arith)
stays (b ∷ old) zero (n ∷ new) (suc i) (inl before) = absurd (omega arith)
stays (b ∷ old) zero (n ∷ new) (suc i) (inr behind) = stays old zero new i (inr (omega arith))
stays (b ∷ old) (suc at) new zero out = refl
stays (b ∷ old) (suc at) new (suc i) (inl before) = stays old at new i (inl (omega arith))
stays (b ∷ old) (suc at) new (suc i) (inr behind) = stays old at new i (inr (omega arith))

pub length-filled : (byte : ℕ) (spans : List Span) (bytes : List ℕ) → length (filled byte spans bytes) ≡ length bytes
length-filled byte [] bytes = refl
length-filled byte (s ∷ spans) bytes = length-filled byte spans (written bytes s.at (replicate s.count byte)) ∙ length-written bytes s.at (replicate s.count byte)

pub fill_stays : (byte : ℕ) (spans : List Span) (bytes : List ℕ) (i : ℕ) → is_loose spans i ≡ false → get_or (filled byte spans bytes) i 0 ≡ get_or bytes i 0
fill_stays byte [] bytes i e = refl
fill_stays byte (s ∷ spans) bytes i e =
    let parts = or_parts (is_within s.at s.count i) (is_loose spans i) e in
    let out : IsOutside s.at (length (replicate s.count byte)) i = subst (λ (n : ℕ). IsOutside s.at n i) (sym (length-replicate s.count byte)) (outside s.at s.count i parts.0) in
    fill_stays byte spans (written bytes s.at (replicate s.count byte)) i parts.1 ∙ stays bytes s.at (replicate s.count byte) i out

-- what is read agrees with what was there at the last sync, except for what was written since
pub record Agrees (h : Held) : Type 0 where
  pub size : length h.seen ≡ length h.synced
  pub others : (i : ℕ) → is_loose h.loose i ≡ false → get_or h.seen i 0 ≡ get_or h.synced i 0

fill_agrees : (fill : Option ℕ) (h : Held) → Agrees h → Agrees (after_fill fill h)
fill_agrees None h a = a
fill_agrees (Some byte) h a = record {
  size = length-filled byte h.loose h.seen ∙ a.size;
  others = λ i e. fill_stays byte h.loose h.seen i e ∙ a.others i e;
}

-- an index outside the ranges with one more is outside each
pub loose_parts : (loose : List Span) (s : Span) (i : ℕ) → is_loose (loose ++ s ∷ []) i ≡ false → (is_loose loose i ≡ false) × (is_within s.at s.count i ≡ false)
loose_parts loose s i e =
    let both = or_parts (is_loose loose i) (is_loose (s ∷ []) i) (sym (list_any-append (λ (r : Span). is_within r.at r.count i) loose (s ∷ [])) ∙ e) in
    (both.0, (or_parts (is_within s.at s.count i) false both.1).0)

write_agrees : (at : ℕ) (new : List ℕ) (h : Held) → Agrees h → Agrees (after_write at new h)
write_agrees at new h a = record {
  size = length-written h.seen at new ∙ a.size;
  others = λ i e.
      let parts = loose_parts h.loose (record { at = at; count = length new }) i e in
      stays h.seen at new i (outside at (length new) i parts.1) ∙ a.others i parts.0;
}

call_agrees : (c : StoreCall) (h : Held) → Agrees h → Agrees (after c h)
call_agrees (Write fill at new) h a = write_agrees at new (after_fill fill h) (fill_agrees fill h a)
call_agrees (Sync fill) h a = record { size = refl; others = λ i e. refl }

pub all_agree : (calls : List StoreCall) (h : Held) → Agrees h → Agrees (after_all calls h)
all_agree [] h a = a
all_agree (c ∷ calls) h a = all_agree calls (after c h) (call_agrees c h a)

pub fresh_agrees : (size : ℕ) → Agrees (fresh_held size)
fresh_agrees size = record { size = refl; others = λ i e. refl }

pub recorded_agrees : (s : Contents) → Agrees (recorded s)
recorded_agrees s = all_agree s.history (fresh_held s.size) (fresh_agrees s.size)

pub length-fill : (fill : Option ℕ) (h : Held) → length (after_fill fill h).seen ≡ length h.seen
length-fill None h = refl
length-fill (Some byte) h = length-filled byte h.loose h.seen

-- the laws of a store

fill_left : (fill : Option ℕ) (h : Held) → Agrees h → MayLeave h (after_fill fill h).seen
fill_left None h a = record { size = refl; others = a.others }
fill_left (Some byte) h a = record { size = length-filled byte h.loose h.seen; others = λ i e. fill_stays byte h.loose h.seen i e ∙ a.others i e }

pub stands : (s : Contents) → MayLeave (recorded s) (held s).seen
stands s = fill_left s.fill (recorded s) (recorded_agrees s)

pub one_size : (s : Contents) (c : List ℕ) → MayLeave (recorded s) c → length c ≡ length (held s).seen
one_size s c left = left.size ∙ sym (length-fill s.fill (recorded s))

pub counts_now : (s : Contents) (t : ℕ) (c : List ℕ) → t ≤ length s.history → MayLeave (recorded s) c → LeftSince s t c
counts_now s t c le left = record {
  moment = length s.history;
  from = le;
  to = omega arith;
  left = subst (λ (calls : List StoreCall). MayLeave (after_all calls (fresh_held s.size)) c) (sym (take_all (length s.history) s.history (omega arith))) left;
}

pub only_now : (s : Contents) (c : List ℕ) → LeftSince s (length s.history) c → MayLeave (recorded s) c
only_now s c left = subst (λ (calls : List StoreCall). MayLeave (after_all calls (fresh_held s.size)) c) (take_all left.moment s.history (omega (arith, left.from))) left.left

pub keeps_all : (s : InMemory) → Keeps s s
keeps_all s = record { size = refl; failing = refl; quiet = λ q. q; starved = λ y. y }

pub keeps_on : (a b c : InMemory) → Keeps a b → Keeps b c → Keeps a c
keeps_on a b c ab bc = record { size = bc.size ∙ ab.size; failing = bc.failing ∙ ab.failing; quiet = λ q. bc.quiet (ab.quiet q); starved = λ y. bc.starved (ab.starved y) }
