-- What the calls of the store in memory do to its bytes, and what a crash may leave of them.
use Rattle.std.proofs.Common.{◌≡◌, ℕ, zero, suc, ◌+◌, ◌-◌, ◌≤◌, ◌<◌, true, false, List, [], ◌∷◌, ◌++◌, length, get_or, take, drop, Option, Some, None, Result, Ok, Err, refl, sym, ap, ◌∙◌, subst, inl, inr, ⊎_elim, arith, length-drop}
use Rattle.std.specs.Prelude.{nat_le, nat_lt, OnOk}
use Rattle.std.proofs.lemmas.Bool.{and_parts, or_from, leb-true, ltb-true, cases_Bool, cases_lt}
use Rattle.std.proofs.lemmas.List.{length-replicate, length-take, get_or-take, get_or-drop, take_all, take-append-le, length_push, ext_get_or}
use Rattle.std.proofs.lemmas.List.Folds.{list_any-append}
use Rattle.st_link.specs.Causes.{HasCause}
use Rattle.st_link.specs.InMemory.{raised}
use Rattle.st_link.specs.declared.link.Failed.{Failed}
use Rattle.st_store.specs.Store.{written, is_within, Torn, Follows, IsWithin, Only, Elapses}
use Rattle.st_store.specs.InMemory.{Held, Contents, InMemory, MayLeave, LeftSince, zeros, after_fill, after, after_all, fresh_held, is_loose, recorded, held, with_call, with_write, with_sync, changed, counted, failed, unrecorded, stopped, stopped_unrecorded, ReadBy, WriteBy, SyncBy}
use Rattle.st_store.specs.Laws.{outside, IsOutside, length-written, stays, Agrees, loose_parts, recorded_agrees, length-fill}
use Rattle.st_store.specs.declared.plan.Outcome.{Outcome}
use Rattle.st_store.specs.declared.plan.Outcome.TheVariants.{Works, Fails, Stops}
use Rattle.st_store.specs.declared.history.Span.{Span}
use Rattle.st_store.specs.declared.history.StoreCall.{StoreCall}
use Rattle.st_store.specs.declared.history.StoreCall.TheVariants.{Write, Sync}

-- bytes inside the range are the new ones
pub takes : (old : List ℕ) (at : ℕ) (new : List ℕ) (i k : ℕ) → i ≡ at + k → k < length new → i < length old → get_or (written old at new) i 0 ≡ get_or new k 0
takes [] at new i k e few within = absurd (omega arith)
takes (b ∷ old) zero [] i k e few within = absurd (omega arith)
takes (b ∷ old) zero (n ∷ new) zero zero e few within = refl
takes (b ∷ old) zero (n ∷ new) zero (suc k) e few within = absurd (omega arith)
takes (b ∷ old) zero (n ∷ new) (suc i) zero e few within = absurd (omega arith)
takes (b ∷ old) zero (n ∷ new) (suc i) (suc k) e few within = takes old zero new i k (omega arith) (omega arith) (omega arith)
takes (b ∷ old) (suc at) new zero k e few within = absurd (omega arith)
takes (b ∷ old) (suc at) new (suc i) k e few within = takes old at new i k (omega arith) few (omega arith)

-- an index outside the ranges and outside one more
pub loose_from : (loose : List Span) (s : Span) (i : ℕ) → is_loose loose i ≡ false → is_within s.at s.count i ≡ false → is_loose (loose ++ s ∷ []) i ≡ false
loose_from loose s i e f =
    list_any-append (λ (r : Span). is_within r.at r.count i) loose (s ∷ []) ∙ or_from (is_loose loose i) (is_loose (s ∷ []) i) e (or_from (is_within s.at s.count i) false f refl)

-- what a crash may leave after a write is what it might have left before, with any bytes in the range
torn_back : (h : Held) (seen : List ℕ) (at : ℕ) (new : List ℕ) (c : List ℕ) → Agrees h → length seen ≡ length h.seen → at + length new ≤ length h.seen
    → MayLeave (record { seen = seen; synced = h.synced; loose = h.loose ++ record { at = at; count = length new } ∷ [] }) c → (d : List ℕ) × MayLeave h d × Torn at (length new) d c
torn_back h seen at new c agrees same within left =
    let count = length new in
    let piece : List ℕ = take count (drop at h.synced) in
    let long : length piece ≡ count = omega (arith, length-take count (drop at h.synced), length-drop at h.synced, agrees.size) in
    let d : List ℕ = written c at piece in
    let size : length d ≡ length h.seen = length-written c at piece ∙ left.size ∙ same in
    let out : (i : ℕ) → is_within at count i ≡ false → get_or d i 0 ≡ get_or c i 0 = λ i e. stays c at piece i (subst (λ (n : ℕ). IsOutside at n i) (sym long) (outside at count i e)) in
    let here : (i : ℕ) → is_within at count i ≡ true → get_or d i 0 ≡ get_or h.synced i 0 = λ i e.
    let both = and_parts (nat_le at i) (nat_lt i (at + count)) e in
    let low : at ≤ i = leb-true at i both.0 in
    let high : i < at + count = ltb-true i (at + count) both.1 in
    let k = i - at in
    let few : k < count = omega arith in
    let is : i ≡ at + k = omega arith in
    takes c at piece i k is (omega (arith, long)) (omega (arith, left.size, same, within))
    ∙ get_or-take count (drop at h.synced) k 0 few ∙ get_or-drop at h.synced k 0 ∙ ap (λ (j : ℕ). get_or h.synced j 0) (sym is) in
    let others : (i : ℕ) → is_loose h.loose i ≡ false → get_or d i 0 ≡ get_or h.synced i 0 = λ i e.
    elim (cases_Bool (is_within at count i)) [
      | inl in_range ↦ here i in_range
      | inr beside ↦ out i beside ∙ left.others i (loose_from h.loose (record { at = at; count = count }) i e beside)
    ] in
    (d, record { size = size; others = others }, record { size = sym (length-written c at piece); others = λ i e. sym (out i e) })

call_follows : (fill : Option ℕ) (at : ℕ) (new : List ℕ) (h : Held) → Agrees h → at + length new ≤ length h.seen → Follows (Torn at (length new)) (MayLeave h) (MayLeave (after (Write fill at new) h))
call_follows None at new h agrees within c left = torn_back h (written h.seen at new) at new c agrees (length-written h.seen at new) within left
call_follows (Some byte) at new h agrees within c left =
    torn_back h (written (after_fill (Some byte) h).seen at new) at new c agrees (length-written (after_fill (Some byte) h).seen at new ∙ length-fill (Some byte) h) within left

-- after one more call
pub after_push : (calls : List StoreCall) (c : StoreCall) (h : Held) → after_all (calls ++ c ∷ []) h ≡ after c (after_all calls h)
after_push [] c h = refl
after_push (x ∷ calls) c h = after_push calls c (after x h)

-- the size of what is read is the store's
length-after : (c : StoreCall) (h : Held) → length (after c h).seen ≡ length h.seen
length-after (Write fill at new) h = length-written (after_fill fill h).seen at new ∙ length-fill fill h
length-after (Sync fill) h = length-fill fill h

length-all : (calls : List StoreCall) (h : Held) → length (after_all calls h).seen ≡ length h.seen
length-all [] h = refl
length-all (c ∷ calls) h = length-all calls (after c h) ∙ length-after c h

pub length-zeros : (size : ℕ) → length (zeros size) ≡ size
unfolding zeros
length-zeros size = length-replicate size 0

pub length-seen : (s : Contents) → length (held s).seen ≡ s.size
length-seen s = length-fill s.fill (recorded s) ∙ length-all s.history (fresh_held s.size) ∙ length-zeros s.size

-- the size is that of what is read
pub length-held : (s : Contents) → length (held s).seen ≡ length (recorded s).seen
length-held s = length-fill s.fill (recorded s)

write_follows : (s : Contents) (at : ℕ) (new : List ℕ) → at + length new ≤ length (held s).seen → Follows (Torn at (length new)) (MayLeave (recorded s)) (MayLeave (recorded (with_write s at new)))
write_follows s at new within c left =
    let moved = subst (λ (h : Held). MayLeave h c) (after_push s.history (Write s.fill at new) (fresh_held s.size)) left in
    call_follows s.fill at new (recorded s) (recorded_agrees s) (omega (arith, within, length-held s)) c moved

-- equal contents everywhere
pub same_bytes : (a b : List ℕ) → length a ≡ length b → ((i : ℕ) → get_or a i 0 ≡ get_or b i 0) → a ≡ b
same_bytes a b size each = ext_get_or 0 a b size (λ i l. each i)

sync_only : (s : Contents) → Only (held s).seen (MayLeave (recorded (with_sync s)))
sync_only s c left =
    let moved = subst (λ (h : Held). MayLeave h c) (after_push s.history (Sync s.fill) (fresh_held s.size)) left in
    synced s.fill (recorded s) c moved
  where
    synced : (fill : Option ℕ) (h : Held) (c : List ℕ) → MayLeave (after (Sync fill) h) c → c ≡ (after_fill fill h).seen
    synced fill h c left = same_bytes c (after_fill fill h).seen left.size (λ i. left.others i refl)

-- a sync takes nothing in that was not there
sync_within : (s : Contents) → IsWithin (MayLeave (recorded s)) (MayLeave (recorded (with_sync s)))
sync_within s c left = subst (λ (b : List ℕ). MayLeave (recorded s) b) (sym (sync_only s c left)) (Rattle.st_store.specs.Laws.stands s)

-- Time.

time_same : (s t : Contents) → t.history ≡ s.history → t.size ≡ s.size → Elapses (length s.history) (length t.history) (LeftSince s) (LeftSince t) (MayLeave (recorded t))
time_same s t e f = record {
  later = omega (arith, ap length e);
  nothing_else = λ n c le left. inl (record {
    moment = left.moment;
    from = left.from;
    to = omega (arith, left.to, ap length e);
    left = subst (λ (calls : List StoreCall). MayLeave (after_all (take left.moment calls) (fresh_held s.size)) c) e (subst (λ (size : ℕ). MayLeave (after_all (take left.moment t.history) (fresh_held size)) c) f left.left);
  });
  keeps = λ n c le left. record {
    moment = left.moment;
    from = left.from;
    to = omega (arith, left.to, ap length e);
    left = subst (λ (calls : List StoreCall). MayLeave (after_all (take left.moment calls) (fresh_held t.size)) c) (sym e) (subst (λ (size : ℕ). MayLeave (after_all (take left.moment s.history) (fresh_held size)) c) (sym f) left.left);
  };
}

time_call : (s : Contents) (x : StoreCall) → Elapses (length s.history) (length (with_call s x).history) (LeftSince s) (LeftSince (with_call s x)) (MayLeave (recorded (with_call s x)))
time_call s x =
    let more = length_push s.history x in
    record {
      later = omega (arith, more);
      nothing_else = λ n c le left. elim (cases_lt (length s.history) left.moment) [
        | inl last ↦ inr (subst (λ (calls : List StoreCall). MayLeave (after_all calls (fresh_held s.size)) c) (take_all left.moment (s.history ++ x ∷ []) (omega (arith, more))) left.left)
        | inr before ↦ inl (record {
          moment = left.moment;
          from = left.from;
          to = before;
          left = subst (λ (calls : List StoreCall). MayLeave (after_all calls (fresh_held s.size)) c) (take-append-le left.moment s.history (x ∷ []) before) left.left;
        })
      ];
      keeps = λ n c le left. record {
        moment = left.moment;
        from = left.from;
        to = omega (arith, left.to, more);
        left = subst (λ (calls : List StoreCall). MayLeave (after_all calls (fresh_held s.size)) c) (sym (take-append-le left.moment s.history (x ∷ []) left.to)) left.left;
      };
    }

abbrev Time : Contents → Contents → Type 0
Time s t = Elapses (length s.history) (length t.history) (LeftSince s) (LeftSince t) (MayLeave (recorded t))

-- Each call, by what becomes of it.

abbrev Within : InMemory → InMemory → Type 0
Within old new = IsWithin (MayLeave (recorded old.contents)) (MayLeave (recorded new.contents))

abbrev Later : InMemory → InMemory → Type 0
Later old new = Time old.contents new.contents

-- what each call leaves if it changes no byte
same_within : (old new : InMemory) → recorded new.contents ≡ recorded old.contents → Within old new
same_within old new e c left = subst (λ (h : Held). MayLeave h c) e left

module _ (old new : InMemory) where
  quiet_within : (x : InMemory) → new ≡ x → recorded x.contents ≡ recorded old.contents → Within old new
  quiet_within x e f = same_within old new (ap (λ (s : InMemory). recorded s.contents) e ∙ f)

  quiet_time : (x : InMemory) → new ≡ x → x.contents.history ≡ old.contents.history → x.contents.size ≡ old.contents.size → Later old new
  quiet_time x e f g = time_same old.contents new.contents (ap (λ (s : InMemory). s.contents.history) e ∙ f) (ap (λ (s : InMemory). s.contents.size) e ∙ g)

  pub read_seen : (o : Outcome) (r : Result Unit Failed) → ReadBy o old new r → OnOk r ((held new.contents).seen ≡ (held old.contents).seen)
  read_seen Works (Ok done) e = ap (λ (s : InMemory). (held s.contents).seen) e
  read_seen Works (Err f) e = tt
  read_seen Fails (Ok done) e = absurd e
  read_seen Fails (Err f) e = tt
  read_seen (Stops byte) (Ok done) e = absurd e
  read_seen (Stops byte) (Err f) e = tt

  pub read_within : (o : Outcome) (r : Result Unit Failed) → ReadBy o old new r → Within old new
  read_within Works (Ok done) e = quiet_within (counted old) e refl
  read_within Works (Err f) e = absurd e
  read_within Fails (Ok done) e = absurd e
  read_within Fails (Err f) e = quiet_within (failed old) e refl
  read_within (Stops byte) (Ok done) e = absurd e
  read_within (Stops byte) (Err f) e = quiet_within (stopped old byte) e refl

  pub read_time : (o : Outcome) (r : Result Unit Failed) → ReadBy o old new r → Later old new
  read_time Works (Ok done) e = quiet_time (counted old) e refl refl
  read_time Works (Err f) e = absurd e
  read_time Fails (Ok done) e = absurd e
  read_time Fails (Err f) e = quiet_time (failed old) e refl refl
  read_time (Stops byte) (Ok done) e = absurd e
  read_time (Stops byte) (Err f) e = quiet_time (stopped old byte) e refl refl

  went_well : (f : Unit) → new.plan.faults ≡ old.plan.faults → HasCause {T = Unit} {E = Failed} old.plan.faults new.plan.faults (Ok f)
  went_well f e = record { later = omega (arith, e); still = e; failed = tt }

  went_wrong : old.plan.faults ≤ new.plan.faults → (f : Failed) → new.plan.faults ≡ raised old.plan.faults → HasCause {T = Unit} {E = Failed} old.plan.faults new.plan.faults (Err f)
  went_wrong later f e = record { later = later; still = tt; failed = omega (arith, e) }

  pub read_cause : old.plan.faults ≤ new.plan.faults → (o : Outcome) (r : Result Unit Failed) → ReadBy o old new r → HasCause old.plan.faults new.plan.faults r
  read_cause later Works (Ok done) e = went_well done (ap (λ (s : InMemory). s.plan.faults) e)
  read_cause later Works (Err f) e = absurd e
  read_cause later Fails (Ok done) e = absurd e
  read_cause later Fails (Err f) e = went_wrong later f (ap (λ (s : InMemory). s.plan.faults) e)
  read_cause later (Stops byte) (Ok done) e = absurd e
  read_cause later (Stops byte) (Err f) e = went_wrong later f (ap (λ (s : InMemory). s.plan.faults) e)

  module _ (at : ℕ) (bytes : List ℕ) where
    abbrev next : Contents
    next = with_write old.contents at bytes

    write_seen_at : (held next).seen ≡ written (held old.contents).seen at bytes
    write_seen_at = ap (λ (h : Held). h.seen) (after_push old.contents.history (Write old.contents.fill at bytes) (fresh_held old.contents.size))

    pub write_seen : (o : Outcome) (r : Result Unit Failed) → WriteBy o old new next r → OnOk r ((held new.contents).seen ≡ written (held old.contents).seen at bytes)
    write_seen Works (Ok done) e = ap (λ (s : InMemory). (held s.contents).seen) e ∙ write_seen_at
    write_seen Works (Err f) e = tt
    write_seen Fails (Ok done) e = absurd e
    write_seen Fails (Err f) e = tt
    write_seen (Stops byte) (Ok done) e = absurd e
    write_seen (Stops byte) (Err f) e = tt

    abbrev Crash : Type 0
    Crash = Follows (Torn at (length bytes)) (MayLeave (recorded old.contents)) (MayLeave (recorded new.contents))

    unwritten : (x : InMemory) → new ≡ x → recorded x.contents ≡ recorded old.contents → Crash
    unwritten x e f c left = (c, quiet_within x e f c left, record { size = refl; others = λ i g. refl })

    wrote : at + length bytes ≤ length (held old.contents).seen → (x : InMemory) → new ≡ x → recorded x.contents ≡ recorded next → Crash
    wrote within x e f c left = write_follows old.contents at bytes within c (subst (λ (h : Held). MayLeave h c) (ap (λ (s : InMemory). recorded s.contents) e ∙ f) left)

    pub write_crash : at + length bytes ≤ length (held old.contents).seen → (o : Outcome) (r : Result Unit Failed) → WriteBy o old new next r → Crash
    write_crash within Works (Ok done) e = wrote within (changed (counted old) next) e refl
    write_crash within Works (Err f) e = unwritten (unrecorded old) e refl
    write_crash within Fails (Ok done) e = absurd e
    write_crash within Fails (Err f) e = unwritten (failed old) e refl
    write_crash within (Stops byte) (Ok done) e = absurd e
    write_crash within (Stops byte) (Err f) (inl e) = wrote within (stopped (changed old next) byte) e refl
    write_crash within (Stops byte) (Err f) (inr e) = unwritten (stopped_unrecorded old) e refl

    -- a call is recorded
    call_time : (x : InMemory) (call : StoreCall) → new ≡ x → x.contents.history ≡ old.contents.history ++ call ∷ [] → x.contents.size ≡ old.contents.size → Later old new
    call_time x call e f g =
        let t = with_call old.contents call in
        let past = time_call old.contents call in
        let on = time_same t new.contents (ap (λ (s : InMemory). s.contents.history) e ∙ f) (ap (λ (s : InMemory). s.contents.size) e ∙ g) in
        record {
          later = omega (arith, past.later, on.later);
          nothing_else = λ n c le left. ⊎_elim (λ since. ⊎_elim (λ before. inl before) (λ now. inr (subst (λ (h : Held). MayLeave h c) (same_held x call e f g) now)) (past.nothing_else n c le since)) (λ now. inr now) (on.nothing_else n c (omega (arith, le, past.later)) left);
          keeps = λ n c le left. on.keeps n c (omega (arith, le, past.later)) (past.keeps n c le left);
        }
      where
        same_held : (x : InMemory) (call : StoreCall) → new ≡ x → x.contents.history ≡ old.contents.history ++ call ∷ [] → x.contents.size ≡ old.contents.size → recorded (with_call old.contents call) ≡ recorded new.contents
        same_held x call e f g = sym (ap (λ (s : InMemory). recorded s.contents) e ∙ ap (λ (calls : List StoreCall). after_all calls (fresh_held x.contents.size)) f ∙ ap (λ (size : ℕ). after_all (old.contents.history ++ call ∷ []) (fresh_held size)) g)

    pub write_time : (o : Outcome) (r : Result Unit Failed) → WriteBy o old new next r → Later old new
    write_time Works (Ok done) e = call_time (changed (counted old) next) (Write old.contents.fill at bytes) e refl refl
    write_time Works (Err f) e = quiet_time (unrecorded old) e refl refl
    write_time Fails (Ok done) e = absurd e
    write_time Fails (Err f) e = quiet_time (failed old) e refl refl
    write_time (Stops byte) (Ok done) e = absurd e
    write_time (Stops byte) (Err f) (inl e) = call_time (stopped (changed old next) byte) (Write old.contents.fill at bytes) e refl refl
    write_time (Stops byte) (Err f) (inr e) = quiet_time (stopped_unrecorded old) e refl refl

    pub write_cause : old.plan.faults ≤ new.plan.faults → (o : Outcome) (r : Result Unit Failed) → WriteBy o old new next r → HasCause old.plan.faults new.plan.faults r
    write_cause later Works (Ok done) e = went_well done (ap (λ (s : InMemory). s.plan.faults) e)
    write_cause later Works (Err f) e = went_wrong later f (ap (λ (s : InMemory). s.plan.faults) e)
    write_cause later Fails (Ok done) e = absurd e
    write_cause later Fails (Err f) e = went_wrong later f (ap (λ (s : InMemory). s.plan.faults) e)
    write_cause later (Stops byte) (Ok done) e = absurd e
    write_cause later (Stops byte) (Err f) (inl e) = went_wrong later f (ap (λ (s : InMemory). s.plan.faults) e)
    write_cause later (Stops byte) (Err f) (inr e) = went_wrong later f (ap (λ (s : InMemory). s.plan.faults) e)

  abbrev and_synced : Contents
  and_synced = with_sync old.contents

  sync_seen_at : (held and_synced).seen ≡ (held old.contents).seen
  sync_seen_at = ap (λ (h : Held). h.seen) (after_push old.contents.history (Sync old.contents.fill) (fresh_held old.contents.size))

  pub sync_seen : (o : Outcome) (r : Result Unit Failed) → SyncBy o old new r → OnOk r ((held new.contents).seen ≡ (held old.contents).seen)
  sync_seen Works (Ok done) e = ap (λ (s : InMemory). (held s.contents).seen) e ∙ sync_seen_at
  sync_seen Works (Err f) e = tt
  sync_seen Fails (Ok done) e = absurd e
  sync_seen Fails (Err f) e = tt
  sync_seen (Stops byte) (Ok done) e = absurd e
  sync_seen (Stops byte) (Err f) e = tt

  pub sync_durable : (o : Outcome) (r : Result Unit Failed) → SyncBy o old new r → OnOk r (Only (held old.contents).seen (MayLeave (recorded new.contents)))
  sync_durable Works (Ok done) e = λ c left. sync_only old.contents c (subst (λ (s : InMemory). MayLeave (recorded s.contents) c) e left)
  sync_durable Works (Err f) e = tt
  sync_durable Fails (Ok done) e = absurd e
  sync_durable Fails (Err f) e = tt
  sync_durable (Stops byte) (Ok done) e = absurd e
  sync_durable (Stops byte) (Err f) e = tt

  pub sync_crash : (o : Outcome) (r : Result Unit Failed) → SyncBy o old new r → Within old new
  sync_crash Works (Ok done) e = λ c left. sync_within old.contents c (subst (λ (s : InMemory). MayLeave (recorded s.contents) c) e left)
  sync_crash Works (Err f) e = quiet_within (unrecorded old) e refl
  sync_crash Fails (Ok done) e = absurd e
  sync_crash Fails (Err f) e = quiet_within (failed old) e refl
  sync_crash (Stops byte) (Ok done) e = absurd e
  sync_crash (Stops byte) (Err f) e = quiet_within (stopped old byte) e refl

  pub sync_time : (o : Outcome) (r : Result Unit Failed) → SyncBy o old new r → Later old new
  sync_time Works (Ok done) e = call_time 0 [] (changed (counted old) and_synced) (Sync old.contents.fill) e refl refl
  sync_time Works (Err f) e = quiet_time (unrecorded old) e refl refl
  sync_time Fails (Ok done) e = absurd e
  sync_time Fails (Err f) e = quiet_time (failed old) e refl refl
  sync_time (Stops byte) (Ok done) e = absurd e
  sync_time (Stops byte) (Err f) e = quiet_time (stopped old byte) e refl refl

  pub sync_cause : old.plan.faults ≤ new.plan.faults → (o : Outcome) (r : Result Unit Failed) → SyncBy o old new r → HasCause old.plan.faults new.plan.faults r
  sync_cause later Works (Ok done) e = went_well done (ap (λ (s : InMemory). s.plan.faults) e)
  sync_cause later Works (Err f) e = went_wrong later f (ap (λ (s : InMemory). s.plan.faults) e)
  sync_cause later Fails (Ok done) e = absurd e
  sync_cause later Fails (Err f) e = went_wrong later f (ap (λ (s : InMemory). s.plan.faults) e)
  sync_cause later (Stops byte) (Ok done) e = absurd e
  sync_cause later (Stops byte) (Err f) e = went_wrong later f (ap (λ (s : InMemory). s.plan.faults) e)
