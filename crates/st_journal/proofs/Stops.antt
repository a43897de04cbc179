-- An append in which a store in memory stops.
use Rattle.std.proofs.Common.{◌≡◌, ◌≢◌, ◌⊎◌, ℕ, zero, suc, ◌+◌, ◌-◌, ◌≤◌, ◌<◌, Bool, true, false, List, [], ◌∷◌, ◌++◌, length, get_or, replicate, Option, Some, None, Result, Ok, Err, refl, sym, ap, ◌∙◌, subst, inl, inr, ⊎_elim, arith}
use Rattle.std.specs.Prelude.{eqb, ◌==◌, if◌then◌else◌}
use Rattle.std.proofs.lemmas.Bool.{cases_Bool, cases_lt, cond-false, eqb-true, eqb-false, ne_eqb}
use Rattle.st_link.specs.InMemory.{raised}
use Rattle.st_link.specs.declared.link.Failed.{Failed}
use Rattle.st_store.specs.InMemory.{Held, Contents, InMemory, MayLeave, zeros, fresh_held, after_fill, after, filled, is_loose, recorded, held, with_write, with_sync, with_fill, changed, counted, stopped, stopped_unrecorded, Writes, Syncs, WriteBy, SyncBy}
use Rattle.st_journal.specs.Journal.{framed, opened, all_opened, IsJournal}
use Rattle.st_store.specs.Laws.{stands, stays, fill_stays, length-written, IsOutside}
use Rattle.st_journal.specs.OpenedJournal.{Opened, HasPrefix, Records, Calls, acked_after, under_way_after}
use Rattle.st_store.specs.Plans as plans
use Rattle.st_store.specs.Plans.{by_stop, planned}
use Rattle.st_journal.specs.Stops.{IsArmed, EndsAtStop, after_stop}
use Rattle.st_store.specs.Store.{written}
use Rattle.st_journal.specs.Appends.{Puts}
use Rattle.st_journal.specs.declared.change.Change.{Change}
use Rattle.st_journal.specs.declared.fault.JournalFault.{JournalFault}
use Rattle.st_journal.specs.declared.fault.JournalFault.TheVariants.{Damaged, Full, Store, Broken, Memory}
use Rattle.st_store.specs.declared.history.Span.{Span}
use Rattle.st_store.specs.declared.history.StoreCall.{StoreCall}
use Rattle.st_store.specs.declared.history.StoreCall.TheVariants.{Write, Sync}
use Rattle.st_store.specs.declared.plan.Plan.{Plan}
use Rattle.st_store.specs.declared.plan.Stop.{Stop}
use Rattle.st_store.specs.declared.plan.Outcome.{Outcome}
use Rattle.st_store.specs.declared.plan.Outcome.TheVariants.{Works, Stops}
use Rattle.st_journal.proofs.Appends.{opened_push, before_range}
use Rattle.st_store.proofs.StoreBytes.{after_push, length-held, length-seen, loose_from, takes}
use Rattle.st_journal.proofs.Records.{gate_within}

abbrev Answered : Type 0
Answered = Result Unit Failed

abbrev failed_with : Failed → Answered
failed_with f = Err f

-- The gate's byte tells whether the journal has the change.

gate_byte : (xs : List Change) (g : ℕ) (rest : List ℕ) → get_or (all_opened xs ++ g ∷ rest) (length (all_opened xs)) 0 ≡ g
gate_byte xs g rest = at (all_opened xs)
  where
    at : (front : List ℕ) → get_or (front ++ g ∷ rest) (length front) 0 ≡ g
    at [] = refl
    at (b ∷ front) = at front

byte_shut : (bytes : List ℕ) (xs : List Change) (gate : ℕ) → gate ≡ length (all_opened xs) → IsJournal bytes xs → get_or bytes gate 0 ≢ 1
byte_shut bytes xs gate at j one =
    j.closed (sym (ap (λ (b : List ℕ). get_or b gate 0) j.parts ∙ ap (λ (i : ℕ). get_or (all_opened xs ++ j.gate ∷ j.rest) i 0) at ∙ gate_byte xs j.gate j.rest) ∙ one)

byte_open : (bytes : List ℕ) (xs : List Change) (x : Change) (gate : ℕ) → gate ≡ length (all_opened xs) → IsJournal bytes (xs ++ x ∷ []) → get_or bytes gate 0 ≡ 1
byte_open bytes xs x gate at j =
    ap (λ (b : List ℕ). get_or b gate 0) (j.parts ∙ opened_push xs x (j.gate ∷ j.rest)) ∙ ap (λ (i : ℕ). get_or (all_opened xs ++ (opened x ++ j.gate ∷ j.rest)) i 0) at
    ∙ gate_byte xs 1 (framed x ++ j.gate ∷ j.rest)

by_gate_shut : (bytes : List ℕ) (xs : List Change) (x : Change) (gate : ℕ) → gate ≡ length (all_opened xs) → get_or bytes gate 0 ≢ 1 → HasPrefix xs (Some x) bytes → IsJournal bytes xs
by_gate_shut bytes xs x gate at shut (inl j) = j
by_gate_shut bytes xs x gate at shut (inr j) = absurd (shut (byte_open bytes xs x gate at j))

by_gate_open : (bytes : List ℕ) (xs : List Change) (x : Change) (gate : ℕ) → gate ≡ length (all_opened xs) → get_or bytes gate 0 ≡ 1 → HasPrefix xs (Some x) bytes → IsJournal bytes (xs ++ x ∷ [])
by_gate_open bytes xs x gate at one (inl j) = absurd (byte_shut bytes xs gate at j one)
by_gate_open bytes xs x gate at one (inr j) = j

-- A call before the stop, and the call of the stop.

abbrev stop_in : ℕ → ℕ → Option Stop
stop_in call byte = Some (record { left = call; byte = byte })

armed_stops : (p : Plan) (byte : ℕ) → IsArmed p 1 byte → plans.outcome p ≡ Stops byte
armed_stops p byte a =
    let other : Outcome = planned p.failing.items (raised p.calls) in
    cond-false _ _ _ a.runs ∙ ap (λ (s : Option Stop). by_stop s other) a.set

armed_works : (p : Plan) (n byte : ℕ) → IsArmed p (suc (suc n)) byte → (plans.outcome p ≡ Works) × IsArmed (plans.counted p) (suc n) byte
armed_works p n byte a =
    let other : Outcome = planned p.failing.items (raised p.calls) in
    let later : eqb (suc (suc n)) 1 ≡ false = ne_eqb (suc (suc n)) 1 (λ e. omega (arith, e)) in
    let less : suc (suc n) - 1 ≡ suc n = omega arith in (
      cond-false _ _ _ a.runs ∙ ap (λ (s : Option Stop). by_stop s other) a.set ∙ cond-false _ _ _ later ∙ ap (λ (l : List ℕ). planned l (raised p.calls)) a.none,
      record { none = a.none; runs = a.runs; set = ap (λ (s : Option Stop). plans.counted_down s) a.set ∙ ap (λ (k : ℕ). stop_in k byte) less },
    )

-- No byte of the gate is loose if a crash leaves the journal as it is.

same_loose : (fill : Option ℕ) (h : Held) → (after_fill fill h).loose ≡ h.loose
same_loose None h = refl
same_loose (Some byte) h = refl

beside : (loose : List Span) (gate i : ℕ) → is_loose loose gate ≡ true → is_loose loose i ≡ false → IsOutside gate 1 i
beside loose gate i y n = elim (cases_lt i gate) [
  | inl before ↦ inl before
  | inr from ↦ elim (cases_lt gate i) [
    | inl behind ↦ inr (omega (arith, behind))
    | inr to ↦
        let same : i ≡ gate = omega (arith, from, to) in
        let e : true ≡ false = sym y ∙ ap (λ (k : ℕ). is_loose loose k) (sym same) ∙ n in
        absurd cc
  ]
]

gate_synced : (s : Contents) (xs : List Change) (gate : ℕ) → gate ≡ length (all_opened xs) → gate < length (held s).seen → ((c : List ℕ) → MayLeave (recorded s) c → IsJournal c xs)
    → is_loose (recorded s).loose gate ≡ false
gate_synced s xs gate at within crash = elim (cases_Bool (is_loose (recorded s).loose gate)) [
  | inr synced ↦ synced
  | inl loose ↦
      let c : List ℕ = written (held s).seen gate (1 ∷ []) in
      let one : get_or c gate 0 ≡ 1 = takes (held s).seen gate (1 ∷ []) gate 0 (omega arith) (omega arith) within in
      let left : MayLeave (recorded s) c = record {
        size = length-written (held s).seen gate (1 ∷ []) ∙ length-held s;
        others = λ i e. stays (held s).seen gate (1 ∷ []) i (beside (recorded s).loose gate i loose e) ∙ (stands s).others i e;
      } in
      absurd (byte_shut c xs gate at (crash c left) one)
]

-- The gate's byte after a stop.

stop_before : (s : Contents) (gate byte : ℕ) (new : List ℕ) → is_loose (recorded s).loose gate ≡ false → get_or (held (with_fill (with_write s (gate + 1) new) byte)).seen gate 0 ≡ get_or (held s).seen gate 0
stop_before s gate byte new synced =
    let loose : List Span = (after_fill s.fill (recorded s)).loose in
    let span : Span = record { at = gate + 1; count = length new } in
    let is = after_push s.history (Write s.fill (gate + 1) new) (fresh_held s.size) in
    let out : is_loose (loose ++ span ∷ []) gate ≡ false =
    loose_from loose span gate (ap (λ (l : List Span). is_loose l gate) (same_loose s.fill (recorded s)) ∙ synced) (before_range (gate + 1) (length new) gate (omega arith)) in
    ap (λ (h : Held). get_or (filled byte h.loose h.seen) gate 0) is ∙ fill_stays byte (loose ++ span ∷ []) (written (held s).seen (gate + 1) new) gate out ∙ stays (held s).seen (gate + 1) new gate (inl (omega arith))

stop_at : (w : Contents) (gate byte : ℕ) → gate < length (held w).seen → get_or (held (with_fill (with_write (with_sync w) gate (1 ∷ [])) byte)).seen gate 0 ≡ byte
stop_at w gate byte within =
    let fresh = fresh_held w.size in
    let call : StoreCall = Write None gate (1 ∷ []) in
    let is = after_push (with_sync w).history call fresh in
    let was = after_push w.history (Sync w.fill) fresh in
    let old : List ℕ = written (held w).seen gate (1 ∷ []) in
    ap (λ (h : Held). get_or (filled byte h.loose h.seen) gate 0) (is ∙ ap (λ (h : Held). after call h) was)
    ∙ takes old gate (byte ∷ []) gate 0 (omega arith) (omega arith) (omega (arith, within, length-written (held w).seen gate (1 ∷ [])))

-- Each call, armed for a later one or for this one.

ok_not : (f : Failed) → Ok tt ≡ failed_with f → ⊥
ok_not f e = cc

module _ (byte : ℕ) where
  module _ (a b : InMemory) (at : ℕ) (bytes : List ℕ) where
    abbrev next : Contents
    next = with_write a.contents at bytes

    by_outcome : (o : Outcome) (r : Answered) → plans.outcome a.plan ≡ o → Writes a b at bytes r → WriteBy o a b next r
    by_outcome o r is w = subst (λ (p : Outcome). WriteBy p a b next r) is w

    write_ok : (n : ℕ) → IsArmed a.plan (suc (suc n)) byte → Writes a b at bytes (Ok tt) → (b.contents ≡ next) × IsArmed b.plan (suc n) byte
    write_ok n armed w =
        let works = armed_works a.plan n byte armed in
        let e : b ≡ changed (counted a) next = by_outcome Works (Ok tt) works.0 w in
        (ap (λ (s : InMemory). s.contents) e, subst (λ (s : InMemory). IsArmed s.plan (suc n) byte) (sym e) works.1)

    write_err : (n : ℕ) (f : Failed) → IsArmed a.plan (suc (suc n)) byte → Writes a b at bytes (Err f) → b.starved ≡ true
    write_err n f armed w = ap (λ (s : InMemory). s.starved) (by_outcome Works (Err f) (armed_works a.plan n byte armed).0 w)

    write_stop_ok : IsArmed a.plan 1 byte → Writes a b at bytes (Ok tt) → ⊥
    write_stop_ok armed w = by_outcome (Stops byte) (Ok tt) (armed_stops a.plan byte armed) w

    write_stop_err : (f : Failed) → IsArmed a.plan 1 byte → Writes a b at bytes (Err f) → (b.starved ≡ true) ⊎ (b.contents ≡ with_fill next byte)
    write_stop_err f armed w = by_end (by_outcome (Stops byte) (Err f) (armed_stops a.plan byte armed) w)
      where
        by_end : (b ≡ stopped (changed a next) byte) ⊎ (b ≡ stopped_unrecorded a) → (b.starved ≡ true) ⊎ (b.contents ≡ with_fill next byte)
        by_end (inl e) = inr (ap (λ (s : InMemory). s.contents) e)
        by_end (inr e) = inl (ap (λ (s : InMemory). s.starved) e)

  module _ (a b : InMemory) where
    sync_by : (o : Outcome) (r : Answered) → plans.outcome a.plan ≡ o → Syncs a b r → SyncBy o a b r
    sync_by o r is w = subst (λ (p : Outcome). SyncBy p a b r) is w

    sync_ok : (n : ℕ) → IsArmed a.plan (suc (suc n)) byte → Syncs a b (Ok tt) → (b.contents ≡ with_sync a.contents) × IsArmed b.plan (suc n) byte
    sync_ok n armed w =
        let works = armed_works a.plan n byte armed in
        let e : b ≡ changed (counted a) (with_sync a.contents) = sync_by Works (Ok tt) works.0 w in
        (ap (λ (s : InMemory). s.contents) e, subst (λ (s : InMemory). IsArmed s.plan (suc n) byte) (sym e) works.1)

    sync_err : (n : ℕ) (f : Failed) → IsArmed a.plan (suc (suc n)) byte → Syncs a b (Err f) → b.starved ≡ true
    sync_err n f armed w = ap (λ (s : InMemory). s.starved) (sync_by Works (Err f) (armed_works a.plan n byte armed).0 w)

    sync_stop_ok : IsArmed a.plan 1 byte → Syncs a b (Ok tt) → ⊥
    sync_stop_ok armed w = sync_by (Stops byte) (Ok tt) (armed_stops a.plan byte armed) w

    sync_stop_err : (f : Failed) → IsArmed a.plan 1 byte → Syncs a b (Err f) → b.contents ≡ with_fill a.contents byte
    sync_stop_err f armed w = ap (λ (s : InMemory). s.contents) (sync_by (Stops byte) (Err f) (armed_stops a.plan byte armed) w)

-- The four calls of an append, by the one in which the store stops.

abbrev wrote : InMemory → ℕ → List ℕ → Answered → InMemory → Type 0
wrote s at bytes r t = Writes s t at bytes r

abbrev synced : InMemory → Answered → InMemory → Type 0
synced s r t = Syncs s t r

module _ (s t : InMemory) (gate : ℕ) (new : List ℕ) (byte : ℕ) (shut : is_loose (recorded s.contents).loose gate ≡ false) (within : gate < length (held s.contents).seen) where
  abbrev byte_of : InMemory → ℕ
  byte_of u = get_or (held u.contents).seen gate 0

  -- the store found no memory for its record, or the gate's byte is this one
  abbrev Ends : ℕ → Type 0
  Ends b = (t.starved ≡ true) ⊎ (byte_of t ≡ b)

  abbrev first : Contents
  first = with_write s.contents (gate + 1) new

  -- a stop in the first two calls leaves the gate as it was
  as_it_was : (c : Contents) → c ≡ first → t.contents ≡ with_fill c byte → byte_of t ≡ byte_of s
  as_it_was c e f =
      ap (λ (u : Contents). get_or (held u).seen gate 0) (f ∙ ap (λ (v : Contents). with_fill v byte) e) ∙ stop_before s.contents gate byte new shut

  -- and one in the last two leaves its byte there
  its_byte : (w u : Contents) → w ≡ first → u ≡ with_write (with_sync w) gate (1 ∷ []) → t.contents ≡ with_fill u byte → byte_of t ≡ byte
  its_byte w u e f g =
      let long : gate < length (held w).seen =
      omega (arith, within, length-seen w, length-seen s.contents, ap (λ (v : Contents). v.size) e) in
      ap (λ (v : Contents). get_or (held v).seen gate 0) (g ∙ ap (λ (v : Contents). with_fill v byte) f) ∙ stop_at w gate byte long

  call1 : (r : Answered) → IsArmed s.plan 1 byte → Puts wrote synced gate new s r t → Ends (byte_of s)
  call1 r armed (inl (mid, inl (m, w, y), more)) = absurd (write_stop_ok byte s m (gate + 1) new armed w)
  call1 r armed (inl (mid, inr (f, e, w), more)) = absurd (ok_not f e)
  call1 r armed (inr (f, e, inl (m, w, y))) = absurd (write_stop_ok byte s m (gate + 1) new armed w)
  call1 r armed (inr (f, e, inr (g, d, w))) = ⊎_elim (λ starved. inl starved) (λ c. inr (as_it_was first refl c)) (write_stop_err byte s t (gate + 1) new g armed w)

  call2 : (r : Answered) → IsArmed s.plan 2 byte → Puts wrote synced gate new s r t → Ends (byte_of s)
  call2 r armed (inl (mid, inl (m, w, y), more)) = absurd (sync_stop_ok byte m mid (write_ok byte s m (gate + 1) new 0 armed w).1 y)
  call2 r armed (inl (mid, inr (f, e, w), more)) = absurd (ok_not f e)
  call2 r armed (inr (f, e, inl (m, w, y))) = let done = write_ok byte s m (gate + 1) new 0 armed w in inr (as_it_was m.contents done.0 (sync_stop_err byte m t f done.1 y))
  call2 r armed (inr (f, e, inr (g, d, w))) = inl (write_err byte s t (gate + 1) new 0 g armed w)

  call3 : (r : Answered) → IsArmed s.plan 3 byte → Puts wrote synced gate new s r t → Ends byte
  call3 r armed (inl (mid, inl (m, w, y), inl (n, v, z))) =
      let done = write_ok byte s m (gate + 1) new 1 armed w in
      absurd (write_stop_ok byte mid n gate (1 ∷ []) (sync_ok byte m mid 0 done.1 y).1 v)
  call3 r armed (inl (mid, inl (m, w, y), inr (f, e, v))) =
      let done = write_ok byte s m (gate + 1) new 1 armed w in
      let on = sync_ok byte m mid 0 done.1 y in
      ⊎_elim (λ starved. inl starved) (λ c. inr (its_byte m.contents (with_write mid.contents gate (1 ∷ [])) done.0 (ap (λ (u : Contents). with_write u gate (1 ∷ [])) on.0) c)) (write_stop_err byte mid t gate (1 ∷ []) f on.1 v)
  call3 r armed (inl (mid, inr (f, e, w), more)) = absurd (ok_not f e)
  call3 r armed (inr (f, e, inl (m, w, y))) = inl (sync_err byte m t 0 f (write_ok byte s m (gate + 1) new 1 armed w).1 y)
  call3 r armed (inr (f, e, inr (g, d, w))) = inl (write_err byte s t (gate + 1) new 1 g armed w)

  last_sync : (r : Answered) (w u : InMemory) → w.contents ≡ first → u.contents ≡ with_write (with_sync w.contents) gate (1 ∷ []) → IsArmed u.plan 1 byte → Syncs u t r → Ends byte
  last_sync (Ok done) w u e f armed z = absurd (sync_stop_ok byte u t armed z)
  last_sync (Err g) w u e f armed z = inr (its_byte w.contents u.contents e f (sync_stop_err byte u t g armed z))

  call4 : (r : Answered) → IsArmed s.plan 4 byte → Puts wrote synced gate new s r t → Ends byte
  call4 r armed (inl (mid, inl (m, w, y), inl (n, v, z))) =
      let done = write_ok byte s m (gate + 1) new 2 armed w in
      let on = sync_ok byte m mid 1 done.1 y in
      let opened = write_ok byte mid n gate (1 ∷ []) 0 on.1 v in
      last_sync r m n done.0 (opened.0 ∙ ap (λ (u : Contents). with_write u gate (1 ∷ [])) on.0) opened.1 z
  call4 r armed (inl (mid, inl (m, w, y), inr (f, e, v))) =
      let done = write_ok byte s m (gate + 1) new 2 armed w in
      inl (write_err byte mid t gate (1 ∷ []) 0 f (sync_ok byte m mid 1 done.1 y).1 v)
  call4 r armed (inl (mid, inr (f, e, w), more)) = absurd (ok_not f e)
  call4 r armed (inr (f, e, inl (m, w, y))) = inl (sync_err byte m t 1 f (write_ok byte s m (gate + 1) new 2 armed w).1 y)
  call4 r armed (inr (f, e, inr (g, d, w))) = inl (write_err byte s t (gate + 1) new 2 g armed w)

-- An append in which the store stops does not go well.
module _ (s t : InMemory) (gate : ℕ) (new : List ℕ) (byte : ℕ) where
  abbrev Goes : Type 0
  Goes = Puts wrote synced gate new s (Ok tt) t

  ok1 : IsArmed s.plan 1 byte → Goes → ⊥
  ok1 armed (inl (mid, inl (m, w, y), more)) = write_stop_ok byte s m (gate + 1) new armed w
  ok1 armed (inl (mid, inr (f, e, w), more)) = ok_not f e
  ok1 armed (inr (f, e, h)) = ok_not f e

  ok2 : IsArmed s.plan 2 byte → Goes → ⊥
  ok2 armed (inl (mid, inl (m, w, y), more)) = sync_stop_ok byte m mid (write_ok byte s m (gate + 1) new 0 armed w).1 y
  ok2 armed (inl (mid, inr (f, e, w), more)) = ok_not f e
  ok2 armed (inr (f, e, h)) = ok_not f e

  ok3 : IsArmed s.plan 3 byte → Goes → ⊥
  ok3 armed (inl (mid, inl (m, w, y), inl (n, v, z))) = write_stop_ok byte mid n gate (1 ∷ []) (sync_ok byte m mid 0 (write_ok byte s m (gate + 1) new 1 armed w).1 y).1 v
  ok3 armed (inl (mid, inl (m, w, y), inr (f, e, v))) = ok_not f e
  ok3 armed (inl (mid, inr (f, e, w), more)) = ok_not f e
  ok3 armed (inr (f, e, h)) = ok_not f e

  ok4 : IsArmed s.plan 4 byte → Goes → ⊥
  ok4 armed (inl (mid, inl (m, w, y), inl (n, v, z))) =
      sync_stop_ok byte n t (write_ok byte mid n gate (1 ∷ []) 0 (sync_ok byte m mid 1 (write_ok byte s m (gate + 1) new 2 armed w).1 y).1 v).1 z
  ok4 armed (inl (mid, inl (m, w, y), inr (f, e, v))) = ok_not f e
  ok4 armed (inl (mid, inr (f, e, w), more)) = ok_not f e
  ok4 armed (inr (f, e, h)) = ok_not f e

  never_ok : (n : ℕ) → IsArmed s.plan n byte → 1 ≤ n → n ≤ 4 → Goes → ⊥
  never_ok zero a low high h = omega (arith, low)
  never_ok (suc zero) a low high h = ok1 a h
  never_ok (suc (suc zero)) a low high h = ok2 a h
  never_ok (suc (suc (suc zero))) a low high h = ok3 a h
  never_ok (suc (suc (suc (suc zero)))) a low high h = ok4 a h
  never_ok (suc (suc (suc (suc (suc n))))) a low high h = omega (arith, high)

-- What the journal is then.

abbrev changes_by : Bool → List Change → Change → List Change
changes_by kept xs x = if kept then xs ++ x ∷ [] else xs

closed_by : (bytes : List ℕ) (xs : List Change) (x : Change) (gate byte : ℕ) → gate ≡ length (all_opened xs) → get_or bytes gate 0 ≡ byte → HasPrefix xs (Some x) bytes → IsJournal bytes (changes_by (byte == 1) xs x)
closed_by bytes xs x gate byte at e has = elim (cases_Bool (byte == 1)) [
  | inl one ↦ subst (λ (b : Bool). IsJournal bytes (changes_by b xs x)) (sym one) (by_gate_open bytes xs x gate at (e ∙ eqb-true byte 1 one) has)
  | inr other ↦ subst (λ (b : Bool). IsJournal bytes (changes_by b xs x)) (sym other) (by_gate_shut bytes xs x gate at (λ one. eqb-false byte 1 other (sym e ∙ one)) has)
]

abbrev Stopped : InMemory → List Change → Change → ℕ → ℕ → Type 0
Stopped t xs x call byte = (t.starved ≡ true) ⊎ IsJournal (held t.contents).seen (after_stop call byte x xs)

pub stops : (s t : InMemory) (xs : List Change) (x : Change) (gate : ℕ) (new : List ℕ) (call byte : ℕ) (r : Answered) → IsJournal (held s.contents).seen xs → gate ≡ length (all_opened xs)
    → ((c : List ℕ) → MayLeave (recorded s.contents) c → IsJournal c xs) → IsArmed s.plan call byte → 1 ≤ call → call ≤ 4 → Puts wrote synced gate new s r t → HasPrefix xs (Some x) (held t.contents).seen → Stopped t xs x call byte
stops s t xs x gate new call byte r j at crash armed some few puts has = by_call call armed some few
  where
    within : gate < length (held s.contents).seen
    within = gate_within (held s.contents).seen xs gate j at

    shut : is_loose (recorded s.contents).loose gate ≡ false
    shut = gate_synced s.contents xs gate at within crash

    not_kept : Ends s t gate new byte shut within (get_or (held s.contents).seen gate 0) → (t.starved ≡ true) ⊎ IsJournal (held t.contents).seen xs
    not_kept (inl starved) = inl starved
    not_kept (inr e) = inr (by_gate_shut (held t.contents).seen xs x gate at (λ one. byte_shut (held s.contents).seen xs gate at j (sym e ∙ one)) has)

    kept : Ends s t gate new byte shut within byte → (t.starved ≡ true) ⊎ IsJournal (held t.contents).seen (changes_by (byte == 1) xs x)
    kept (inl starved) = inl starved
    kept (inr e) = inr (closed_by (held t.contents).seen xs x gate byte at e has)

    by_call : (n : ℕ) → IsArmed s.plan n byte → 1 ≤ n → n ≤ 4 → Stopped t xs x n byte
    by_call zero a low high = absurd (omega arith)
    by_call (suc zero) a low high = not_kept (call1 s t gate new byte shut within r a puts)
    by_call (suc (suc zero)) a low high = not_kept (call2 s t gate new byte shut within r a puts)
    by_call (suc (suc (suc zero))) a low high = kept (call3 s t gate new byte shut within r a puts)
    by_call (suc (suc (suc (suc zero)))) a low high = kept (call4 s t gate new byte shut within r a puts)
    by_call (suc (suc (suc (suc (suc n))))) a low high = absurd (omega arith)

abbrev read_as : InMemory → List ℕ
read_as s = (held s.contents).seen

abbrev left_by : InMemory → List ℕ → Type 0
left_by s c = MayLeave (recorded s.contents) c

-- what the append answers, and what the journal is then
pub ends_at_stop : (old new : Opened InMemory) (acked : List Change) (x : Change) (call byte : ℕ) (result : Result Unit JournalFault) → Records read_as left_by old acked None → IsArmed old.store.plan call byte
    → 1 ≤ call → call ≤ 4 → Calls wrote synced old new x result → Records read_as left_by new (acked_after result x acked) (under_way_after result x None) → EndsAtStop new.store acked x call byte result
ends_at_stop old new acked x call byte (Ok done) r armed some few calls later = never_ok old.store new.store old.gate (framed x ++ 0 ∷ []) byte call armed some few calls
ends_at_stop old new acked x call byte (Err Store) r armed some few calls later =
    stops old.store new.store acked x old.gate (framed x ++ 0 ∷ []) call byte (Err calls.0) r.reads r.gate r.crash armed some few calls.1 later.reads
ends_at_stop old new acked x call byte (Err Memory) r armed some few calls later = tt
ends_at_stop old new acked x call byte (Err Broken) r armed some few calls later = tt
ends_at_stop old new acked x call byte (Err (Full free asked)) r armed some few calls later = tt
ends_at_stop old new acked x call byte (Err (Damaged at)) r armed some few calls later = tt

-- A store of zeros.
pub zeros_journal : (size : ℕ) → 1 ≤ size → IsJournal (zeros size) []
unfolding zeros
zeros_journal zero l = absurd (omega (arith, l))
zeros_journal (suc n) l = record { gate = 0; rest = replicate n 0; parts = refl; closed = λ e. omega (arith, e); ranges = refl }
