-- What an opened journal of a script has, and what an append and an opening make of it.
use Rattle.std.proofs.Common.{◌≡◌, ℕ, ◌+◌, ◌≤◌, ◌<◌, true, false, List, [], ◌∷◌, ◌++◌, length, Option, Some, None, Result, Ok, Err, refl, sym, ap, ◌∙◌, subst, arith, inl, inr}
use Rattle.std.specs.Prelude.{◌⊎◌, Bool, OnOk, IfOk, IfErr, Vec, if◌then◌else◌}
use Rattle.std.specs.declared.alloc.Global.{Global}
use Rattle.std.specs.List.{list_all}
use Rattle.std.proofs.lemmas.Bool.{and_parts}
use Rattle.st_rules.specs.Server.{Stable}
use Rattle.st_journal.specs.Changes.{fits}
use Rattle.st_store.specs.InMemory.{Contents, InMemory, Keeps, held}
use Rattle.st_journal.specs.Journal.{IsJournal, all_opened, opened}
use Rattle.st_journal.specs.OpenedJournal.{Calls, NotAppended, Opened, Records, acked_after, room_behind, room_for, under_way_after}
use Rattle.st_store.specs.Plans as plans
use Rattle.st_journal.specs.Scan.{AreLow}
use Rattle.st_journal.specs.Stable.{HasRoom, after_changes, apply, kept}
use Rattle.st_journal.specs.Stops.{EndsAtStop, IsArmed, after_stop}
use Rattle.st_journal.specs.declared.change.Change.{Change}
use Rattle.st_journal.specs.declared.fault.JournalFault.{JournalFault}
use Rattle.st_journal.specs.declared.fault.JournalFault.TheVariants.{Damaged, Full, Store, Broken, Memory}
use Rattle.st_journal.specs.declared.stable.ChangeRefusal.{ChangeRefusal}
use Rattle.st_journal.proofs.Appends.{opened_push}
use Rattle.st_journal.proofs.Counters.{applied_low, low_room}
use Rattle.st_journal.proofs.Exact.{some_is}
use Rattle.st_store.proofs.StoreBytes.{length-seen}
use Rattle.st_journal.proofs.OpenedJournal.{fresh_low}
use Rattle.st_journal.proofs.Records.{changes_few, gate_within}
use Rattle.st_journal.proofs.ScannedBytes.{known_to, length-framed}
use Rattle.st_journal.proofs.Stops.{ends_at_stop, zeros_journal}
use Rattle.st_journal.proofs.Unique.{after_append}
use Rattle.st_script_journal.specs.JournalRuns.{HasJournal, IsFreshStore, IsKnown, IsOpen, IsSound, IsWantOfMemory, Leads, Running, STORE_SIZE, Starts, left_by, read_as}
use Rattle.st_script_journal.specs.JournalScripts.{fresh_journal, keeps}
use Rattle.st_script_journal.specs.Stops.{SetStop}
use Rattle.st_script_journal.proofs.JournalBytes.{applied_bytes, opened_bytes}
use Rattle.st_script_journal.proofs.JournalStarved.{append_starved, synced, wrote}

-- Changes.

abbrev start : Stable
start = fresh_journal.stable

-- one change more leads on
pub leads_on : (xs : List Change) (t u : Stable) (x : Change) → Leads xs t → apply t x ≡ Ok u → Leads (xs ++ x ∷ []) u
leads_on xs t u x l e = after_append (Some start) xs (x ∷ []) ∙ ap (λ (o : Option Stable). after_changes o (x ∷ [])) l ∙ ap kept e

-- changes lead to one stable part
pub one_state : (xs : List Change) (t u : Stable) → Leads xs t → Leads xs u → t ≡ u
one_state xs t u l m = some_is t u (sym l ∙ m)

none_stays : (xs : List Change) (u : Stable) → after_changes None xs ≡ Some u → ⊥
none_stays [] u e = cc
none_stays (x ∷ xs) u e = none_stays xs u e

low_on : (xs : List Change) (n : ℕ) (t u : Stable) → list_all fits xs ≡ true → after_changes (Some t) xs ≡ Some u → AreLow n t → AreLow (n + length xs) u
low_on [] n t u f e low = subst (λ (k : ℕ). AreLow k u) (let same : n ≡ n + 0 = omega arith in same) (subst (λ (s : Stable). AreLow n s) (some_is t u e) low)
low_on (x ∷ xs) n t u f e low = at (λ v. low_on xs (n + 1) v u) (apply t x) refl e
  where
    at : ((v : Stable) → list_all fits xs ≡ true → after_changes (Some v) xs ≡ Some u → AreLow (n + 1) v → AreLow ((n + 1) + length xs) u) →
        (r : Result Stable ChangeRefusal) →
        apply t x ≡ r → after_changes (kept r) xs ≡ Some u → AreLow (n + length (x ∷ xs)) u
    at rest (Ok v) is e =
        let both = and_parts (fits x) (list_all fits xs) f in
        let count : (n + 1) + length xs ≡ n + length (x ∷ xs) = omega arith in
        subst (λ (k : ℕ). AreLow k u) count (rest v both.1 e (applied_low n t x v both.0 is low))
    at rest (Err r) is e = absurd (none_stays xs u e)

-- An opened journal.

-- the store's size
pub seen_size : (s : InMemory) → s.contents.size ≡ STORE_SIZE → length (read_as s) ≡ STORE_SIZE
seen_size s e = length-seen s.contents ∙ e

few_changes : (j : Opened InMemory) (xs : List Change) (t : Stable) → IsOpen j xs t → length xs < STORE_SIZE
few_changes j xs t o =
    omega (arith, changes_few xs, gate_within (read_as j.store) xs j.gate o.records.reads o.records.gate, o.records.gate, seen_size j.store o.size)

open_low : (j : Opened InMemory) (xs : List Change) (t : Stable) → IsOpen j xs t → AreLow (length xs) t
open_low j xs t o =
    let count : 0 + length xs ≡ length xs = omega arith in
    subst (λ (k : ℕ). AreLow k t) count (low_on xs 0 start t o.records.reads.ranges o.leads (fresh_low _ start refl))

-- no counter of the stable part is at its end
pub has_room : (j : Opened InMemory) (xs : List Change) (t : Stable) (x : Change) → IsOpen j xs t → HasRoom t x
has_room j xs t x o = low_room (length xs) t x (omega (arith, few_changes j xs t o)) (open_low j xs t o)

-- if fewer changes are in the journal than a script has events, there is room for one more
has_bytes : (j : Opened InMemory) (xs : List Change) (t u : Stable) (x : Change) → IsOpen j xs t → apply t x ≡ Ok u → length xs < 10000 →
    room_for x ≤ room_behind (length (read_as j.store)) j.gate
has_bytes j xs t u x o e few =
    omega (arith, few, applied_bytes t x u e, length-framed x, opened_bytes xs start t o.leads, o.records.gate, seen_size j.store o.size)

-- Appends.

pub sound_on : (old new : InMemory) → Keeps old new → IsSound old.plan → IsSound new.plan
sound_on old new k s = record { none = ap (λ (v : Vec ℕ Global). v.items) k.failing ∙ s.none; quiet = k.quiet s.quiet }

-- an append if no stop is set
pub opened_on : (r : Result Unit JournalFault) (old new : Opened InMemory) (xs : List Change) (t u : Stable) (x : Change) → IsOpen old xs t → apply t x ≡ Ok u →
    Records read_as left_by new (acked_after r x xs) (under_way_after r x None) → Keeps old.store new.store → OnOk r (IsOpen new (xs ++ x ∷ []) u)
opened_on (Ok done) old new xs t u x o e r k =
    record { records = r; leads = leads_on xs t u x o.leads e; size = k.size ∙ o.size; sound = sound_on old.store new.store k o.sound }
opened_on (Err f) old new xs t u x o e r k = tt

not_broken : (j : Opened InMemory) (xs : List Change) (t : Stable) → IsOpen j xs t → j.broken ≡ true → ⊥
not_broken j xs t o b = let not : false ≡ true = sym o.records.broken ∙ b in absurd cc

-- the only faults that come
pub store_alone : (r : Result Unit JournalFault) (faults : InMemory → ℕ) (old new : Opened InMemory) (xs : List Change) (t u : Stable) (x : Change) →
    IsOpen old xs t → apply t x ≡ Ok u →
    length xs < 10000 → IfErr r (NotAppended read_as faults old new x) → Calls wrote synced old new x r → IfErr r (IsWantOfMemory new.store)
store_alone (Ok done) faults old new xs t u x o e few h calls = tt
store_alone (Err Store) faults old new xs t u x o e few h calls = append_starved old new x o.sound calls
store_alone (Err Memory) faults old new xs t u x o e few h calls = tt
store_alone (Err Broken) faults old new xs t u x o e few h calls = absurd (not_broken old xs t o h.0)
store_alone (Err (Full free asked)) faults old new xs t u x o e few h calls =
    absurd (omega (arith, has_bytes old xs t u x o e few, h.1, h.2, h.3))
store_alone (Err (Damaged at)) faults old new xs t u x o e few h calls = absurd h

-- Stops.

-- a stop is set
abbrev pub with_stop : Opened InMemory → ℕ → ℕ → Opened InMemory
with_stop j call byte = record j { store = record j.store { plan = plans.with_stop j.store.plan call byte } }

armed : (j : Opened InMemory) (xs : List Change) (t : Stable) (call byte : ℕ) → IsOpen j xs t → IsArmed (with_stop j call byte).store.plan call byte
armed j xs t call byte o = record { none = o.sound.none; runs = o.sound.quiet.runs; set = refl }

-- what the records are after an append
abbrev pub RecordsOn : Result Unit JournalFault → Opened InMemory → Opened InMemory → Change → Type 0
RecordsOn r old new x = (xs : List Change) (under_way : Option Change) → Records read_as left_by old xs under_way →
    Records read_as left_by new (acked_after r x xs) (under_way_after r x under_way)

records_armed : (j : Opened InMemory) (xs : List Change) (t : Stable) (call byte : ℕ) → IsOpen j xs t → Records read_as left_by (with_stop j call byte) xs None
records_armed j xs t call byte o = record {
  gate = o.records.gate;
  count = o.records.count;
  broken = o.records.broken;
  reads = o.records.reads;
  crash = o.records.crash;
}

pub ends : (r : Result Unit JournalFault) (j armed_one new : Opened InMemory) (xs : List Change) (t : Stable) (x : Change) (call byte : ℕ) → IsOpen j xs t →
    armed_one ≡ with_stop j call byte → 1 ≤ call → call ≤ 4 → Calls wrote synced armed_one new x r → RecordsOn r armed_one new x →
    EndsAtStop new.store xs x call byte r
ends r j armed_one new xs t x call byte o is some few calls on =
    let records = subst (λ (k : Opened InMemory). Records read_as left_by k xs None) (sym is) (records_armed j xs t call byte o) in
    let set = subst (λ (k : Opened InMemory). IsArmed k.store.plan call byte) (sym is) (armed j xs t call byte o) in
    ends_at_stop armed_one new xs x call byte r records set some few calls (on xs None records)

-- the store, started again
pub started_again : (s t : InMemory) (ys : List Change) → t ≡ record s { plan = plans.restarted s.plan } → s.contents.size ≡ STORE_SIZE →
    s.plan.failing.items ≡ [] →
    IsJournal (read_as s) ys → HasJournal t ys
started_again s t ys is size none j =
    subst (λ (k : InMemory). HasJournal k ys) (sym is)
    (record { size = size; sound = record { none = none; quiet = record { unset = refl; runs = refl } }; journal = j })

not_starved : (s : InMemory) (P : Type 0) → s.starved ≡ false → (s.starved ≡ true) ⊎ P → P
not_starved s P whole (inl starved) = let not : false ≡ true = sym whole ∙ starved in absurd cc
not_starved s P whole (inr p) = p

-- a store that was started again after an append in which it stopped
pub stopped_left : {E : Type 0} (r : Result InMemory E) (j armed_one new : Opened InMemory) (s : InMemory) (xs : List Change) (t : Stable) (x : Change)
    (call byte : ℕ) → IsOpen j xs t →
    armed_one ≡ with_stop j call byte → 1 ≤ call → call ≤ 4 → Calls wrote synced armed_one new x (Err Store) → RecordsOn (Err Store) armed_one new x →
    Keeps armed_one.store new.store →
    s ≡ new.store → IfOk r (λ k. (s.starved ≡ false) × (k ≡ record s { plan = plans.restarted s.plan })) →
    IfOk r (λ k. HasJournal k (after_stop call byte x xs))
stopped_left (Err e) j armed_one new s xs t x call byte o is some few calls on k same h = tt
stopped_left (Ok k) j armed_one new s xs t x call byte o is some few calls on keeps same h =
    let ended = ends (Err Store) j armed_one new xs t x call byte o is some few calls on in
    let here : (s.starved ≡ true) ⊎ IsJournal (read_as s) (after_stop call byte x xs) =
    subst (λ (q : InMemory). (q.starved ≡ true) ⊎ IsJournal (read_as q) (after_stop call byte x xs)) (sym same) ended in
    let size : s.contents.size ≡ STORE_SIZE = ap (λ (q : InMemory). q.contents.size) same ∙ keeps.size ∙
    ap (λ (q : Opened InMemory). q.store.contents.size) is ∙ o.size in
    let none : s.plan.failing.items ≡ [] =
    ap (λ (q : InMemory). q.plan.failing.items) same ∙ ap (λ (v : Vec ℕ Global). v.items) keeps.failing ∙
    ap (λ (q : Opened InMemory). q.store.plan.failing.items) is ∙ o.sound.none in
    started_again s k (after_stop call byte x xs) h.1 size none (not_starved s (IsJournal (read_as s) (after_stop call byte x xs)) h.0 here)

-- what was known before the append is known of the store
pub known_stopped : (j : Opened InMemory) (s : InMemory) (xs : List Change) (t : Stable) (p : SetStop) (x : Change) (gate changes : ℕ) → IsOpen j xs t →
    gate ≡ j.gate → changes ≡ j.changes →
    HasJournal s (after_stop p.call p.byte x xs) → IsKnown s t (record { gate = gate; changes = changes })
known_stopped j s xs t p x gate changes o at count h = by_kept (keeps p) h.journal
  where
    known : (rest : List ℕ) → read_as s ≡ all_opened xs ++ rest → 1 ≤ length rest → IsKnown s t (record { gate = gate; changes = changes })
    known rest parts some =
        known_to (read_as s) start t xs rest gate changes parts some (at ∙ o.records.gate) (count ∙ o.records.count) o.records.reads.ranges o.leads
        (open_low j xs t o)

    by_kept : (b : Bool) → IsJournal (read_as s) (if b then xs ++ x ∷ [] else xs) → IsKnown s t (record { gate = gate; changes = changes })
    by_kept true i = known (opened x ++ i.gate ∷ i.rest) (i.parts ∙ opened_push xs x (i.gate ∷ i.rest)) (omega arith)
    by_kept false i = known (i.gate ∷ i.rest) i.parts (omega arith)

-- Opening.

-- a store of zeros has an empty journal
pub fresh_store : (s : InMemory) → IsFreshStore s → HasJournal s []
fresh_store s f = record {
  size = ap (λ (c : Contents). c.size) f.zeros;
  sound = f.sound;
  journal = subst (λ (c : Contents). IsJournal (held c).seen []) (sym f.zeros) (zeros_journal STORE_SIZE (omega arith));
}

pub opened_again : (s : InMemory) (j : Opened InMemory) (xs : List Change) (t u : Stable) → HasJournal s xs → Leads xs t → Leads xs u →
    Records read_as left_by j xs None → Keeps s j.store →
    IsOpen j xs t × (u ≡ t)
opened_again s j xs t u h l m r k =
    (record { records = r; leads = l; size = k.size ∙ h.size; sound = sound_on s j.store k h.sound }, one_state xs u t m l)

-- a journal that is running, with no stop
pub starts_with : (j : Opened InMemory) (xs : List Change) (t u : Stable) (r : Running) → r ≡ record { journal = j; stable = u; stop = None } → IsOpen j xs t →
    u ≡ t → Starts xs t r
starts_with j xs t u r is o e = subst (λ (k : Running). Starts xs t k) (sym is) (record { opened = o; stable = e; unset = refl })
