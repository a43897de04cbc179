-- What an opened journal records after an append.
use Rattle.std.proofs.Common.{◌≡◌, ℕ, ◌+◌, ◌≤◌, ◌<◌, Bool, false, true, List, [], ◌∷◌, ◌++◌, length, Option, Some, None, refl, sym, ap, ◌∙◌, subst, inl, arith, length-append}
use Rattle.std.specs.Prelude.{is_some}
use Rattle.std.proofs.lemmas.List.{append-nil}
use Rattle.st_journal.specs.Changes.{bytes_of, fits}
use Rattle.st_journal.specs.Journal.{framed, opened, all_opened, IsJournal}
use Rattle.st_store.specs.Laws.{length-written}
use Rattle.st_journal.specs.OpenedJournal.{Opened, HasPrefix, Records, IsAtRest, Appends, NotPut, PutsAt, room_behind, room_for, under_way_in}
use Rattle.st_store.specs.Store.{LeavesOnly, Only, Torn}
use Rattle.st_journal.specs.Appends.{IsTornAppend, with_open_gate, with_record}
use Rattle.st_journal.specs.declared.change.Change.{Change}
use Rattle.st_journal.specs.declared.fault.JournalFault.{JournalFault}
use Rattle.st_journal.specs.declared.fault.JournalFault.TheVariants.{Full}
use Rattle.st_journal.proofs.Appends.{opened_push, torn_append, done_append}
use Rattle.st_journal.proofs.Moments.{started, weaker}
use Rattle.st_journal.proofs.ScannedBytes.{length-framed}
use Rattle.st_journal.proofs.TornWrites.{not_torn}

-- The gate of a journal lies in its bytes, and not before as many bytes as it has changes.

pub gate_within : (bytes : List ℕ) (xs : List Change) (gate : ℕ) → IsJournal bytes xs → gate ≡ length (all_opened xs) → gate < length bytes
gate_within bytes xs gate j at = omega (arith, at, ap length j.parts, length-append (all_opened xs) (j.gate ∷ j.rest))

pub changes_few : (xs : List Change) → length xs ≤ length (all_opened xs)
changes_few [] = omega arith
changes_few (x ∷ xs) = omega (arith, changes_few xs, length-append (opened x) (all_opened xs))

gate_after : (xs : List Change) (x : Change) → length (all_opened (xs ++ x ∷ [])) ≡ length (all_opened xs) + room_for x
gate_after xs x =
    ap length (sym (append-nil (all_opened (xs ++ x ∷ [])))) ∙ ap length (opened_push xs x [])
    ∙ omega (arith, length-append (all_opened xs) (opened x ++ []), length-append (opened x) [])

pub has_room : (x : Change) (size gate : ℕ) → gate < size → room_for x ≤ room_behind size gate → gate + 1 + length (framed x ++ 0 ∷ []) ≤ size
has_room x size gate l room = omega (arith, l, room, length-append (framed x) (0 ∷ []))

-- The room that is asked.

pub room_asked : (x : Change) (count size long gate : ℕ) → count ≡ length (bytes_of x) → size ≡ long → count + 5 ≤ room_behind size gate → room_for x ≤ room_behind long gate
room_asked x count size long gate b e h = omega (arith, b, e, h, length-framed x)

-- and why a record is not put
pub no_room : {D : Type 0} (seen : D → List ℕ) (faults : D → ℕ) (store : D) (gate : ℕ) (x : Change) (count size : ℕ) (f : JournalFault) → count ≡ length (bytes_of x) → size ≡ length (seen store)
    → (f ≡ Full (room_behind size gate) (count + 5)) × (room_behind size gate < count + 5) → NotPut seen faults store store gate x f
no_room seen faults store gate x count size f b e h =
    subst (λ (g : JournalFault). NotPut seen faults store store gate x g) (sym h.0)
    (ap (λ (n : ℕ). room_behind n gate) e, omega (arith, b, length-framed x), h.1, refl)

pub puts_at : {D : Type 0} (seen : D → List ℕ) (may_leave : D → List ℕ → Type 0) (old new : D) (gate : ℕ) (x : Change) (count : ℕ) (bytes : List ℕ) → count ≡ length (bytes_of x) → bytes ≡ framed x ++ 0 ∷ []
    → room_for x ≤ room_behind (length (seen old)) gate → seen new ≡ with_open_gate (seen old) gate bytes → Only (seen new) (may_leave new) → PutsAt seen may_leave old new gate x (count + 5)
puts_at seen may_leave old new gate x count bytes b e room is only = record {
  counted = omega (arith, b, length-framed x);
  room = room;
  seen_now = is ∙ ap (λ (r : List ℕ). with_open_gate (seen old) gate r) e;
  durable = only;
}

length-opened_gate : (bytes : List ℕ) (gate : ℕ) (new : List ℕ) → length (with_open_gate bytes gate new) ≡ length bytes
length-opened_gate bytes gate new = length-written (with_record bytes gate new) gate (1 ∷ []) ∙ length-written bytes (gate + 1) new

module _ {D : Type 0} (seen : D → List ℕ) (may_leave : D → List ℕ → Type 0) (store new : D) (gate changes : ℕ) (broken : Bool) (x : Change)
    (whole : broken ≡ false) (rests : broken ≡ false → IsAtRest seen may_leave (record { store = store; gate = gate; changes = changes; broken = broken })) (ranges : fits x ≡ true) where
  abbrev pub before : Opened D
  before = record { store = store; gate = gate; changes = changes; broken = broken }

  abbrev pub record_bytes : List ℕ
  record_bytes = framed x ++ 0 ∷ []

  rest : IsAtRest seen may_leave before
  rest = rests whole

  within : gate < length (seen store)
  within = gate_within (seen store) rest.changes gate rest.journal rest.gate

  pub counts_on : changes + 1 < 4294967297
  counts_on = omega (arith, rest.count, changes_few rest.changes, rest.gate, within, rest.small)

  module _ (count : ℕ) (put : PutsAt seen may_leave store new gate x count) where
    room : gate + 1 + length record_bytes ≤ length (seen store)
    room = has_room x (length (seen store)) gate within put.room

    abbrev pub after : Opened D
    after = record { store = new; gate = gate + count; changes = changes + 1; broken = broken }

    pub stays_within : gate + count < 4294967296
    stays_within = omega (arith, put.counted, put.room, within, rest.small)

    journal_of : (xs : List Change) → IsJournal (seen store) xs → gate ≡ length (all_opened xs) → IsJournal (seen new) (xs ++ x ∷ [])
    journal_of xs j at = subst (λ (b : List ℕ). IsJournal b (xs ++ x ∷ [])) (sym put.seen_now) (done_append (seen store) xs x record_bytes gate j at refl ranges room)

    gate_of : (xs : List Change) → gate ≡ length (all_opened xs) → gate + count ≡ length (all_opened (xs ++ x ∷ []))
    gate_of xs at = omega (arith, at, put.counted, gate_after xs x)

    count_of : (xs : List Change) → changes ≡ length xs → changes + 1 ≡ length (xs ++ x ∷ [])
    count_of xs e = omega (arith, e, length-append xs (x ∷ []))

    -- it is at rest again
    pub put_rests : IsAtRest seen may_leave after
    put_rests = record {
      changes = rest.changes ++ x ∷ [];
      journal = journal_of rest.changes rest.journal rest.gate;
      gate = gate_of rest.changes rest.gate;
      count = count_of rest.changes rest.count;
      durable = put.durable;
      small = omega (arith, ap length put.seen_now, length-opened_gate (seen store) gate record_bytes, rest.small);
    }

    pub put_appends : Appends seen before after x
    put_appends = record { whole = whole; room = put.room; left = ap (λ (n : ℕ). at n) (ap (λ (n : ℕ). gate + n) put.counted) }
      where
        at : ℕ → Opened D
        at n = record { store = new; gate = n; changes = changes + 1; broken = broken }

    -- and records the change
    pub put_records : (acked : List Change) (under_way : Option Change) → Records seen may_leave before acked under_way → Records seen may_leave after (acked ++ x ∷ []) under_way
    put_records acked None r =
        let j : IsJournal (seen new) (acked ++ x ∷ []) = journal_of acked r.reads r.gate in
        record {
          gate = gate_of acked r.gate;
          count = count_of acked r.count;
          broken = r.broken;
          reads = j;
          crash = λ c left. subst (λ (b : List ℕ). IsJournal b (acked ++ x ∷ [])) (sym (put.durable c left)) j;
        }
    put_records acked (Some y) r = let e : false ≡ is_some (Some y) = sym whole ∙ r.broken in absurd cc

  -- a crash in the middle
  torn : room_for x ≤ room_behind (length (seen store)) gate → (acked : List Change) (under_way : Option Change) → Records seen may_leave before acked under_way
      → (c : List ℕ) → IsTornAppend (seen store) gate record_bytes c → HasPrefix acked (under_way_in x under_way) c
  torn room acked None r c t = torn_append (seen store) acked x record_bytes gate r.reads r.gate refl ranges (has_room x (length (seen store)) gate within room) c t
  torn room acked (Some y) r c t = let e : false ≡ is_some (Some y) = sym whole ∙ r.broken in absurd cc

  module _ (moment : D → ℕ) (left_since : D → ℕ → List ℕ → Type 0) where
    -- a crash at any moment leaves the acknowledged changes, and at most this one more
    pub torn_moments : room_for x ≤ room_behind (length (seen store)) gate → (acked : List Change) (under_way : Option Change) → Records seen may_leave before acked under_way
        → LeavesOnly moment left_since store new (IsTornAppend (seen store) gate record_bytes) → LeavesOnly moment left_since store new (HasPrefix acked (under_way_in x under_way))
    torn_moments room acked under_way r h = weaker moment left_since store new (IsTornAppend (seen store) gate record_bytes) (HasPrefix acked (under_way_in x under_way)) h (torn room acked under_way r)

    -- an append that fails at the store has its change under way
    pub fails_records : ((s : D) → may_leave s (seen s)) → ((s : D) (t : ℕ) (c : List ℕ) → t ≤ moment s → may_leave s c → left_since s t c) → room_for x ≤ room_behind (length (seen store)) gate
        → LeavesOnly moment left_since store new (IsTornAppend (seen store) gate record_bytes) → (acked : List Change) (under_way : Option Change) → Records seen may_leave before acked under_way
        → Records seen may_leave (record { store = new; gate = gate; changes = changes; broken = true }) acked (Some x)
    fails_records stands counts room h acked None r =
        let crash : (c : List ℕ) → may_leave new c → HasPrefix acked (Some x) c = λ c left. torn room acked None r c (h.each c (counts new (moment store) c h.later left)) in
        record { gate = r.gate; count = r.count; broken = refl; reads = crash (seen new) (stands new); crash = crash }
    fails_records stands counts room h acked (Some y) r = let e : false ≡ is_some (Some y) = sym whole ∙ r.broken in absurd cc
