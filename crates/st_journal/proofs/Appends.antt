-- What a crash leaves while a change is appended, and what holds once it is.
use Rattle.std.proofs.Common.{◌≡◌, ◌≢◌, ◌⊎◌, ℕ, ◌+◌, ◌≤◌, ◌<◌, true, false, List, [], ◌∷◌, ◌++◌, length, get_or, take, drop, refl, sym, ap, ◌∙◌, inl, inr, arith, append_assoc, length-append, length-drop, take-append-drop}
use Rattle.std.specs.Prelude.{nat_le, nat_lt}
use Rattle.std.specs.List.{list_all}
use Rattle.std.proofs.lemmas.Bool.{and_from, and_left, and_right, le-ltb, lt-leb, cases_eq}
use Rattle.std.proofs.lemmas.List.{length-take, get_or-take, get_or-drop, take_at, drop_at, drop_more, append-nil, ext_get_or}
use Rattle.std.proofs.lemmas.List.Folds.{list_all-append}
use Rattle.st_journal.specs.Changes.{fits}
use Rattle.st_journal.specs.Journal.{framed, opened, all_opened, IsJournal}
use Rattle.st_store.specs.Laws.{length-written}
use Rattle.st_store.specs.Store.{is_within, Torn}
use Rattle.st_journal.specs.Appends.{with_record, with_open_gate, IsTornAppend}
use Rattle.st_journal.specs.declared.change.Change.{Change}
use Rattle.st_store.proofs.Parts.{written_parts}

-- indexes outside a range
pub before_range : (at count i : ℕ) → i < at → is_within at count i ≡ false
before_range at count i l = and_left (nat_le at i) (nat_lt i (at + count)) (lt-leb at i l)

behind_range : (at count i : ℕ) → at + count ≤ i → is_within at count i ≡ false
behind_range at count i l = and_right (nat_le at i) (nat_lt i (at + count)) (le-ltb i (at + count) l)

-- a torn range leaves what is before it and after it
torn_front : (at count : ℕ) (old c : List ℕ) → at ≤ length old → Torn at count old c → take at c ≡ take at old
torn_front at count old c l torn =
    ext_get_or 0 (take at c) (take at old) (omega (arith, length-take at c, length-take at old, torn.size))
    (λ i few.
    let low : i < at = omega (arith, few, length-take at c) in
    get_or-take at c i 0 low ∙ torn.others i (before_range at count i low) ∙ sym (get_or-take at old i 0 low))

torn_back : (at count : ℕ) (old c : List ℕ) → Torn at count old c → drop (at + count) c ≡ drop (at + count) old
torn_back at count old c torn =
    ext_get_or 0 (drop (at + count) c) (drop (at + count) old) (omega (arith, length-drop (at + count) c, length-drop (at + count) old, torn.size))
    (λ i few. get_or-drop (at + count) c i 0 ∙ torn.others (at + count + i) (behind_range at count (at + count + i) (omega arith)) ∙ sym (get_or-drop (at + count) old i 0))

-- changes after their open gates, one more
pub opened_push : (xs : List Change) (x : Change) (rest : List ℕ) → all_opened (xs ++ x ∷ []) ++ rest ≡ all_opened xs ++ (opened x ++ rest)
opened_push [] x rest = ap (λ (t : List ℕ). t ++ rest) (append-nil (opened x))
opened_push (y ∷ xs) x rest =
    append_assoc (opened y) (all_opened (xs ++ x ∷ [])) rest ∙ ap (λ (t : List ℕ). opened y ++ t) (opened_push xs x rest) ∙ sym (append_assoc (opened y) (all_opened xs) (opened x ++ rest))

pub fit_push : (xs : List Change) (x : Change) → list_all fits xs ≡ true → fits x ≡ true → list_all fits (xs ++ x ∷ []) ≡ true
fit_push xs x e f = list_all-append fits xs (x ∷ []) ∙ and_from (list_all fits xs) (list_all fits (x ∷ [])) e (and_from (fits x) true f refl)

module _ (bytes : List ℕ) (xs : List Change) (x : Change) (record_bytes : List ℕ) (gate : ℕ) (j : IsJournal bytes xs) (at : gate ≡ length (all_opened xs)) (is : record_bytes ≡ framed x ++ 0 ∷ []) (ranges : fits x ≡ true)
    (room : gate + 1 + length record_bytes ≤ length bytes) where
  -- the changes, and the closed gate
  abbrev front : List ℕ
  front = all_opened xs ++ j.gate ∷ []

  split : bytes ≡ front ++ j.rest
  split = j.parts ∙ sym (append_assoc (all_opened xs) (j.gate ∷ []) j.rest)

  long : length front ≡ gate + 1
  long = omega (arith, length-append (all_opened xs) (j.gate ∷ []), at)

  fronted : take (gate + 1) bytes ≡ front
  fronted = ap (λ (b : List ℕ). take (gate + 1) b) split ∙ take_at front j.rest (gate + 1) long

  -- a closed gate ends the journal, whatever follows it
  closed : (g : ℕ) (rest c : List ℕ) → g ≢ 1 → c ≡ all_opened xs ++ g ∷ rest → IsJournal c xs
  closed g rest c shut e = record { gate = g; rest = rest; parts = e; closed = shut; ranges = j.ranges }

  torn_record : (c : List ℕ) → Torn (gate + 1) (length record_bytes) bytes c → IsJournal c xs
  torn_record c torn =
      let kept_front : take (gate + 1) c ≡ front = torn_front (gate + 1) (length record_bytes) bytes c (omega (arith, room)) torn ∙ fronted in
      closed j.gate (drop (gate + 1) c) c j.closed
      (sym (take-append-drop (gate + 1) c) ∙ ap (λ (t : List ℕ). t ++ drop (gate + 1) c) kept_front ∙ append_assoc (all_opened xs) (j.gate ∷ []) (drop (gate + 1) c))

  -- with the record after the gate
  abbrev tail : List ℕ
  tail = drop (gate + 1 + length record_bytes) bytes

  abbrev staged : List ℕ
  staged = with_record bytes gate record_bytes

  staged_is : staged ≡ front ++ (record_bytes ++ tail)
  staged_is = written_parts bytes (gate + 1) record_bytes room ∙ ap (λ (t : List ℕ). t ++ (record_bytes ++ tail)) fronted

  staged_long : length staged ≡ length bytes
  staged_long = length-written bytes (gate + 1) record_bytes

  staged_front : take gate staged ≡ all_opened xs
  staged_front =
      ap (λ (b : List ℕ). take gate b) (staged_is ∙ append_assoc (all_opened xs) (j.gate ∷ []) (record_bytes ++ tail)) ∙ take_at (all_opened xs) (j.gate ∷ (record_bytes ++ tail)) gate (sym at)

  staged_back : drop (gate + 1) staged ≡ record_bytes ++ tail
  staged_back = ap (λ (b : List ℕ). drop (gate + 1) b) staged_is ∙ drop_at front (record_bytes ++ tail) (gate + 1) long

  -- an open gate before the record makes it one of the journal
  opened_is : (c : List ℕ) → c ≡ all_opened xs ++ 1 ∷ (record_bytes ++ tail) → IsJournal c (xs ++ x ∷ [])
  opened_is c e = record {
    gate = 0;
    rest = tail;
    parts = e ∙ ap (λ (t : List ℕ). all_opened xs ++ 1 ∷ t) (ap (λ (t : List ℕ). t ++ tail) is ∙ append_assoc (framed x) (0 ∷ []) tail) ∙ sym (opened_push xs x (0 ∷ tail));
    closed = λ z. omega (arith, z);
    ranges = fit_push xs x j.ranges ranges;
  }

  torn_gate : (c : List ℕ) → Torn gate 1 staged c → IsJournal c xs ⊎ IsJournal c (xs ++ x ∷ [])
  torn_gate c torn =
      let g = get_or c gate 0 in
      let kept_front : take gate c ≡ all_opened xs = torn_front gate 1 staged c (omega (arith, room, staged_long)) torn ∙ staged_front in
      let kept_back : drop gate c ≡ g ∷ (record_bytes ++ tail) =
      drop_more c gate 0 (omega (arith, room, staged_long, torn.size)) ∙ ap (λ (t : List ℕ). g ∷ t) (torn_back gate 1 staged c torn ∙ staged_back) in
      let whole : c ≡ all_opened xs ++ g ∷ (record_bytes ++ tail) = sym (take-append-drop gate c) ∙ ap (λ (t : List ℕ). t ++ drop gate c) kept_front ∙ ap (λ (t : List ℕ). all_opened xs ++ t) kept_back in
      elim (cases_eq g 1) [
        | inl one ↦ inr (opened_is c (whole ∙ ap (λ (n : ℕ). all_opened xs ++ n ∷ (record_bytes ++ tail)) one))
        | inr shut ↦ inl (closed g (record_bytes ++ tail) c shut whole)
      ]

  -- a crash at any moment leaves the journal as it was, or with the change
  pub torn_append : (c : List ℕ) → IsTornAppend bytes gate record_bytes c → IsJournal c xs ⊎ IsJournal c (xs ++ x ∷ [])
  torn_append c (inl torn) = inl (torn_record c torn)
  torn_append c (inr torn) = torn_gate c torn

  -- and at the end it has the change
  pub done_append : IsJournal (with_open_gate bytes gate record_bytes) (xs ++ x ∷ [])
  done_append =
      opened_is (with_open_gate bytes gate record_bytes)
      (written_parts staged gate (1 ∷ []) (omega (arith, room, staged_long)) ∙ ap (λ (t : List ℕ). t ++ ((1 ∷ []) ++ drop (gate + 1) staged)) staged_front ∙ ap (λ (t : List ℕ). all_opened xs ++ 1 ∷ t) staged_back)
