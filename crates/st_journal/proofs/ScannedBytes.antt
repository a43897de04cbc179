-- What is read after a gate, over plain byte lists.
use Rattle.std.proofs.Common.{◌≡◌, ◌≢◌, ℕ, ◌+◌, ◌*◌, ◌^◌, ◌≤◌, ◌<◌, true, List, [], ◌∷◌, ◌++◌, length, get_or, take, drop, Option, Some, refl, sym, ap, ◌∙◌, subst, arith, append_assoc, length-append, length-drop, take-append-drop}
use Rattle.std.specs.Int.{w32, from_be_bytes}
use Rattle.std.specs.List.{list_all}
use Rattle.std.proofs.lemmas.Bool.{and_parts, leb-true}
use Rattle.std.proofs.lemmas.List.{length-take, take_at, drop_at, drop_more, drop-drop, append-nil}
use Rattle.st_rules.specs.Server.{Stable}
use Rattle.st_journal.specs.Changes.{Spells, fits, bytes_of, word16, word32, name, entry, is_word32, is_short, is_entry}
use Rattle.st_journal.specs.Journal.{framed, opened, all_opened, IsDamaged}
use Rattle.st_journal.specs.Scan.{IsClosedAt, IsFramedAt, IsUnframedAt, IsOpenAt, IsBareAt, IsDeadAt, IsReadTo, ReadsAll, ReadsOn, ReadsOut, AreLow}
use Rattle.st_journal.specs.Stable.{after_changes, then_apply, kept}
use Rattle.st_journal.specs.declared.change.Change.{Change}
use Rattle.st_journal.specs.declared.change.Change.TheVariants.{Epoch, Allocate, Cut, Create, Mkdir, Remove, Rename}
use Rattle.st_journal.specs.declared.scan.Scanned.{Scanned}
use Rattle.st_journal.proofs.Exact.{IsBytes, wide16, wide32}
use Rattle.st_journal.proofs.Unique.{length-word32, after_append}
use Rattle.st_journal.proofs.Appends.{opened_push, fit_push}
use Rattle.st_journal.proofs.Counters.{applied_low}

-- How many bytes a change has.

length-word16 : (n : ℕ) → length (word16 n) ≡ 2
unfolding word16
length-word16 n = wide16.len n

length-name : (n : List ℕ) → length (name n) ≡ length n + 1
unfolding name
length-name n = omega arith

length-entry : (dir : ℕ) (n : List ℕ) → length (entry dir n) ≡ length n + 5
length-entry dir n = omega (arith, length-append (word32 dir) (name n), length-word32 dir, length-name n)

short_is : (dir : ℕ) (n : List ℕ) → is_entry dir n ≡ true → length n ≤ 255
short_is dir n e = leb-true (length n) 255 (and_parts (is_word32 dir) (is_short n) e).1

pub bytes_few : (x : Change) → fits x ≡ true → length (bytes_of x) ≤ 521
unfolding bytes_of fits
bytes_few Epoch e = omega arith
bytes_few (Allocate ino page count) e =
    omega (
      arith,
      length-append (word32 ino ++ word32 page.0) (word16 count),
      length-append (word32 ino) (word32 page.0),
      length-word32 ino,
      length-word32 page.0,
      length-word16 count,
    )
bytes_few (Cut ino from) e = omega (arith, length-append (word32 ino) (word32 from.0), length-word32 ino, length-word32 from.0)
bytes_few (Create dir n) e = omega (arith, length-entry dir n, short_is dir n e)
bytes_few (Mkdir dir n) e = omega (arith, length-entry dir n, short_is dir n e)
bytes_few (Remove dir n) e = omega (arith, length-entry dir n, short_is dir n e)
bytes_few (Rename dir n dir2 n2) e =
    let both = and_parts (is_entry dir n) (is_entry dir2 n2) e in
    omega (arith, length-append (entry dir n) (entry dir2 n2), length-entry dir n, length-entry dir2 n2, short_is dir n both.0, short_is dir2 n2 both.1)

pub bytes_some : (x : Change) → 1 ≤ length (bytes_of x)
unfolding bytes_of
bytes_some Epoch = omega arith
bytes_some (Allocate ino page count) = omega arith
bytes_some (Cut ino from) = omega arith
bytes_some (Create dir n) = omega arith
bytes_some (Mkdir dir n) = omega arith
bytes_some (Remove dir n) = omega arith
bytes_some (Rename dir n dir2 n2) = omega arith

pub length-framed : (x : Change) → length (framed x) ≡ length (bytes_of x) + 4
unfolding framed
length-framed x = omega (arith, length-append (word32 (length (bytes_of x))) (bytes_of x), length-word32 (length (bytes_of x)))

word_once : (a b : ℕ) → a < 2 ^ 32 → b < 2 ^ 32 → word32 a ≡ word32 b → a ≡ b
unfolding word32
word_once a b l m e = sym (wide32.again a l) ∙ ap (λ (w : List ℕ). from_be_bytes w32 w) e ∙ wide32.again b m

-- A gate.

-- A number of bytes.

pub number_is : (room : List ℕ) → length room ≡ 4 → IsBytes room → word32 (from_be_bytes w32 room) ≡ room
unfolding word32
number_is room l b = wide32.back room l b

-- A change after its number of bytes.

module _ (bytes : List ℕ) (at count : ℕ) (number : take 4 (drop at bytes) ≡ word32 count) (small : count < 2 ^ 32) where
  pub framed_at : (x : Change) → at + count + 5 ≤ length bytes → Spells (take count (drop (at + 4) bytes)) x → IsFramedAt bytes at x (count + 4)
  unfolding framed
  framed_at x room s =
      let behind : drop 4 (drop at bytes) ≡ drop (at + 4) bytes = drop-drop 4 at bytes in
      let long : length (bytes_of x) ≡ count = ap length (sym s.text) ∙ omega (arith, length-take count (drop (at + 4) bytes), length-drop (at + 4) bytes) in
      let rest : drop count (drop (at + 4) bytes) ≡ drop (at + 4 + count) bytes = drop-drop count (at + 4) bytes in
      let gate = drop_more bytes (at + 4 + count) 0 (omega arith) in
      let text : drop (at + 4) bytes ≡ bytes_of x ++ (get_or bytes (at + 4 + count) 0 ∷ drop (at + 4 + count + 1) bytes) =
      sym (take-append-drop count (drop (at + 4) bytes)) ∙ ap (λ (t : List ℕ). t ++ drop count (drop (at + 4) bytes)) s.text ∙
      ap (λ (t : List ℕ). bytes_of x ++ t) (rest ∙ gate) in
      record {
        gate = get_or bytes (at + 4 + count) 0;
        rest = drop (at + 4 + count + 1) bytes;
        parts = sym (take-append-drop 4 (drop at bytes)) ∙ ap (λ (t : List ℕ). t ++ drop 4 (drop at bytes)) number ∙
            ap (λ (t : List ℕ). word32 count ++ t) (behind ∙ text)
            ∙ sym (append_assoc (word32 count) (bytes_of x) (get_or bytes (at + 4 + count) 0 ∷ drop (at + 4 + count + 1) bytes))
            ∙ ap (λ (n : ℕ). (word32 n ++ bytes_of x) ++ (get_or bytes (at + 4 + count) 0 ∷ drop (at + 4 + count + 1) bytes)) (sym long);
        ranges = s.ranges;
        counted = omega (arith, long, length-framed x);
      }

  -- the number is that of the change's bytes
  number_of : (x : Change) (gate : ℕ) (more : List ℕ) → fits x ≡ true → drop at bytes ≡ framed x ++ gate ∷ more → count ≡ length (bytes_of x)
  unfolding framed
  number_of x gate more f e =
      let front : take 4 (drop at bytes) ≡ word32 (length (bytes_of x)) =
      ap (λ (b : List ℕ). take 4 b) (e ∙ append_assoc (word32 (length (bytes_of x))) (bytes_of x) (gate ∷ more)) ∙
      take_at (word32 (length (bytes_of x))) (bytes_of x ++ gate ∷ more) 4 (length-word32 (length (bytes_of x))) in
      word_once count (length (bytes_of x)) small (omega (arith, bytes_few x f)) (sym number ∙ front)

  pub unframed_long : 521 < count → IsUnframedAt bytes at
  unframed_long l x gate more f e = omega (arith, l, number_of x gate more f e, bytes_few x f)

  pub unframed_room : length bytes < at + count + 5 → at ≤ length bytes → IsUnframedAt bytes at
  unframed_room l within x gate more f e =
      omega (arith, l, number_of x gate more f e, ap length e, length-drop at bytes, length-append (framed x) (gate ∷ more), length-framed x)

  pub unframed_text : ((x : Change) → Spells (take count (drop (at + 4) bytes)) x → ⊥) → IsUnframedAt bytes at
  unfolding framed
  unframed_text none x gate more f e =
      let is = number_of x gate more f e in
      let behind : drop (at + 4) bytes ≡ bytes_of x ++ gate ∷ more =
      sym (drop-drop 4 at bytes) ∙ ap (λ (b : List ℕ). drop 4 b) (e ∙ append_assoc (word32 (length (bytes_of x))) (bytes_of x) (gate ∷ more))
      ∙ drop_at (word32 (length (bytes_of x))) (bytes_of x ++ gate ∷ more) 4 (length-word32 (length (bytes_of x))) in
      none x (record { text = ap (λ (b : List ℕ). take count b) behind ∙ take_at (bytes_of x) (gate ∷ more) count (sym is); ranges = f })

pub unframed_short : (bytes : List ℕ) (at : ℕ) → length bytes < at + 4 → at ≤ length bytes → IsUnframedAt bytes at
unframed_short bytes at l within x gate more f e = omega (arith, l, ap length e, length-drop at bytes, length-append (framed x) (gate ∷ more), length-framed x)

-- A gate with what follows it.

pub open_at : (bytes : List ℕ) (at : ℕ) (x : Change) (count : ℕ) → drop at bytes ≡ 1 ∷ drop (at + 1) bytes → IsFramedAt bytes (at + 1) x count →
    IsOpenAt bytes at x (count + 1)
open_at bytes at x count gate f = record {
  gate = f.gate;
  rest = f.rest;
  parts = gate ∙ ap (λ (t : List ℕ). 1 ∷ t) f.parts;
  ranges = f.ranges;
  counted = omega (arith, f.counted);
}

pub bare_at : (bytes : List ℕ) (at : ℕ) → drop at bytes ≡ 1 ∷ drop (at + 1) bytes → IsUnframedAt bytes (at + 1) → IsBareAt bytes at
bare_at bytes at gate none = record { rest = drop (at + 1) bytes; parts = gate; none = none }

-- A journal that was read so far, and one change more.

-- what is at the end of what was read
behind_read : (bytes : List ℕ) (xs : List Change) (gate : ℕ) (tail : List ℕ) → bytes ≡ all_opened xs ++ drop gate bytes → drop gate bytes ≡ tail →
    bytes ≡ all_opened xs ++ tail
behind_read bytes xs gate tail e f = e ∙ ap (λ (t : List ℕ). all_opened xs ++ t) f

length-opened : (x : Change) → length (opened x) ≡ length (bytes_of x) + 5
length-opened x = omega (arith, length-framed x)

pub read_more : (bytes : List ℕ) (start old new : Stable) (before now : Scanned) → IsReadTo bytes start old before → ReadsOn bytes old new before now →
    IsReadTo bytes start new now
read_more bytes start old new before now r on =
    let x = on.change in
    let f = on.found in
    let tail : List ℕ = f.gate ∷ f.rest in
    let whole : bytes ≡ all_opened r.changes ++ (opened x ++ tail) = behind_read bytes r.changes before.gate (opened x ++ tail) r.parts f.parts in
    let grown : bytes ≡ all_opened (r.changes ++ x ∷ []) ++ tail = whole ∙ sym (opened_push r.changes x tail) in
    let long : length (all_opened (r.changes ++ x ∷ [])) ≡ before.gate + on.count =
    ap length (sym (append-nil (all_opened (r.changes ++ x ∷ [])))) ∙ ap length (opened_push r.changes x []) ∙
    omega (arith, length-append (all_opened r.changes) (opened x ++ []), length-append (opened x) [], r.gate, f.counted) in
    let left : drop now.gate bytes ≡ tail = ap (λ (b : List ℕ). drop now.gate b) grown ∙
    drop_at (all_opened (r.changes ++ x ∷ [])) tail now.gate (omega (arith, long, on.gate)) in
    record {
      changes = r.changes ++ x ∷ [];
      parts = grown ∙ ap (λ (t : List ℕ). all_opened (r.changes ++ x ∷ []) ++ t) (sym left);
      gate = omega (arith, long, on.gate);
      within = omega (arith, ap length grown, length-append (all_opened (r.changes ++ x ∷ [])) tail, long, on.gate);
      count = omega (arith, on.changes, r.count, length-append r.changes (x ∷ []));
      ranges = fit_push r.changes x r.ranges f.ranges;
      applied = after_append (Some start) r.changes (x ∷ []) ∙ ap (λ (o : Option Stable). then_apply o x) r.applied ∙ ap kept on.applied;
      few = omega (arith, on.gate, on.changes, f.counted, length-opened x, bytes_some x, r.few);
      low = subst (λ (n : ℕ). AreLow n new) (sym on.changes) (applied_low before.changes old x new f.ranges on.applied r.low);
    }

-- when nothing more is read, all of the journal was
pub reads_all : (bytes : List ℕ) (start old new : Stable) (before now : Scanned) → IsReadTo bytes start old before → ReadsOut bytes old new before now →
    ReadsAll bytes start new now
reads_all bytes start old new before now r out =
    let shut = out.closed in
    record {
      changes = r.changes;
      stands = record {
        journal = record {
          gate = shut.gate;
          rest = shut.rest;
          parts = behind_read bytes r.changes before.gate (shut.gate ∷ shut.rest) r.parts shut.parts;
          closed = shut.closed;
          ranges = r.ranges;
        };
        leads = subst (λ (t : Stable). after_changes (Some start) r.changes ≡ Some t) (sym out.same) r.applied;
      };
      gate = ap (λ (s : Scanned). s.gate) out.gate ∙ r.gate;
      count = ap (λ (s : Scanned). s.changes) out.gate ∙ r.count;
    }

-- a change that was not taken lies at the end of what was read
pub damaged_at : (bytes : List ℕ) (start state : Stable) (s : Scanned) → IsReadTo bytes start state s → IsDeadAt bytes state s.gate →
    IsDamaged start bytes s.gate
damaged_at bytes start state s r dead = record {
  changes = r.changes;
  state = state;
  rest = dead.rest;
  parts = behind_read bytes r.changes s.gate (1 ∷ dead.rest) r.parts dead.parts;
  place = r.gate;
  ranges = r.ranges;
  applied = r.applied;
  none = dead.none;
}

-- What is known before anything is read.

-- of bytes that begin with these changes
pub known_to : (bytes : List ℕ) (start state : Stable) (xs : List Change) (rest : List ℕ) (gate changes : ℕ) → bytes ≡ all_opened xs ++ rest → 1 ≤ length rest →
    gate ≡ length (all_opened xs)
    → changes ≡ length xs → list_all fits xs ≡ true → after_changes (Some start) xs ≡ Some state → AreLow (length xs) state →
    IsReadTo bytes start state (record { gate = gate; changes = changes })
known_to bytes start state xs rest gate changes parts some at count ranges applied low =
    let left : drop gate bytes ≡ rest = ap (λ (b : List ℕ). drop gate b) parts ∙ drop_at (all_opened xs) rest gate (sym at) in
    record {
      changes = xs;
      parts = parts ∙ ap (λ (t : List ℕ). all_opened xs ++ t) (sym left);
      gate = at;
      within = omega (arith, ap length parts, length-append (all_opened xs) rest, at, some);
      count = count;
      ranges = ranges;
      applied = applied;
      few = omega (arith, at, count, opened_least xs);
      low = subst (λ (n : ℕ). AreLow n state) (sym count) low;
    }
  where
    opened_least : (ys : List Change) → 6 * length ys ≤ length (all_opened ys)
    opened_least [] = omega arith
    opened_least (y ∷ ys) = omega (arith, opened_least ys, length-append (opened y) (all_opened ys), length-opened y, bytes_some y)
