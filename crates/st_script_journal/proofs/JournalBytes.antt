-- How many bytes the changes of a journal take.
use Rattle.std.proofs.Common.{◌≡◌, ℕ, ◌+◌, ◌*◌, ◌≤◌, Bool, true, false, List, [], ◌∷◌, ◌++◌, length, Option, Some, None, Result, Ok, Err, refl, arith, inl, inr, length-append}
use Rattle.std.specs.Prelude.{IsOk, nat_le}
use Rattle.std.specs.Option.{option_or}
use Rattle.std.proofs.lemmas.Bool.{and_parts, cases_Bool, leb-true}
use Rattle.st_rules.specs.Names as names
use Rattle.st_rules.specs.Server.{Stable}
use Rattle.st_rules.specs.declared.names.EntryRefusal.{EntryRefusal}
use Rattle.st_rules.specs.declared.names.EntryRefusal.TheVariants as refusals
use Rattle.st_journal.specs.Changes.{bytes_of, entry, name, word16, word32}
use Rattle.st_journal.specs.Journal.{all_opened, opened}
use Rattle.st_journal.specs.Stable.{after_changes, apply, kept, named, removed}
use Rattle.st_journal.specs.declared.change.Change.{Change}
use Rattle.st_journal.specs.declared.change.Change.TheVariants.{Epoch, Allocate, Cut, Create, Mkdir, Remove, Rename}
use Rattle.st_journal.specs.declared.stable.ChangeRefusal.{ChangeRefusal}
use Rattle.st_journal.proofs.Exact.{wide16}
use Rattle.st_journal.proofs.ScannedBytes.{length-framed}
use Rattle.st_journal.proofs.Unique.{length-word32}

-- The names of a change that applies have at most 64 bytes.

abbrev unrefused : Option EntryRefusal
unrefused = None

good_is_short : (n : List ℕ) → names.is_good n ≡ true → length n ≤ 64
unfolding names.is_good
good_is_short n e =
    let long = and_parts (names.is_between 1 64 (length n)) _ e in
    let most = and_parts (nat_le 1 (length n)) (nat_le (length n) 64) long.0 in
    leb-true (length n) 64 most.1

named_short : (n : List ℕ) → names.name_refusal n ≡ unrefused → length n ≤ 64
named_short n e = elim (cases_Bool (names.is_good n)) [
  | inl good ↦ good_is_short n good
  | inr bad ↦ absurd (some_not (rw bad at e))
]
  where
    some_not : Some refusals.BadName ≡ unrefused → ⊥
    some_not e = cc

or_none : (a b : Option EntryRefusal) → option_or a b ≡ unrefused → (a ≡ unrefused) × (b ≡ unrefused)
or_none None b e = (refl, e)
or_none (Some r) b e = absurd cc

place_short : (t : names.Names) (dir : ℕ) (n : List ℕ) → names.place_refusal t dir n ≡ unrefused → length n ≤ 64
unfolding names.place_refusal
place_short t dir n e = named_short n (or_none (names.dir_refusal t dir) (names.name_refusal n) e).1

add_short : (t : names.Names) (dir : ℕ) (n : List ℕ) (d : Bool) → IsOk (names.add t dir n d) → length n ≤ 64
unfolding names.add names.add_at
add_short t dir n d ok = at (names.place_refusal t dir n) refl ok
  where
    at : (o : Option EntryRefusal) → names.place_refusal t dir n ≡ o → IsOk (names.add_at t dir n d o) → length n ≤ 64
    at None p ok = place_short t dir n p
    at (Some r) p ok = absurd cc

remove_short : (t : names.Names) (dir : ℕ) (n : List ℕ) → IsOk (names.remove t dir n) → length n ≤ 64
unfolding names.remove names.remove_at
remove_short t dir n ok = at (names.place_refusal t dir n) refl ok
  where
    at : (o : Option EntryRefusal) → names.place_refusal t dir n ≡ o → IsOk (names.remove_at t dir n o) → length n ≤ 64
    at None p ok = place_short t dir n p
    at (Some r) p ok = absurd cc

rename_short : (t : names.Names) (dir : ℕ) (n : List ℕ) (dir2 : ℕ) (n2 : List ℕ) → IsOk (names.rename t dir n dir2 n2) → (length n ≤ 64) × (length n2 ≤ 64)
unfolding names.rename names.rename_at
rename_short t dir n dir2 n2 ok = at (option_or (names.place_refusal t dir n) (names.place_refusal t dir2 n2)) refl ok
  where
    at : (o : Option EntryRefusal) → option_or (names.place_refusal t dir n) (names.place_refusal t dir2 n2) ≡ o → IsOk (names.rename_at t dir n dir2 n2 o) →
        (length n ≤ 64) × (length n2 ≤ 64)
    at None p ok =
        let both = or_none (names.place_refusal t dir n) (names.place_refusal t dir2 n2) p in
        (place_short t dir n both.0, place_short t dir2 n2 both.1)
    at (Some r) p ok = absurd cc

named_ok : (t : Stable) (r : Result names.Changed EntryRefusal) (u : Stable) → named t r ≡ Ok u → IsOk r
unfolding named
named_ok t (Ok c) u e = refl
named_ok t (Err r) u e = absurd cc

removed_ok : (t : Stable) (r : Result names.Changed EntryRefusal) (u : Stable) → removed t r ≡ Ok u → IsOk r
unfolding removed
removed_ok t (Ok c) u e = refl
removed_ok t (Err r) u e = absurd cc

-- A change that applies has at most 139 bytes.

length-word16 : (n : ℕ) → length (word16 n) ≡ 2
unfolding word16
length-word16 n = wide16.len n

length-entry : (dir : ℕ) (n : List ℕ) → length (entry dir n) ≡ length n + 5
unfolding name
length-entry dir n = omega (arith, length-append (word32 dir) (name n), length-word32 dir)

pub applied_bytes : (t : Stable) (x : Change) (u : Stable) → apply t x ≡ Ok u → length (bytes_of x) ≤ 139
unfolding apply bytes_of names.create names.mkdir
applied_bytes t Epoch u e = omega arith
applied_bytes t (Allocate ino page count) u e =
    omega (arith, length-append (word32 ino ++ word32 page.0) (word16 count), length-append (word32 ino) (word32 page.0), length-word32 ino, length-word32 page.0, length-word16 count)
applied_bytes t (Cut ino from) u e = omega (arith, length-append (word32 ino) (word32 from.0), length-word32 ino, length-word32 from.0)
applied_bytes t (Create dir n) u e = omega (arith, length-entry dir n, add_short t.names dir n false (named_ok t (names.create t.names dir n) u e))
applied_bytes t (Mkdir dir n) u e = omega (arith, length-entry dir n, add_short t.names dir n true (named_ok t (names.mkdir t.names dir n) u e))
applied_bytes t (Remove dir n) u e = omega (arith, length-entry dir n, remove_short t.names dir n (removed_ok t (names.remove t.names dir n) u e))
applied_bytes t (Rename dir n dir2 n2) u e =
    let short = rename_short t.names dir n dir2 n2 (named_ok t (names.rename t.names dir n dir2 n2) u e) in
    omega (arith, length-append (entry dir n) (entry dir2 n2), length-entry dir n, length-entry dir2 n2, short.0, short.1)

-- With its gate and its length it has at most 144.

none_stays : (xs : List Change) (u : Stable) → after_changes None xs ≡ Some u → ⊥
none_stays [] u e = cc
none_stays (x ∷ xs) u e = none_stays xs u e

pub opened_bytes : (xs : List Change) (t u : Stable) → after_changes (Some t) xs ≡ Some u → length (all_opened xs) ≤ 144 * length xs
opened_bytes [] t u e = omega arith
opened_bytes (x ∷ xs) t u e = at (λ v. opened_bytes xs v u) (apply t x) refl e
  where
    at : ((v : Stable) → after_changes (Some v) xs ≡ Some u → length (all_opened xs) ≤ 144 * length xs) → (r : Result Stable ChangeRefusal) → apply t x ≡ r →
        after_changes (kept r) xs ≡ Some u → length (all_opened (x ∷ xs)) ≤ 144 * length (x ∷ xs)
    at rest (Ok v) is e = omega (arith, rest v e, applied_bytes t x v is, length-framed x, length-append (opened x) (all_opened xs))
    at rest (Err r) is e = absurd (none_stays xs u e)
