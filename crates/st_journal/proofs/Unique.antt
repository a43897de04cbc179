-- Bytes have one journal, and those of a journal whose changes apply are not damaged.
use Rattle.std.proofs.Common.{◌≡◌, ◌≢◌, ℕ, true, List, [], ◌∷◌, ◌++◌, length, drop, Option, Some, None, Result, Ok, Err, refl, sym, ap, ◌∙◌, inl, inr, append_assoc}
use Rattle.std.specs.Prelude.{IsOk}
use Rattle.std.specs.List.{list_all}
use Rattle.std.proofs.lemmas.Bool.{and_parts}
use Rattle.std.proofs.lemmas.List.{drop_at}
use Rattle.st_rules.specs.Server.{Stable}
use Rattle.st_journal.specs.Changes.{fits, bytes_of, word32}
use Rattle.st_journal.specs.Journal.{framed, opened, all_opened, IsJournal, IsDamaged, StandsFor}
use Rattle.st_journal.specs.OpenedJournal.{HasPrefix, IsPrefixState, all_of}
use Rattle.st_journal.specs.Decoder.{change_at}
use Rattle.st_journal.specs.Stable.{after_changes, then_apply, apply, kept}
use Rattle.st_journal.specs.declared.change.Change.{Change}
use Rattle.st_journal.specs.declared.stable.ChangeRefusal.{ChangeRefusal}
use Rattle.st_journal.proofs.Exact.{some_is, wide32}
use Rattle.st_journal.proofs.DecodedChanges.{change_again}

pub length-word32 : (n : ℕ) → length (word32 n) ≡ 4
unfolding word32
length-word32 n = wide32.len n

-- what follows a gate is one change, and what comes after it
pub framed_once : (x y : Change) (ys zs : List ℕ) → fits x ≡ true → fits y ≡ true → framed x ++ ys ≡ framed y ++ zs → (x ≡ y) × (ys ≡ zs)
unfolding framed
framed_once x y ys zs e f same =
    let left : drop 4 (framed x ++ ys) ≡ bytes_of x ++ ys = ap (λ (l : List ℕ). drop 4 l) (append_assoc (word32 (length (bytes_of x))) (bytes_of x) ys) ∙ drop_at (word32 (length (bytes_of x))) (bytes_of x ++ ys) 4 (length-word32 (length (bytes_of x))) in
    let right : drop 4 (framed y ++ zs) ≡ bytes_of y ++ zs = ap (λ (l : List ℕ). drop 4 l) (append_assoc (word32 (length (bytes_of y))) (bytes_of y) zs) ∙ drop_at (word32 (length (bytes_of y))) (bytes_of y ++ zs) 4 (length-word32 (length (bytes_of y))) in
    let behind : bytes_of x ++ ys ≡ bytes_of y ++ zs = sym left ∙ ap (λ (l : List ℕ). drop 4 l) same ∙ right in
    let a : Change × List ℕ = (x, ys) in
    let b : Change × List ℕ = (y, zs) in
    let one : Some a ≡ Some b = sym (change_again x ys e) ∙ ap (λ (l : List ℕ). change_at l) behind ∙ change_again y zs f in
    let same_pair : a ≡ b = some_is a b one in
    (ap (λ (p : Change × List ℕ). p.0) same_pair, ap (λ (p : Change × List ℕ). p.1) same_pair)

head_is : (a b : ℕ) (xs ys : List ℕ) → a ∷ xs ≡ b ∷ ys → a ≡ b
head_is a b xs ys e = cc

tail_is : (a b : ℕ) (xs ys : List ℕ) → a ∷ xs ≡ b ∷ ys → xs ≡ ys
tail_is a b xs ys e = cc

-- one change after its gate, and the rest
opened_first : (x : Change) (xs : List Change) (rest : List ℕ) → all_opened (x ∷ xs) ++ rest ≡ 1 ∷ (framed x ++ (all_opened xs ++ rest))
opened_first x xs rest = append_assoc (opened x) (all_opened xs) rest

-- both lists of changes go on from the same first one
first_same : (x y : Change) (xs ys : List Change) (r q : List ℕ) → fits x ≡ true → fits y ≡ true → all_opened (x ∷ xs) ++ r ≡ all_opened (y ∷ ys) ++ q → (x ≡ y) × (all_opened xs ++ r ≡ all_opened ys ++ q)
first_same x y xs ys r q e f same =
    framed_once x y (all_opened xs ++ r) (all_opened ys ++ q) e f (tail_is 1 1 (framed x ++ (all_opened xs ++ r)) (framed y ++ (all_opened ys ++ q)) (sym (opened_first x xs r) ∙ same ∙ opened_first y ys q))

pub one_list : (xs ys : List Change) (g h : ℕ) (r q : List ℕ) → list_all fits xs ≡ true → list_all fits ys ≡ true → g ≢ 1 → h ≢ 1 → all_opened xs ++ g ∷ r ≡ all_opened ys ++ h ∷ q → xs ≡ ys
one_list [] [] g h r q e f shut closed same = refl
one_list [] (y ∷ ys) g h r q e f shut closed same = absurd (shut (head_is g 1 r (framed y ++ (all_opened ys ++ h ∷ q)) (same ∙ opened_first y ys (h ∷ q))))
one_list (x ∷ xs) [] g h r q e f shut closed same = absurd (closed (sym (head_is 1 h (framed x ++ (all_opened xs ++ g ∷ r)) q (sym (opened_first x xs (g ∷ r)) ∙ same))))
one_list (x ∷ xs) (y ∷ ys) g h r q e f shut closed same =
    let here = and_parts (fits x) (list_all fits xs) e in
    let there = and_parts (fits y) (list_all fits ys) f in
    let first = first_same x y xs ys (g ∷ r) (h ∷ q) here.0 there.0 same in
    let later : xs ≡ ys = one_list xs ys g h r q here.1 there.1 shut closed first.1 in
    let head : x ≡ y = first.0 in
    cc

-- Bytes have one journal.
pub one_journal : (bytes : List ℕ) (xs ys : List Change) → IsJournal bytes xs → IsJournal bytes ys → xs ≡ ys
one_journal bytes xs ys j k = one_list xs ys j.gate k.gate j.rest k.rest j.ranges k.ranges j.closed k.closed (sym j.parts ∙ k.parts)

-- if a journal has an open gate, one of its changes follows
record Follows (xs ys : List Change) (rest : List ℕ) : Type 0 where
  next : Change
  later : List Change
  gate : ℕ
  more : List ℕ
  is : ys ≡ xs ++ next ∷ later
  ranges : fits next ≡ true
  behind : rest ≡ framed next ++ gate ∷ more

some_gate : (zs : List Change) (h : ℕ) (q : List ℕ) → (g : ℕ) × (m : List ℕ) × (all_opened zs ++ h ∷ q ≡ g ∷ m)
some_gate [] h q = (h, q, refl)
some_gate (z ∷ zs) h q = (1, framed z ++ (all_opened zs ++ h ∷ q), opened_first z zs (h ∷ q))

open_in : (xs ys : List Change) (rest : List ℕ) (h : ℕ) (q : List ℕ) → list_all fits xs ≡ true → list_all fits ys ≡ true → h ≢ 1 → all_opened xs ++ 1 ∷ rest ≡ all_opened ys ++ h ∷ q → Follows xs ys rest
open_in [] [] rest h q e f closed same = absurd (closed (sym (head_is 1 h rest q same)))
open_in [] (y ∷ ys) rest h q e f closed same =
    let gate = some_gate ys h q in
    record {
      next = y;
      later = ys;
      gate = gate.0;
      more = gate.1;
      is = refl;
      ranges = (and_parts (fits y) (list_all fits ys) f).0;
      behind = tail_is 1 1 rest (framed y ++ (all_opened ys ++ h ∷ q)) (same ∙ opened_first y ys (h ∷ q)) ∙ ap (λ (l : List ℕ). framed y ++ l) gate.2;
    }
open_in (x ∷ xs) [] rest h q e f closed same = absurd (closed (sym (head_is 1 h (framed x ++ (all_opened xs ++ 1 ∷ rest)) q (sym (opened_first x xs (1 ∷ rest)) ∙ same))))
open_in (x ∷ xs) (y ∷ ys) rest h q e f closed same =
    let here = and_parts (fits x) (list_all fits xs) e in
    let there = and_parts (fits y) (list_all fits ys) f in
    let first = first_same x y xs ys (1 ∷ rest) (h ∷ q) here.0 there.0 same in
    let on = open_in xs ys rest h q here.1 there.1 closed first.1 in
    let head : x ≡ y = first.0 in
    let tails : ys ≡ xs ++ on.next ∷ on.later = on.is in
    record {
      next = on.next;
      later = on.later;
      gate = on.gate;
      more = on.more;
      is = cc;
      ranges = on.ranges;
      behind = on.behind;
    }

pub after_append : (o : Option Stable) (xs ys : List Change) → after_changes o (xs ++ ys) ≡ after_changes (after_changes o xs) ys
after_append o [] ys = refl
after_append o (x ∷ xs) ys = after_append (then_apply o x) xs ys

after_none : (xs : List Change) → after_changes None xs ≡ None
after_none [] = refl
after_none (x ∷ xs) = after_none xs

abbrev nothing : Option Stable
nothing = None

-- the first of changes that lead to a state is not refused
not_refused : (r : Result Stable ChangeRefusal) (xs : List Change) (state : Stable) → after_changes (kept r) xs ≡ Some state → IsOk r
not_refused (Ok t) xs state e = refl
not_refused (Err f) xs state e = let none : nothing ≡ Some state = sym (after_none xs) ∙ e in absurd cc

-- Bytes that stand for a stable part are not damaged.
pub undamaged : (start : Stable) (bytes : List ℕ) (at : ℕ) (ys : List Change) (end : Stable) → StandsFor start bytes ys end → IsDamaged start bytes at → ⊥
undamaged start bytes at ys end s d =
    let j = s.journal in
    let on = open_in d.changes ys d.rest j.gate j.rest d.ranges j.ranges j.closed (sym d.parts ∙ j.parts) in
    let all : after_changes (Some start) (d.changes ++ on.next ∷ on.later) ≡ Some end = ap (λ (l : List Change). after_changes (Some start) l) (sym on.is) ∙ s.leads in
    let split = sym (after_append (Some start) d.changes (on.next ∷ on.later)) ∙ all in
    let from : after_changes (kept (apply d.state on.next)) on.later ≡ Some end = ap (λ (o : Option Stable). after_changes o (on.next ∷ on.later)) (sym d.applied) ∙ split in
    d.none on.next on.gate on.more on.ranges on.behind (not_refused (apply d.state on.next) on.later end from)

prefix_of : (start : Stable) (bytes : List ℕ) (acked xs : List Change) (s : Stable) → IsJournal bytes acked → StandsFor start bytes xs s → after_changes (Some start) acked ≡ Some s
prefix_of start bytes acked xs s has p = ap (λ (l : List Change). after_changes (Some start) l) (one_journal bytes acked xs has p.journal) ∙ p.leads

-- what is read of bytes that a crash left
pub prefix_state : (start : Stable) (bytes : List ℕ) (acked : List Change) (under_way : Option Change) (xs : List Change) (s : Stable) → HasPrefix acked under_way bytes → StandsFor start bytes xs s → IsPrefixState start acked under_way s
prefix_state start bytes acked None xs s has p = prefix_of start bytes acked xs s has p
prefix_state start bytes acked (Some x) xs s (inl has) p = inl (prefix_of start bytes acked xs s has p)
prefix_state start bytes acked (Some x) xs s (inr has) p = inr (prefix_of start bytes (acked ++ x ∷ []) xs s has p)

-- changes that lead to a state lead to one before the last of them
some_before : (o : Option Stable) (ys : List Change) (last : Stable) → after_changes o ys ≡ Some last → (s : Stable) × (o ≡ Some s)
some_before None ys last e = let none : nothing ≡ Some last = sym (after_none ys) ∙ e in absurd cc
some_before (Some s) ys last e = (s, refl)

leads_before : (start : Stable) (xs ys : List Change) (last : Stable) → after_changes (Some start) (xs ++ ys) ≡ Some last → (s : Stable) × (after_changes (Some start) xs ≡ Some s)
leads_before start xs ys last e = some_before (after_changes (Some start) xs) ys last (sym (after_append (Some start) xs ys) ∙ e)

-- and they are not damaged
pub prefix_undamaged : (start : Stable) (bytes : List ℕ) (acked : List Change) (under_way : Option Change) (at : ℕ) (last : Stable) → after_changes (Some start) (all_of acked under_way) ≡ Some last
    → HasPrefix acked under_way bytes → IsDamaged start bytes at → ⊥
prefix_undamaged start bytes acked None at last leads has d = undamaged start bytes at acked last (record { journal = has; leads = leads }) d
prefix_undamaged start bytes acked (Some x) at last leads (inl has) d =
    let before = leads_before start acked (x ∷ []) last leads in
    undamaged start bytes at acked before.0 (record { journal = has; leads = before.1 }) d
prefix_undamaged start bytes acked (Some x) at last leads (inr has) d = undamaged start bytes at (acked ++ x ∷ []) last (record { journal = has; leads = leads }) d
