-- Every history of a journal keeps it.
use Rattle.std.proofs.Common.{◌≡◌, ◌⊎◌, ◌≤◌, ◌+◌, ℕ, true, List, [], ◌∷◌, ◌++◌, length, Option, Some, None, Ok, refl, sym, ap, ◌∙◌, subst, inl, inr, append-nil}
use Rattle.std.proofs.lemmas.List.{append_assoc}
use Rattle.st_rules.specs.Server.{Stable}
use Rattle.st_journal.specs.Changes.{fits}
use Rattle.st_journal.specs.Journal.{IsJournal, StandsFor, all_opened}
use Rattle.st_journal.specs.OpenedJournal.{HasPrefix}
use Rattle.st_journal.specs.Stable.{after_changes, apply, fresh, kept}
use Rattle.st_journal.specs.declared.change.Change.{Change}
use Rattle.st_journal.proofs.Appends.{done_append, torn_append}
use Rattle.st_journal.proofs.Stops.{zeros_journal}
use Rattle.st_journal.proofs.Unique.{after_append, one_journal}
use Rattle.st_laws_histories.specs.JournalHistories.{
  Acknowledged,
  Begun,
  CanBeOpened,
  Crashed,
  Event,
  EveryJournalIsKept,
  Happens,
  IsPrefix,
  Leads,
  MayAppend,
  MayBeFound,
  MayBeFoundBy,
  Moment,
  NothingCountedIsLost,
  Opened,
  acknowledged,
  begins,
  crashed,
  first_moment,
  gate_of,
  opened,
  record_of,
}

-- changes that lead somewhere
abbrev Goes : Stable → List Change → Type 0
Goes start xs = (t : Stable) × (after_changes (Some start) xs ≡ Some t)

-- if the bytes of an append are not synced
abbrev IsLoose : Option Change → Option Change → List ℕ → List Change → Type 0
IsLoose None begun bytes counted = HasPrefix counted begun bytes
IsLoose (Some x) begun bytes counted = (begun ≡ Some x) × (IsJournal bytes counted × ((fits x ≡ true) × (length (all_opened counted) + 1 + length (record_of x) ≤ length bytes)))

-- the change under way leads on
abbrev GoesOn : Stable → List Change → Option Change → Type 0
GoesOn start counted None = Unit {0}
GoesOn start counted (Some x) = Goes start (counted ++ x ∷ [])

record Stays (start : Stable) (m : Moment) : Type 0 where
  goes : Goes start m.counted
  under_way : GoesOn start m.counted m.begun
  has : IsLoose m.loose m.begun m.bytes m.counted

first_stays : (start : Stable) (size : ℕ) → 1 ≤ size → Stays start (first_moment size)
first_stays start size some = record { goes = (start, refl); under_way = tt; has = zeros_journal size some }

one_more : (start state next : Stable) (xs : List Change) (x : Change) → after_changes (Some start) xs ≡ Some state → apply state x ≡ Ok next → Goes start (xs ++ x ∷ [])
one_more start state next xs x leads applied = (next, after_append (Some start) xs (x ∷ []) ∙ ap (λ (o : Option Stable). after_changes o (x ∷ [])) leads ∙ ap kept applied)

-- if no append failed and none is under way, the synced bytes are the journal
at_rest : (loose begun : Option Change) (bytes : List ℕ) (counted : List Change) → begun ≡ None → IsLoose loose begun bytes counted → IsJournal bytes counted
at_rest None None bytes counted whole h = h
at_rest None (Some x) bytes counted whole h = absurd (cc)
at_rest (Some x) begun bytes counted whole h = h.1.0

-- Openings.

prefix_found : (start : Stable) (counted : List Change) (begun : Option Change) (c : List ℕ) → Goes start counted → GoesOn start counted begun → HasPrefix counted begun c →
    (found : List Change) × ((state : Stable) × (StandsFor start c found state × ((found ≡ counted) ⊎ ((x : Change) × ((begun ≡ Some x) × (found ≡ counted ++ x ∷ []))))))
prefix_found start counted None c goes on has = (counted, (goes.0, (record { journal = has; leads = goes.1 }, inl refl)))
prefix_found start counted (Some x) c goes on (inl has) = (counted, (goes.0, (record { journal = has; leads = goes.1 }, inl refl)))
prefix_found start counted (Some x) c goes on (inr has) = (counted ++ x ∷ [], (on.0, (record { journal = has; leads = on.1 }, inr (x, (refl, refl)))))

has_prefix : (loose begun : Option Change) (bytes : List ℕ) (counted : List Change) (c : List ℕ) → IsLoose loose begun bytes counted → MayBeFoundBy loose bytes (length (all_opened counted)) c →
    HasPrefix counted begun c
has_prefix None begun bytes counted c has found = subst (λ (b : List ℕ). HasPrefix counted begun b) (sym found) has
has_prefix (Some x) begun bytes counted c has found =
    subst (λ (b : Option Change). HasPrefix counted b c) (sym has.0)
    (torn_append bytes counted x (record_of x) (length (all_opened counted)) has.1.0 refl refl has.1.1.0 has.1.1.1 c found)

can_be_opened : (start : Stable) (m : Moment) (c : List ℕ) → Stays start m → MayBeFound m c → CanBeOpened start m c
can_be_opened start m c s may =
    let f = prefix_found start m.counted m.begun c s.goes s.under_way (has_prefix m.loose m.begun m.bytes m.counted c s.has may) in
    record { found = f.0; state = f.1.0; stands = f.1.1.0; prefix = f.1.1.1 }

-- Events.

crash_stays : (start : Stable) (m : Moment) (c : List ℕ) → Stays start m → MayBeFound m c → Stays start (crashed m c)
crash_stays start m c s may = record { goes = s.goes; under_way = s.under_way; has = has_prefix m.loose m.begun m.bytes m.counted c s.has may }

open_stays : (start : Stable) (m : Moment) (c : List ℕ) (found : List Change) → Stays start m → MayBeFound m c → IsJournal c found → Stays start (opened c found)
open_stays start m c found s may j =
    let o = can_be_opened start m c s may in
    let same : found ≡ o.found = one_journal c found o.found j o.stands.journal in
    record { goes = (o.state, ap (λ (xs : List Change). after_changes (Some start) xs) same ∙ o.stands.leads); under_way = tt; has = j }

append_stays : (start : Stable) (m : Moment) (x : Change) → Stays start m → MayAppend start m x → Stays start (acknowledged m x)
append_stays start m x s a = record {
  goes = one_more start a.state a.next m.counted x a.leads a.applied;
  under_way = subst (λ (b : Option Change). GoesOn start (m.counted ++ x ∷ []) b) (sym a.whole) tt;
  has = synced m.loose m.begun a.whole s.has;
}
  where
    synced : (loose begun : Option Change) → begun ≡ None → IsLoose loose begun m.bytes m.counted → IsLoose loose begun (acknowledged m x).bytes (m.counted ++ x ∷ [])
    synced None None whole h = done_append m.bytes m.counted x (record_of x) (gate_of m) h refl refl a.ranges a.room
    synced None (Some y) whole h = absurd (cc)
    synced (Some y) begun whole h = let not : None ≡ Some y = sym whole ∙ h.0 in absurd (cc)

begin_stays : (start : Stable) (m : Moment) (x : Change) → Stays start m → MayAppend start m x → Stays start (begins m x)
begin_stays start m x s a = record {
  goes = s.goes;
  under_way = one_more start a.state a.next m.counted x a.leads a.applied;
  has = (refl, (at_rest m.loose m.begun m.bytes m.counted a.whole s.has, (a.ranges, a.room)));
}

step_stays : (start : Stable) (m n : Moment) (e : Event) → Stays start m → Happens start m e n → Stays start n
step_stays start m n (Acknowledged x) s h = subst (Stays start) (sym h.1) (append_stays start m x s h.0)
step_stays start m n (Begun x) s h = subst (Stays start) (sym h.1) (begin_stays start m x s h.0)
step_stays start m n (Crashed c) s h = subst (Stays start) (sym h.1) (crash_stays start m c s h.0)
step_stays start m n (Opened c found) s h = subst (Stays start) (sym h.1.1) (open_stays start m c found s h.0 h.1.0)

all_stay : (start : Stable) (m n : Moment) (es : List Event) → Stays start m → Leads start m es n → Stays start n
all_stay start m n [] s h = subst (Stays start) (sym h) s
all_stay start m n (e ∷ es) s h = all_stay start h.0 n es (step_stays start m h.0 e s h.1.0) h.1.1

pub every_journal : EveryJournalIsKept
every_journal shape size es m some leads bytes may = can_be_opened (fresh shape) m bytes (all_stay (fresh shape) (first_moment size) m es (first_stays (fresh shape) size some) leads) may

-- What counted.

abbrev Extends : List Change → List Change → Type 0
Extends xs ys = (more : List Change) × (ys ≡ xs ++ more)

same_extends : (xs ys : List Change) → ys ≡ xs → Extends xs ys
same_extends xs ys e = ([], e ∙ sym (append-nil xs))

extends_on : (xs ys zs : List Change) → Extends xs ys → Extends ys zs → Extends xs zs
extends_on xs ys zs a b = (a.0 ++ b.0, b.1 ∙ ap (λ (t : List Change). t ++ b.0) a.1 ∙ append_assoc xs a.0 b.0)

prefix_extends : (m : Moment) (found : List Change) → IsPrefix m found → Extends m.counted found
prefix_extends m found (inl e) = same_extends m.counted found e
prefix_extends m found (inr h) = (h.0 ∷ [], h.1.1)

step_extends : (start : Stable) (m n : Moment) (e : Event) → Stays start m → Happens start m e n → Extends m.counted n.counted
step_extends start m n (Acknowledged x) s h = (x ∷ [], ap (λ (k : Moment). k.counted) h.1)
step_extends start m n (Begun x) s h = same_extends m.counted n.counted (ap (λ (k : Moment). k.counted) h.1)
step_extends start m n (Crashed c) s h = same_extends m.counted n.counted (ap (λ (k : Moment). k.counted) h.1)
step_extends start m n (Opened c found) s h =
    let o = can_be_opened start m c s h.0 in
    let same : found ≡ o.found = one_journal c found o.found h.1.0 o.stands.journal in
    let all : n.counted ≡ o.found = ap (λ (k : Moment). k.counted) h.1.1 ∙ same in
    let e = prefix_extends m o.found o.prefix in
    (e.0, all ∙ e.1)

all_extend : (start : Stable) (m n : Moment) (es : List Event) → Stays start m → Leads start m es n → Extends m.counted n.counted
all_extend start m n [] s h = same_extends m.counted n.counted (ap (λ (k : Moment). k.counted) h)
all_extend start m n (e ∷ es) s h =
    extends_on m.counted h.0.counted n.counted (step_extends start m h.0 e s h.1.0) (all_extend start h.0 n es (step_stays start m h.0 e s h.1.0) h.1.1)

pub nothing_lost : NothingCountedIsLost
nothing_lost shape size es later m n some leads on =
    all_extend (fresh shape) m n later (all_stay (fresh shape) (first_moment size) m es (first_stays (fresh shape) size some) leads) on
