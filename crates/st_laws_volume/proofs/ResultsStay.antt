-- An open ask that has a result of a kind keeps it: no step of the volume gives it another one.
use Rattle.std.proofs.Common.{◌≡◌, ◌≤◌, arith, ◌⊎◌, ℕ, ◌+◌, Bool, true, false, not, ◌&&◌, ◌||◌, ◌==◌, List, [], ◌∷◌, ◌++◌, length, map, Option, Some, None, refl, sym, ap, ◌∙◌, subst, inl, inr, if◌then◌else◌}
use Rattle.std.specs.Prelude.{filter, find, is_some, option_and_then, option_map}
use Rattle.std.specs.List.{list_all, list_any}
use Rattle.std.proofs.lemmas.Bool.{eq-eqb, eqb-true, ne_eqb}
use Rattle.st_base.specs.declared.ids.ClientId.{ClientId}
use Rattle.st_messages.specs.declared.answer.AppAnswer.{AppAnswer}
use Rattle.st_messages.specs.declared.ask.Ask.{Ask}
use Rattle.st_messages.specs.declared.event.Event.{Event}
use Rattle.st_messages.specs.declared.event.Event.TheVariants as events
use Rattle.st_rules.specs.World.{World}
use Rattle.st_lemmas.specs.Lists.{Has}
use Rattle.st_lemmas.proofs.Lookups.{or_left, or_right, some_is}
use Rattle.st_lemmas.proofs.Members.{has_left, has_right}
use Rattle.st_lemmas.proofs.Tables.{all_pass, and_both, and_true, each_passes, found_at, has_append, has_filter, has_map, none_has}
use Rattle.st_lemmas.proofs.Truth.{client_is, clash}
use Rattle.st_laws_volume.specs.Options.{OnSome}
use Rattle.st_laws_volume.specs.Seen.{of_event}
use Rattle.st_laws_volume.proofs.AsksTaken.{event_other, is_other}
use Rattle.st_laws_volume.proofs.AskSteps.{Kept, Leaves, after_keeps, effect_keeps}
use Rattle.st_laws_volume.proofs.Options.{on_all, on_if, on_map, on_more, on_then}
use Rattle.st_volume.specs.declared.step.VolumeStep.{VolumeStep}
use Rattle.st_volume.specs.declared.step.VolumeStep.TheVariants as kinds
use Rattle.st_volume.specs.declared.step.Fate.{Fate}
use Rattle.st_volume.specs.declared.step.Fate.TheVariants as fates
use Rattle.st_volume.specs.Pages.{Entry, failed_up_to, is_any, is_cause}
use Rattle.st_volume.specs.Volume as volume
use Rattle.st_volume.specs.Volume.{Pending, Volume, acts, after_answer, answered, answers_so, arrived, closed, crashed, done, effect, ends, failed, failing, fails, is_ask, is_before, is_of_client, is_read_of, is_sync_of, new_ask, notice, noticing, numbered, resulting, run, takes, with_changed, with_fate}

pub on_false : {A : Type 0} (P : A → Type 0) (b : Bool) (o : Option A) → (b ≡ false → OnSome P o) → OnSome P (if b then None else o)
on_false P true o h = tt
on_false P false o h = h refl

all_mapped : (p : Pending → Bool) (f : Pending → Pending) → ((a : Pending) → p a ≡ true → p (f a) ≡ true) → (xs : List Pending) →
    list_all p xs ≡ true → list_all p (map f xs) ≡ true
all_mapped p f h [] q = refl
all_mapped p f h (a ∷ xs) q =
    let z = and_true (p a) (list_all p xs) q in and_both (p (f a)) (list_all p (map f xs)) (h a z.0) (all_mapped p f h xs z.1)

all_filtered : (p q : Pending → Bool) (xs : List Pending) → list_all p xs ≡ true → list_all p (filter q xs) ≡ true
all_filtered p q xs h = all_pass p (filter q xs) (λ a i. each_passes p xs h a (has_filter q xs a i).0)

all_joined : (p : Pending → Bool) (xs : List Pending) (a : Pending) → list_all p xs ≡ true → p a ≡ true → list_all p (xs ++ a ∷ []) ≡ true
all_joined p xs a h k = all_pass p (xs ++ a ∷ []) (λ b i. go b (has_append xs (a ∷ []) b i))
  where
    go : (b : Pending) → Has b xs ⊎ Has b (a ∷ []) → p b ≡ true
    go b (inl i) = each_passes p xs h b i
    go b (inr (inl e)) = ap p e ∙ k
    go b (inr (inr i)) = absurd i

-- what is found in two lists, if the first one contains such an element
pub found_first : {A : Type 0} (p : A → Bool) (xs ys : List A) (b x : A) → Has b xs → p b ≡ true → find p (xs ++ ys) ≡ Some x → Has x xs
found_first p [] ys b x i k q = absurd i
found_first p (y ∷ xs) ys b x i k q = go (p y) refl i q (λ i q. found_first p xs ys b x i k q)
  where
    go : (t : Bool) → p y ≡ t → (b ≡ y) ⊎ Has b xs → (if t then Some y else find p (xs ++ ys)) ≡ Some x →
        (Has b xs → find p (xs ++ ys) ≡ Some x → Has x xs) → (x ≡ y) ⊎ Has x xs
    go true e i q r = inl (sym (some_is q))
    go false e (inl i) q r = absurd (clash k (ap p i ∙ e))
    go false e (inr i) q r = inr (r i q)

pub or_both : (a b : Bool) → (a || b) ≡ false → (a ≡ false) × (b ≡ false)
or_both true b q = cc q
or_both false b q = (refl, q)

some_any : {A : Type 0} (p : A → Bool) (o : Option A) → is_any p o ≡ true → is_some o ≡ true
some_any p None q = cc q
some_any p (Some x) q = refl

-- Each open ask of this client and this number has such a result.
module _ (c : ClientId) (op : ℕ) (ok : AppAnswer → Bool) where
  abbrev pub keeps : Pending → Bool
  keeps a = not (is_ask c op a) || is_any ok a.result

  abbrev pub AllKeep : Volume → Type 0
  AllKeep v = list_all keeps v.pending ≡ true

  -- an ask that comes has a later number
  abbrev pub IsLater : Volume → VolumeStep → Type 0
  IsLater v (kinds.Asked d ask) = (d.0 == c.0) ≡ true → op ≤ length (filter (λ x. x.0.0 == d.0) v.asked)
  IsLater v it = Unit {0}

  noticed : (v : Volume) → AllKeep v → AllKeep (notice v)
  noticed v h = all_mapped keeps (noticing v) (λ a k. k) v.pending h

  failing_keep : (d : ClientId) (number : ℕ) (test : Ask → Bool) (v : Volume) → AllKeep v → AllKeep (failing v d number test)
  failing_keep d number test v h = all_mapped keeps (fails d number test) one v.pending h
    where
      one : (a : Pending) → keeps a ≡ true → keeps (fails d number test a) ≡ true
      one a k = go (is_of_client d a && test a.ask)
        where
          go : (b : Bool) → keeps (if b then record a { faults = number ∷ a.faults } else a) ≡ true
          go true = k
          go false = k

  fate_keep : (v : Volume) (i : ℕ) (test : Entry → Bool) (fate : Fate) → AllKeep v → OnSome AllKeep (with_fate v i test fate)
  fate_keep v i test fate h =
      on_map AllKeep (with_changed v i) (option_and_then (ends test fate) (numbered v.log i))
      (on_all (λ e. AllKeep (with_changed v i e)) (λ e. h) (option_and_then (ends test fate) (numbered v.log i)))

  closes : (v u : Volume) (a : Pending) → u.pending ≡ v.pending → AllKeep v → AllKeep (closed a u)
  closes v u a k h = all_filtered keeps (λ b. not (is_ask a.client a.op b)) u.pending (ap (list_all keeps) k ∙ h)

  -- an ask that comes
  comes_keep : (v : Volume) (d : ClientId) (ask : Ask) → IsLater v (kinds.Asked d ask) → AllKeep v → AllKeep (arrived v d ask)
  comes_keep v d ask l h = all_joined keeps v.pending (new_ask v d ask) h
      (or_left (not (is_ask c op (new_ask v d ask))) (is_any ok (new_ask v d ask).result) (ap not (other (d.0 == c.0) refl)))
    where
      n : ℕ
      n = length (filter (λ x. x.0.0 == d.0) v.asked)

      other : (b : Bool) → (d.0 == c.0) ≡ b → ((d.0 == c.0) && ((n + 1) == op)) ≡ false
      other false e = ap (λ b. b && ((n + 1) == op)) e
      other true e = ap (λ b. b && ((n + 1) == op)) e ∙ ne_eqb (n + 1) op (λ q. let y = l e in absurd (no y q))
        where
          no : op ≤ n → n + 1 ≡ op → ⊥
          no y q = omega (arith, y, q)

  -- an ask takes effect: it had no result
  module _ (v : Volume) (h : AllKeep v) (d : ClientId) (number : ℕ) (a : Pending) (found : find (is_ask d number) (v.pending ++ v.orphans) ≡ Some a)
      (none : is_some a.result ≡ false) where
    its : is_ask d number a ≡ true
    its = (found_at (is_ask d number) (v.pending ++ v.orphans) a found).0

    -- another ask than the one that has such a result
    apart : (b : Pending) → Has b v.pending → is_ask a.client a.op b ≡ true → is_ask c op b ≡ true → ⊥
    apart b i q k = clash (some_any ok a.result (by (is_ask c op a) mine (each_passes keeps v.pending h a there))) none
      where
        x : ((a.client.0 == d.0) ≡ true) × ((a.op == number) ≡ true)
        x = and_true (a.client.0 == d.0) (a.op == number) its

        y : ((b.client.0 == a.client.0) ≡ true) × ((b.op == a.op) ≡ true)
        y = and_true (b.client.0 == a.client.0) (b.op == a.op) q

        z : ((b.client.0 == c.0) ≡ true) × ((b.op == op) ≡ true)
        z = and_true (b.client.0 == c.0) (b.op == op) k

        there : Has a v.pending
        there =
            found_first (is_ask d number) v.pending v.orphans b a i
            (and_both (b.client.0 == d.0) (b.op == number)
            (eq-eqb b.client.0 d.0 (eqb-true b.client.0 a.client.0 y.0 ∙ eqb-true a.client.0 d.0 x.0))
            (eq-eqb b.op number (eqb-true b.op a.op y.1 ∙ eqb-true a.op number x.1))) found

        mine : is_ask c op a ≡ true
        mine =
            and_both (a.client.0 == c.0) (a.op == op)
            (eq-eqb a.client.0 c.0 (sym (eqb-true b.client.0 a.client.0 y.0) ∙ eqb-true b.client.0 c.0 z.0))
            (eq-eqb a.op op (sym (eqb-true b.op a.op y.1) ∙ eqb-true b.op op z.1))

        by : (t : Bool) → t ≡ true → (not t || is_any ok a.result) ≡ true → is_any ok a.result ≡ true
        by true e r = r
        by false e r = cc e

    one : (answer : AppAnswer) (b : Pending) → Has b v.pending → keeps (resulting a answer b) ≡ true
    one answer b i = go (is_ask a.client a.op b) refl
      where
        go : (t : Bool) → is_ask a.client a.op b ≡ t → keeps (if t then record b { result = Some answer } else b) ≡ true
        go false e = each_passes keeps v.pending h b i
        go true e = or_left (not (is_ask c op b)) (ok answer) (ap not (off (is_ask c op b) refl))
          where
            off : (t : Bool) → is_ask c op b ≡ t → is_ask c op b ≡ false
            off false r = r
            off true r = absurd (apart b i e r)

    done_keep : (y : Volume × AppAnswer) → Leaves v y → AllKeep (notice (done a y))
    done_keep (u, answer) k =
        noticed (done a (u, answer))
        (all_pass keeps (map (resulting a answer) u.pending)
        (λ b i. let z = has_map (resulting a answer) u.pending b i in ap keeps z.2 ∙ one answer z.0 (subst (Has z.0) k.pending z.1)))

    takes_keep : OnSome (λ u. AllKeep (notice u)) (option_map (done a) (effect v a.client a.ask))
    takes_keep = on_map (λ u. AllKeep (notice u)) (done a) (effect v a.client a.ask)
        (on_more (Leaves v) (λ y. AllKeep (notice (done a y))) done_keep (effect v a.client a.ask) (effect_keeps v a.client a.ask))

  effect_keep : (v : Volume) (d : ClientId) (number : ℕ) → AllKeep v → OnSome AllKeep (acts v (kinds.TakesEffect d number))
  effect_keep v d number h =
      on_map AllKeep notice (option_and_then (takes v) (find (is_ask d number) (v.pending ++ v.orphans)))
      (on_then (λ u. AllKeep (notice u)) (takes v) (find (is_ask d number) (v.pending ++ v.orphans))
      (go (find (is_ask d number) (v.pending ++ v.orphans)) refl))
    where
      go : (o : Option Pending) → find (is_ask d number) (v.pending ++ v.orphans) ≡ o → OnSome (λ a. OnSome (λ u. AllKeep (notice u)) (takes v a)) o
      go None q = tt
      go (Some a) q =
          on_false (λ u. AllKeep (notice u)) (is_some a.result || list_any (is_before a) v.pending) (option_map (done a) (effect v a.client a.ask))
          (λ e. takes_keep v h d number a q (or_both (is_some a.result) (list_any (is_before a) v.pending) e).0)

  acts_keep : (v : Volume) (it : VolumeStep) → IsLater v it → AllKeep v → OnSome AllKeep (acts v it)
  acts_keep v (kinds.Asked d ask) l h = on_if AllKeep _ (Some (notice (arrived v d ask))) (noticed (arrived v d ask) (comes_keep v d ask l h))
  acts_keep v (kinds.TakesEffect d number) l h = effect_keep v d number h
  acts_keep v (kinds.Answered d number answer) l h =
      on_then AllKeep (answered v answer) (find (is_ask d number) v.pending)
      (on_all (λ a. OnSome AllKeep (answered v answer a))
      (λ a. on_if AllKeep (answers_so v a answer a.result) (Some (closed a (after_answer v a answer)))
      (closes v (after_answer v a answer) a (after_keeps v a answer).pending h))
      (find (is_ask d number) v.pending))
  acts_keep v (kinds.Hardened i) l h = fate_keep v i (λ e. true) fates.Hard h
  acts_keep v (kinds.Dropped i cause) l h = fate_keep v i (is_cause cause) fates.Dropped h
  acts_keep v (kinds.Crashed d) l h = all_filtered keeps (λ a. not (is_of_client d a)) v.pending h
  acts_keep v (kinds.Restarted s) l h = h
  acts_keep v (kinds.WriteFailed d number i) l h =
      on_map AllKeep (failed v d number i) _
      (on_all (λ x. AllKeep (failed v d number i x))
      (λ x. failing_keep d number (is_sync_of x.0) (record v { log = failed_up_to i d number x v.log }) h) _)
  acts_keep v (kinds.ReadFailed d s number) l h = failing_keep d number (is_read_of s) v h
  acts_keep v (kinds.Joined i d what) l h = tt

  pub step_keep : (v : Volume) (it : VolumeStep) → IsLater v it → AllKeep v → OnSome AllKeep (volume.step v it)
  step_keep v (kinds.Joined i d what) l h = on_if AllKeep _ (Some (record v { lines = i })) h
  step_keep v (kinds.Asked d ask) l h = on_if AllKeep (v.lines == length v.log) (acts v (kinds.Asked d ask)) (acts_keep v (kinds.Asked d ask) l h)
  step_keep v (kinds.TakesEffect d number) l h =
      on_if AllKeep (v.lines == length v.log) (acts v (kinds.TakesEffect d number)) (acts_keep v (kinds.TakesEffect d number) l h)
  step_keep v (kinds.Answered d number answer) l h =
      on_if AllKeep (v.lines == length v.log) (acts v (kinds.Answered d number answer)) (acts_keep v (kinds.Answered d number answer) l h)
  step_keep v (kinds.Hardened i) l h = on_if AllKeep (v.lines == length v.log) (acts v (kinds.Hardened i)) (acts_keep v (kinds.Hardened i) l h)
  step_keep v (kinds.Dropped i cause) l h =
      on_if AllKeep (v.lines == length v.log) (acts v (kinds.Dropped i cause)) (acts_keep v (kinds.Dropped i cause) l h)
  step_keep v (kinds.Crashed d) l h = on_if AllKeep (v.lines == length v.log) (acts v (kinds.Crashed d)) (acts_keep v (kinds.Crashed d) l h)
  step_keep v (kinds.Restarted s) l h = on_if AllKeep (v.lines == length v.log) (acts v (kinds.Restarted s)) (acts_keep v (kinds.Restarted s) l h)
  step_keep v (kinds.WriteFailed d number i) l h =
      on_if AllKeep (v.lines == length v.log) (acts v (kinds.WriteFailed d number i)) (acts_keep v (kinds.WriteFailed d number i) l h)
  step_keep v (kinds.ReadFailed d s number) l h =
      on_if AllKeep (v.lines == length v.log) (acts v (kinds.ReadFailed d s number)) (acts_keep v (kinds.ReadFailed d s number) l h)

  other_later : (v : Volume) (it : VolumeStep) → is_other it ≡ true → IsLater v it
  other_later v (kinds.Asked d ask) q = cc
  other_later v it q = tt

  pub run_keep : (its : List VolumeStep) (v : Volume) → list_all is_other its ≡ true → AllKeep v → OnSome AllKeep (run its v)
  unfolding run
  run_keep [] v q h = h
  run_keep (it ∷ its) v q h =
      let b = and_true (is_other it) (list_all is_other its) q in
      on_then AllKeep (run its) (volume.step v it)
      (on_more AllKeep (λ u. OnSome AllKeep (run its u)) (λ u k. run_keep its u b.1 k) (volume.step v it) (step_keep v it (other_later v it b.0) h))

  -- what is seen of an event itself
  pub event_keep : (w : World) (e : Event) (v : Volume) → ((d : ClientId) → (d.0 == c.0) ≡ true → op ≤ length (filter (λ x. x.0.0 == d.0) v.asked)) →
      AllKeep v → OnSome AllKeep (run (of_event w e) v)
  unfolding of_event run
  event_keep w (events.App d ask) v l h = on_then AllKeep (run []) (volume.step v (kinds.Asked d ask)) (step_keep v (kinds.Asked d ask) (l d) h)
  event_keep w (events.Tick n) v l h = run_keep (of_event w (events.Tick n)) v (event_other w (events.Tick n) refl) h
  event_keep w (events.Deliver k) v l h = run_keep (of_event w (events.Deliver k)) v (event_other w (events.Deliver k) refl) h
  event_keep w (events.Lose k) v l h = run_keep (of_event w (events.Lose k)) v (event_other w (events.Lose k) refl) h
  event_keep w (events.Cut from to) v l h = run_keep (of_event w (events.Cut from to)) v (event_other w (events.Cut from to) refl) h
  event_keep w (events.Heal from to) v l h = run_keep (of_event w (events.Heal from to)) v (event_other w (events.Heal from to) refl) h
  event_keep w (events.Advance increments) v l h = run_keep (of_event w (events.Advance increments)) v (event_other w (events.Advance increments) refl) h
  event_keep w (events.Effect k) v l h = run_keep (of_event w (events.Effect k)) v (event_other w (events.Effect k) refl) h
  event_keep w (events.Report k fine) v l h = run_keep (of_event w (events.Report k fine)) v (event_other w (events.Report k fine) refl) h
  event_keep w (events.Crash n) v l h = run_keep (of_event w (events.Crash n)) v (event_other w (events.Crash n) refl) h
  event_keep w (events.Start n) v l h = run_keep (of_event w (events.Start n)) v (event_other w (events.Start n) refl) h
