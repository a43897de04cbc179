-- In every run each open ask and each orphaned one is what its client was asked under its number.
use Rattle.std.proofs.Common.{◌≡◌, ℕ, zero, suc, ◌+◌, Bool, true, false, not, ◌&&◌, ◌==◌, List, [], ◌∷◌, ◌++◌, length, map, Option, Some, None, refl, sym, ap, ◌∙◌, subst, inl, inr, if◌then◌else◌}
use Rattle.std.specs.Prelude.{filter, find, is_some, option_map, option_and_then}
use Rattle.std.specs.List.{cons_option, list_all}
use Rattle.std.proofs.lemmas.Bool.{eq-eqb}
use Rattle.st_base.specs.declared.config.Config.{Config}
use Rattle.st_base.specs.declared.ids.ClientId.{ClientId}
use Rattle.st_base.specs.declared.ids.ServerId.{ServerId}
use Rattle.st_base.specs.declared.ids.FileId.{FileId}
use Rattle.st_base.specs.declared.ids.PageNo.{PageNo}
use Rattle.st_messages.specs.declared.answer.AppAnswer.{AppAnswer}
use Rattle.st_messages.specs.declared.answer.AppAnswer.TheVariants as answers
use Rattle.st_messages.specs.declared.ask.Ask.{Ask}
use Rattle.st_messages.specs.declared.ask.Ask.TheVariants as asks
use Rattle.st_messages.specs.declared.event.Event.{Event}
use Rattle.st_messages.specs.declared.event.Event.TheVariants as events
use Rattle.st_rules.specs.History.{Traced, traced}
use Rattle.st_rules.specs.Safety.{Promise, Step, Throughout, ask_in, ask_of_client, step, steps}
use Rattle.st_rules.specs.World as world
use Rattle.st_rules.specs.World.{World, fresh_world}
use Rattle.st_lemmas.specs.Lists.{Has}
use Rattle.st_lemmas.proofs.Numbers.{get_last, length_more, numbered_old}
use Rattle.st_lemmas.proofs.Tables.{and_true, found_at}
use Rattle.st_lemmas.proofs.Truth.{eqb_turned}
use Rattle.st_laws_pages.proofs.Asks.World.{asks_more, asks_of}
use Rattle.st_laws_volume.specs.AskedAsks.{AllAsAsked, AsksAreAsAsked}
use Rattle.st_laws_volume.specs.Logs.{InEveryRun}
use Rattle.st_laws_volume.specs.Options.{OnSome}
use Rattle.st_laws_volume.specs.Seen.{of_event}
use Rattle.st_laws_volume.specs.Witness.{Witness, begun, if_told, led_by, of_delivery, of_lines, steps_of, volume_after}
use Rattle.st_laws_volume.proofs.AsksTaken.{all_other, event_other, is_app, is_other}
use Rattle.st_laws_volume.proofs.Carried.{IsKept, Led, carried}
use Rattle.st_laws_volume.proofs.LogLines.{run_then, suc_is}
use Rattle.st_laws_volume.proofs.Options.{on_all, on_else, on_if, on_map, on_more, on_then}
use Rattle.st_laws_volume.proofs.ReadPages.{throughout_more}
use Rattle.st_laws_volume.proofs.StepKinds.{both_inside, delivery_inside, lines_inside}
use Rattle.st_volume.specs.declared.step.VolumeStep.{VolumeStep}
use Rattle.st_volume.specs.declared.step.VolumeStep.TheVariants as kinds
use Rattle.st_volume.specs.declared.step.Fate.{Fate}
use Rattle.st_volume.specs.declared.step.Fate.TheVariants as fates
use Rattle.st_volume.specs.Pages.{Entry, failed_up_to, is_cause}
use Rattle.st_volume.specs.Trees.{Made}
use Rattle.st_volume.specs.Volume as volume
use Rattle.st_volume.specs.Volume.{Volume, Pending, acts, after_answer, answered, arrived, closed, crashed, cuts, cuts_removed, done, effect, ends, entry, failed, failing, fails, freed, is_cut_or_name, is_of_client, is_read_of, is_sync_of, made, new_ask, notice, noticing, numbered, open_of, orphaned, resulting, run, takes, with_changed, with_entry, with_fate, with_tree}

-- What each client was asked, in order; and an ask of the volume that is one of these.
abbrev pub Asked : Type 0
Asked = ClientId → List Ask

abbrev pub IsOf : Asked → Pending → Type 0
IsOf as_ a = world.numbered (as_ a.client) a.op ≡ Some a.ask

abbrev pub AllOf : Asked → List Pending → Type 0
AllOf as_ [] = Unit {0}
AllOf as_ (a ∷ xs) = IsOf as_ a × AllOf as_ xs

-- how often a client was asked
abbrev times : ClientId → Volume → ℕ
times c v = length (filter (λ x. x.0.0 == c.0) v.asked)

pub record AreOf (as_ : Asked) (v : Volume) : Type 0 where
  pub count : (c : ClientId) → times c v ≡ length (as_ c)
  pub pending : AllOf as_ v.pending
  pub orphans : AllOf as_ v.orphans

-- Lists of asks.
all_filter : (as_ : Asked) (test : Pending → Bool) (xs : List Pending) → AllOf as_ xs → AllOf as_ (filter test xs)
all_filter as_ test [] h = tt
all_filter as_ test (a ∷ xs) h = go (test a) (all_filter as_ test xs h.1)
  where
    go : (b : Bool) → AllOf as_ (filter test xs) → AllOf as_ (if b then a ∷ filter test xs else filter test xs)
    go true r = (h.0, r)
    go false r = r

pub all_both : (as_ : Asked) (xs ys : List Pending) → AllOf as_ xs → AllOf as_ ys → AllOf as_ (xs ++ ys)
all_both as_ [] ys h k = k
all_both as_ (a ∷ xs) ys h k = (h.0, all_both as_ xs ys h.1 k)

pub all_has : (as_ : Asked) (xs : List Pending) (a : Pending) → AllOf as_ xs → Has a xs → IsOf as_ a
all_has as_ [] a h i = absurd i
all_has as_ (x ∷ xs) a h (inl e) = subst (IsOf as_) (sym e) h.0
all_has as_ (x ∷ xs) a h (inr i) = all_has as_ xs a h.1 i

all_map : (as_ : Asked) (f : Pending → Pending) → ((a : Pending) → IsOf as_ a → IsOf as_ (f a)) → (xs : List Pending) → AllOf as_ xs → AllOf as_ (map f xs)
all_map as_ f k [] h = tt
all_map as_ f k (a ∷ xs) h = (k a h.0, all_map as_ f k xs h.1)

-- Effects leave the asks.
pub record Same (v u : Volume) : Type 0 where
  pub asked : u.asked ≡ v.asked
  pub pending : u.pending ≡ v.pending
  pub orphans : u.orphans ≡ v.orphans

abbrev pub Leaves : Volume → Volume × AppAnswer → Type 0
Leaves v r = Same v r.0

joins : (v : Volume) (f : FileId) (e : Entry) → OnSome (Same v) (with_entry v f e)
joins v f e = on_if (Same v) _ (Some (record v { log = v.log ++ e ∷ [] })) (record { asked = refl; pending = refl; orphans = refl })

cut_leaves : (v : Volume) (c : ClientId) (f : FileId) (p : PageNo) → OnSome (Same v) (cuts v c f p)
cut_leaves v c f p =
    on_if (Same v) _ (Some (record v { claims = freed v (asks.Cut f p); log = v.log ++ entry c (asks.Cut f p) fates.Hard ∷ [] }))
    (record { asked = refl; pending = refl; orphans = refl })

removal_leaves : (v : Volume) (c : ClientId) (s : ServerId) (removed : Option ℕ) → OnSome (Same v) (cuts_removed v c s removed)
removal_leaves v c s None = record { asked = refl; pending = refl; orphans = refl }
removal_leaves v c s (Some ino) = cut_leaves v c (record { server = s; ino = ino }) (record { 0 = 0 })

result_leaves : (v : Volume) (answer : AppAnswer) (o : Option Volume) → OnSome (Same v) o → OnSome (Leaves v) (option_map (λ w. (w, answer)) o)
result_leaves v answer o h = on_map (Leaves v) (λ w. (w, answer)) o h

made_leaves : (v : Volume) (c : ClientId) (s : ServerId) (m : Made) → OnSome (Leaves v) (made v c s m)
made_leaves v c s (t, (answer, removed)) =
    result_leaves v answer _
    (on_map (Same v) (with_tree s t) (cuts_removed v c s removed)
    (on_more (Same v) (λ w. Same v (with_tree s t w)) (λ w k. record { asked = k.asked; pending = k.pending; orphans = k.orphans }) (cuts_removed v c s removed)
    (removal_leaves v c s removed)))

pub effect_leaves : (v : Volume) (c : ClientId) (ask : Ask) → OnSome (Leaves v) (effect v c ask)
effect_leaves v c (asks.Write f p bytes) = result_leaves v answers.Written _ (joins v f (entry c (asks.Write f p bytes) fates.Open))
effect_leaves v c (asks.Patch f p at bytes) = result_leaves v answers.Written _ (joins v f (entry c (asks.Patch f p at bytes) fates.Open))
effect_leaves v c (asks.Read f p) = tt
effect_leaves v c (asks.Sync f) = tt
effect_leaves v c (asks.Cut f p) = result_leaves v answers.Cut _ (cut_leaves v c f p)
effect_leaves v c (asks.Name s ask) = on_then (Leaves v) (made v c s) _ (on_all _ (λ m. made_leaves v c s m) _)

-- Steps other than asks.
module _ (as_ : Asked) where
  abbrev R : Volume → Type 0
  R v = AreOf as_ v

  noticed : (v : Volume) → R v → R (notice v)
  noticed v h = record { count = h.count; pending = all_map as_ (noticing v) (λ a k. k) v.pending h.pending; orphans = h.orphans }

  resulted : (a : Pending) (answer : AppAnswer) (b : Pending) → IsOf as_ b → IsOf as_ (resulting a answer b)
  resulted a answer b h = go (volume.is_ask a.client a.op b)
    where
      go : (t : Bool) → IsOf as_ (if t then record b { result = Some answer } else b)
      go true = h
      go false = h

  same_asks : (v u : Volume) → Same v u → R v → R u
  same_asks v u k h =
      record {
        count = λ c. ap (λ xs. length (filter (λ (x : ClientId × FileId). x.0.0 == c.0) xs)) k.asked ∙ h.count c;
        pending = subst (AllOf as_) (sym k.pending) h.pending;
        orphans = subst (AllOf as_) (sym k.orphans) h.orphans;
      }

  done_right : (v : Volume) (a : Pending) (r : Volume × AppAnswer) → Leaves v r → R v → R (done a r)
  done_right v a (u, answer) k h =
      let g = same_asks v u k h in
      record {
        count = g.count;
        pending = all_map as_ (resulting a answer) (resulted a answer) u.pending g.pending;
        orphans = all_filter as_ (λ b. not (is_of_client a.client b && volume.is_ask_at (volume.server_of a.ask) b)) u.orphans g.orphans;
      }

  takes_right : (v : Volume) (a : Pending) → R v → OnSome R (takes v a)
  takes_right v a h =
      on_else R _ _
      (on_map R (done a) (effect v a.client a.ask)
      (on_more (Leaves v) (λ r. R (done a r)) (λ r k. done_right v a r k h) (effect v a.client a.ask) (effect_leaves v a.client a.ask)))

  orphan_right : (v : Volume) (a : Pending) (old : ℕ) → IsOf as_ a → AllOf as_ (orphaned v a old)
  orphan_right v a old h = go _
    where
      go : (b : Bool) → AllOf as_ (if b then [] else a ∷ [])
      go true = tt
      go false = (h, tt)

  answer_right : (v : Volume) (a : Pending) (answer : AppAnswer) → IsOf as_ a → R v → R (after_answer v a answer)
  answer_right v a answers.Hard i h = record { count = h.count; pending = h.pending; orphans = h.orphans }
  answer_right v a (answers.Lost rows) i h = record { count = h.count; pending = h.pending; orphans = h.orphans }
  answer_right v a (answers.Read bytes) i h =
      record {
        count = h.count;
        pending = h.pending;
        orphans =
            all_filter as_ (λ b. not (is_of_client a.client b && volume.is_ask_at (volume.server_of a.ask) b)) v.orphans h.orphans;
      }
  answer_right v a (answers.Uncertain old zero) i h =
      record { count = h.count; pending = h.pending; orphans = all_both as_ v.orphans (orphaned v a old) h.orphans (orphan_right v a old i) }
  answer_right v a (answers.Uncertain old (suc new)) i h = h
  answer_right v a answers.Written i h = h
  answer_right v a answers.Cut i h = h
  answer_right v a answers.Quiesced i h = h
  answer_right v a answers.NoFile i h = h
  answer_right v a (answers.NoSpace n m) i h = h
  answer_right v a (answers.DiskFault n) i h = h
  answer_right v a answers.OpsFull i h = h
  answer_right v a answers.DirtyFull i h = h
  answer_right v a answers.NotHolder i h = h
  answer_right v a answers.TooManyLocks i h = h
  answer_right v a (answers.Named ino) i h = h
  answer_right v a (answers.Listed rows) i h = h
  answer_right v a (answers.Refused code) i h = h

  closed_right : (v : Volume) (a : Pending) → R v → R (closed a v)
  closed_right v a h = record { count = h.count; pending = all_filter as_ (λ b. not (volume.is_ask a.client a.op b)) v.pending h.pending; orphans = h.orphans }

  answered_right : (d : ClientId) (op : ℕ) (answer : AppAnswer) (v : Volume) → R v →
      OnSome R (option_and_then (answered v answer) (find (volume.is_ask d op) v.pending))
  answered_right d op answer v h = go (find (volume.is_ask d op) v.pending) refl
    where
      go : (o : Option Pending) → find (volume.is_ask d op) v.pending ≡ o → OnSome R (option_and_then (answered v answer) o)
      go None q = tt
      go (Some a) q =
          on_if R _ (Some (closed a (after_answer v a answer)))
          (closed_right (after_answer v a answer) a
          (answer_right v a answer (all_has as_ v.pending a h.pending (found_at (volume.is_ask d op) v.pending a q).1) h))

  failed_right : (d : ClientId) (number : ℕ) (test : Ask → Bool) (v : Volume) → R v → R (failing v d number test)
  failed_right d number test v h = record { count = h.count; pending = all_map as_ (fails d number test) one v.pending h.pending; orphans = h.orphans }
    where
      one : (a : Pending) → IsOf as_ a → IsOf as_ (fails d number test a)
      one a k = go (is_of_client d a && test a.ask)
        where
          go : (t : Bool) → IsOf as_ (if t then record a { faults = number ∷ a.faults } else a)
          go true = k
          go false = k

  fate_right : (v : Volume) (i : ℕ) (test : Entry → Bool) (fate : Fate) → R v → OnSome R (with_fate v i test fate)
  fate_right v i test fate h =
      on_map R (with_changed v i) (option_and_then (ends test fate) (numbered v.log i))
      (on_all (λ e. R (with_changed v i e)) (λ e. record { count = h.count; pending = h.pending; orphans = h.orphans })
      (option_and_then (ends test fate) (numbered v.log i)))

  crash_right : (d : ClientId) (v : Volume) → R v → R (crashed v d)
  crash_right d v h =
      record {
        count = h.count;
        pending = all_filter as_ (λ a. not (is_of_client d a)) v.pending h.pending;
        orphans =
            all_both as_ v.orphans (filter (λ a. is_cut_or_name a.ask && not (is_some a.result)) (open_of v d)) h.orphans
            (all_filter as_ (λ a. is_cut_or_name a.ask && not (is_some a.result)) (open_of v d) (all_filter as_ (is_of_client d) v.pending h.pending));
      }

  acts_right : (v : Volume) (it : VolumeStep) → is_other it ≡ true → R v → OnSome R (acts v it)
  acts_right v (kinds.Asked d ask) q h = cc
  acts_right v (kinds.TakesEffect d op) q h =
      on_map R notice (option_and_then (takes v) (find (volume.is_ask d op) (v.pending ++ v.orphans)))
      (on_then (λ u. R (notice u)) (takes v) (find (volume.is_ask d op) (v.pending ++ v.orphans))
      (on_all (λ a. OnSome (λ u. R (notice u)) (takes v a)) (λ a. on_more R (λ u. R (notice u)) (λ u k. noticed u k) (takes v a) (takes_right v a h))
      (find (volume.is_ask d op) (v.pending ++ v.orphans))))
  acts_right v (kinds.Answered d op answer) q h = answered_right d op answer v h
  acts_right v (kinds.Hardened i) q h = fate_right v i (λ e. true) fates.Hard h
  acts_right v (kinds.Dropped i cause) q h = fate_right v i (is_cause cause) fates.Dropped h
  acts_right v (kinds.Crashed d) q h = crash_right d v h
  acts_right v (kinds.Restarted s) q h =
      record { count = h.count; pending = h.pending; orphans = all_filter as_ (λ a. not (volume.is_ask_at s a)) v.orphans h.orphans }
  acts_right v (kinds.WriteFailed d number i) q h =
      on_map R (failed v d number i) _
      (on_all (λ x. R (failed v d number i x))
      (λ x. failed_right d number (is_sync_of x.0) (record v { log = failed_up_to i d number x v.log })
      (record { count = h.count; pending = h.pending; orphans = h.orphans })) _)
  acts_right v (kinds.ReadFailed d s number) q h = failed_right d number (is_read_of s) v h
  acts_right v (kinds.Joined i d what) q h = tt

  pub step_right : (v : Volume) (it : VolumeStep) → is_other it ≡ true → R v → OnSome R (volume.step v it)
  step_right v (kinds.Joined i d what) q h = on_if R _ (Some (record v { lines = i })) (record { count = h.count; pending = h.pending; orphans = h.orphans })
  step_right v (kinds.Asked d ask) q h = cc
  step_right v (kinds.TakesEffect d op) q h = on_if R (v.lines == length v.log) (acts v (kinds.TakesEffect d op)) (acts_right v (kinds.TakesEffect d op) q h)
  step_right v (kinds.Answered d op answer) q h =
      on_if R (v.lines == length v.log) (acts v (kinds.Answered d op answer)) (acts_right v (kinds.Answered d op answer) q h)
  step_right v (kinds.Hardened i) q h = on_if R (v.lines == length v.log) (acts v (kinds.Hardened i)) (acts_right v (kinds.Hardened i) q h)
  step_right v (kinds.Dropped i cause) q h = on_if R (v.lines == length v.log) (acts v (kinds.Dropped i cause)) (acts_right v (kinds.Dropped i cause) q h)
  step_right v (kinds.Crashed d) q h = on_if R (v.lines == length v.log) (acts v (kinds.Crashed d)) (acts_right v (kinds.Crashed d) q h)
  step_right v (kinds.Restarted s) q h = on_if R (v.lines == length v.log) (acts v (kinds.Restarted s)) (acts_right v (kinds.Restarted s) q h)
  step_right v (kinds.WriteFailed d number i) q h =
      on_if R (v.lines == length v.log) (acts v (kinds.WriteFailed d number i)) (acts_right v (kinds.WriteFailed d number i) q h)
  step_right v (kinds.ReadFailed d s number) q h =
      on_if R (v.lines == length v.log) (acts v (kinds.ReadFailed d s number)) (acts_right v (kinds.ReadFailed d s number) q h)

  pub run_right : (its : List VolumeStep) (v : Volume) → list_all is_other its ≡ true → R v → OnSome R (run its v)
  unfolding run
  run_right [] v q h = h
  run_right (it ∷ its) v q h =
      let b = and_true (is_other it) (list_all is_other its) q in
      on_then R (run its) (volume.step v it) (on_more R (λ u. OnSome R (run its u)) (λ u k. run_right its u b.1 k) (volume.step v it) (step_right v it b.0 h))

-- An ask that comes is its client's next one.
num_more : (xs : List Ask) (o : Option Ask) (n : ℕ) (a : Ask) → world.numbered xs n ≡ Some a → world.numbered (xs ++ cons_option o []) n ≡ Some a
num_more xs (Some x) n a h = numbered_old xs x n a h
num_more xs None n a h = subst (λ ys. world.numbered ys n ≡ Some a) (sym (none xs)) h
  where
    none : (ys : List Ask) → ys ++ [] ≡ ys
    none [] = refl
    none (y ∷ ys) = ap (λ zs. y ∷ zs) (none ys)

all_more : (as_ bs : Asked) → ((a : Pending) → IsOf as_ a → IsOf bs a) → (xs : List Pending) → AllOf as_ xs → AllOf bs xs
all_more as_ bs k [] h = tt
all_more as_ bs k (a ∷ xs) h = (k a h.0, all_more as_ bs k xs h.1)

-- what clients were asked after one more event
abbrev pub asked_after : Asked → Event → Asked
asked_after as_ e c = as_ c ++ cons_option (ask_in c e) []

module _ (as_ : Asked) (v : Volume) (h : AreOf as_ v) where
  pub other_asked : (e : Event) → ((c : ClientId) → ask_in c e ≡ None) → AreOf (asked_after as_ e) v
  other_asked e n =
      record {
        count = λ c. h.count c ∙ ap (λ (xs : List Ask). length xs) (sym (ap (λ o. as_ c ++ cons_option o []) (n c) ∙ none (as_ c)));
        pending = all_more as_ (asked_after as_ e) (λ a k. num_more (as_ a.client) (ask_in a.client e) a.op a.ask k) v.pending h.pending;
        orphans = all_more as_ (asked_after as_ e) (λ a k. num_more (as_ a.client) (ask_in a.client e) a.op a.ask k) v.orphans h.orphans;
      }
    where
      none : (ys : List Ask) → ys ++ [] ≡ ys
      none [] = refl
      none (y ∷ ys) = ap (λ zs. y ∷ zs) (none ys)

  module _ (c : ClientId) (ask : Ask) where
    abbrev bs : Asked
    bs = asked_after as_ (events.App c ask)

    one_more : (d : ClientId) → times d (arrived v c ask) ≡ length (bs d)
    unfolding ask_of_client
    one_more d = go (d.0 == c.0) (eqb_turned d.0 c.0)
      where
        go : (b : Bool) → b ≡ (c.0 == d.0) →
            length
            (if c.0 == d.0 then (c, volume.file_of ask) ∷
            filter (λ (x : ClientId × FileId). x.0.0 == d.0) v.asked else filter (λ (x : ClientId × FileId). x.0.0 == d.0) v.asked) ≡
            length (as_ d ++ cons_option (if b then Some ask else None) [])
        go true e =
            ap (λ b. length
            (if b then (c, volume.file_of ask) ∷ filter (λ (x : ClientId × FileId). x.0.0 == d.0) v.asked else filter
            (λ (x : ClientId × FileId). x.0.0 == d.0) v.asked)) (sym e)
            ∙ (ap suc (h.count d) ∙ sym (length_more (as_ d) ask))
        go false e =
            ap (λ b. length
            (if b then (c, volume.file_of ask) ∷ filter (λ (x : ClientId × FileId). x.0.0 == d.0) v.asked else filter
            (λ (x : ClientId × FileId). x.0.0 == d.0) v.asked)) (sym e)
            ∙ (h.count d ∙ ap (λ (xs : List Ask). length xs) (sym (none (as_ d))))
          where
            none : (ys : List Ask) → ys ++ [] ≡ ys
            none [] = refl
            none (y ∷ ys) = ap (λ zs. y ∷ zs) (none ys)

    own : IsOf bs (new_ask v c ask)
    unfolding ask_of_client
    own =
        ap (λ n. world.numbered (bs c) n) (suc_is (times c v) ∙ ap suc (h.count c))
        ∙ go (c.0 == c.0) (eq-eqb c.0 c.0 refl)
      where
        go : (b : Bool) → b ≡ true → world.numbered (as_ c ++ cons_option (if b then Some ask else None) []) (suc (length (as_ c))) ≡ Some ask
        go true e = get_last (as_ c) ask
        go false e = cc

    pub asked_right : OnSome (AreOf bs) (volume.step v (kinds.Asked c ask))
    asked_right = on_if (AreOf bs) (v.lines == length v.log) (acts v (kinds.Asked c ask))
        (on_if (AreOf bs) _ (Some (notice (arrived v c ask))) (noticed bs (arrived v c ask) there))
      where
        there : AreOf bs (arrived v c ask)
        there =
            record {
              count = one_more;
              pending = all_both bs v.pending (new_ask v c ask ∷ [])
                  (all_more as_ bs (λ a k. num_more (as_ a.client) (ask_in a.client (events.App c ask)) a.op a.ask k) v.pending h.pending) (own, tt);
              orphans = all_more as_ bs (λ a k. num_more (as_ a.client) (ask_in a.client (events.App c ask)) a.op a.ask k) v.orphans h.orphans;
            }

-- What is seen of an event leaves the asks of the volume as asked.
none_asked : (e : Event) → is_app e ≡ false → (c : ClientId) → ask_in c e ≡ None
none_asked (events.App d ask) q c = cc
none_asked (events.Tick n) q c = refl
none_asked (events.Deliver k) q c = refl
none_asked (events.Lose k) q c = refl
none_asked (events.Cut from to) q c = refl
none_asked (events.Heal from to) q c = refl
none_asked (events.Advance increments) q c = refl
none_asked (events.Effect k) q c = refl
none_asked (events.Report k ok) q c = refl
none_asked (events.Crash n) q c = refl
none_asked (events.Start n) q c = refl

plain_right : (as_ : Asked) (w : World) (e : Event) → is_app e ≡ false → (v : Volume) → AreOf as_ v → OnSome (AreOf (asked_after as_ e)) (run (of_event w e) v)
plain_right as_ w e q v h = run_right (asked_after as_ e) (of_event w e) v (event_other w e q) (other_asked as_ v h e (none_asked e q))

pub event_right : (as_ : Asked) (w : World) (e : Event) (v : Volume) → AreOf as_ v → OnSome (AreOf (asked_after as_ e)) (run (of_event w e) v)
unfolding of_event run
event_right as_ w (events.App c ask) v h =
    on_then (AreOf (asked_after as_ (events.App c ask))) (run []) (volume.step v (kinds.Asked c ask)) (asked_right as_ v h c ask)
event_right as_ w (events.Tick n) v h = plain_right as_ w (events.Tick n) refl v h
event_right as_ w (events.Deliver k) v h = plain_right as_ w (events.Deliver k) refl v h
event_right as_ w (events.Lose k) v h = plain_right as_ w (events.Lose k) refl v h
event_right as_ w (events.Cut from to) v h = plain_right as_ w (events.Cut from to) refl v h
event_right as_ w (events.Heal from to) v h = plain_right as_ w (events.Heal from to) refl v h
event_right as_ w (events.Advance increments) v h = plain_right as_ w (events.Advance increments) refl v h
event_right as_ w (events.Effect k) v h = plain_right as_ w (events.Effect k) refl v h
event_right as_ w (events.Report k ok) v h = plain_right as_ w (events.Report k ok) refl v h
event_right as_ w (events.Crash n) v h = plain_right as_ w (events.Crash n) refl v h
event_right as_ w (events.Start n) v h = plain_right as_ w (events.Start n) refl v h

-- In every run.
pub moved : (as_ bs : Asked) → ((c : ClientId) → bs c ≡ as_ c) → (v : Volume) → AreOf as_ v → AreOf bs v
moved as_ bs q v h =
    record {
      count = λ c. h.count c ∙ ap (λ (xs : List Ask). length xs) (sym (q c));
      pending = all_more as_ bs (λ a k. ap (λ xs. world.numbered xs a.op) (q a.client) ∙ k) v.pending h.pending;
      orphans = all_more as_ bs (λ a k. ap (λ xs. world.numbered xs a.op) (q a.client) ∙ k) v.orphans h.orphans;
    }

after_right : (past : List Step) (t : Witness) (x : Step) (o : Option Volume) → OnSome (AreOf (asks_of past)) o →
    OnSome (AreOf (asks_of (past ++ x ∷ []))) (volume_after t x o)
after_right past t x None h = tt
after_right past t x (Some v) h =
    let w = x.before.world in
    let bs : Asked = asked_after (asks_of past) x.event in
    let rest = of_delivery t.behind v w x.event ++ of_lines w x.seen in
    let inside = both_inside (of_delivery t.behind v w x.event) (of_lines w x.seen) (delivery_inside t.behind v w x.event) (lines_inside w x.seen) in
    on_then (AreOf (asks_of (past ++ x ∷ []))) if_told (run (steps_of t v x) v)
    (on_more (AreOf bs) (λ u. OnSome (AreOf (asks_of (past ++ x ∷ []))) (if_told u))
    (λ u k. on_if (AreOf (asks_of (past ++ x ∷ []))) (u.lines == length u.log) (Some u) (moved bs (asks_of (past ++ x ∷ [])) (λ c. asks_more past x c) u k))
    (run (steps_of t v x) v)
    (run_then (AreOf bs) (of_event w x.event) rest v
    (on_more (AreOf bs) (λ u. OnSome (AreOf bs) (run rest u)) (λ u k. run_right bs rest u (all_other rest inside) k) (run (of_event w x.event) v)
    (event_right (asks_of past) w x.event v h))))

abbrev pub RightHold : List Step → Traced → Witness → Type 0
RightHold past t it = OnSome (AreOf (asks_of past)) it.volume

abbrev pub Nothing : Promise
Nothing past x = Unit {0}

pub right_kept : IsKept Nothing RightHold
unfolding led_by
right_kept past t e sc it f g h = after_right past it (step t e sc) it.volume h

as_asked : (past : List Step) (x : Step) (xs : List Pending) → AllOf (asks_of (past ++ x ∷ [])) xs → AllAsAsked past x xs
as_asked past x [] h = tt
as_asked past x (a ∷ xs) h = (h.0, as_asked past x xs h.1)

given_nothing : (past xs : List Step) → Throughout Nothing past xs
unfolding Throughout
given_nothing past [] = tt
given_nothing past (x ∷ xs) = (tt, given_nothing (past ++ x ∷ []) xs)

pub right_begins : (k : Config) (clients servers disks blocks form : ℕ) →
    RightHold [] (traced (fresh_world k clients servers disks blocks form))
    (begun (fresh_world k clients servers disks blocks form) (fresh_world k clients servers disks blocks form))
unfolding begun
right_begins k clients servers disks blocks form = record { count = λ c. refl; pending = tt; orphans = tt }

pub asks_are_as_asked : InEveryRun AsksAreAsAsked
asks_are_as_asked k clients servers disks blocks form es head events =
    let t : Traced = traced (fresh_world k clients servers disks blocks form) in
    throughout_more (Led RightHold) AsksAreAsAsked
    (λ past x h. on_more (AreOf (asks_of (past ++ x ∷ []))) (λ v. AllAsAsked past x (v.pending ++ v.orphans))
    (λ v r. as_asked past x (v.pending ++ v.orphans) (all_both (asks_of (past ++ x ∷ [])) v.pending v.orphans r.pending r.orphans)) _ h) [] (steps es t)
    (carried Nothing RightHold right_kept es t (right_begins k clients servers disks blocks form) (given_nothing [] (steps es t)))
