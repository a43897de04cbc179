-- In every run entries that are marked as crashed are of lives that are over.
use Rattle.std.proofs.Common.{◌≡◌, ◌<◌, ◌⊎◌, ℕ, zero, suc, Bool, true, false, ◌&&◌, ◌||◌, ◌==◌, List, [], ◌∷◌, ◌++◌, length, map, Option, Some, None, Ok, refl, sym, ap, ◌∙◌, subst, inl, inr, arith, if◌then◌else◌}
use Rattle.std.specs.Prelude.{find, option_map, option_and_then, set, slice_get}
use Rattle.std.specs.List.{list_all, list_any}
use Rattle.std.proofs.lemmas.Bool.{eq-eqb, eqb-true}
use Rattle.st_base.specs.declared.config.Config.{Config}
use Rattle.st_base.specs.declared.ids.ClientId.{ClientId}
use Rattle.st_base.specs.declared.ids.FileId.{FileId}
use Rattle.st_base.specs.declared.ids.Life.{Life}
use Rattle.st_base.specs.declared.ids.NodeId.TheVariants as nodes
use Rattle.st_base.specs.declared.ids.PageNo.{PageNo}
use Rattle.st_base.specs.declared.ids.ServerId.{ServerId}
use Rattle.st_messages.specs.declared.answer.AppAnswer.{AppAnswer}
use Rattle.st_messages.specs.declared.answer.AppAnswer.TheVariants as answers
use Rattle.st_messages.specs.declared.ask.Ask.{Ask}
use Rattle.st_messages.specs.declared.ask.Ask.TheVariants as asks
use Rattle.st_messages.specs.declared.event.Event.{Event}
use Rattle.st_messages.specs.declared.event.Event.TheVariants as events
use Rattle.st_rules.specs.declared.log.LogEntry.{LogEntry}
use Rattle.st_rules.specs.declared.log.LogOwner.{LogOwner}
use Rattle.st_rules.specs.declared.world.Carried.{Carried}
use Rattle.st_rules.specs.declared.world.IssuedCommand.{IssuedCommand}
use Rattle.st_rules.specs.declared.world.LeaseLife.{LeaseLife}
use Rattle.st_rules.specs.Client as cl
use Rattle.st_rules.specs.ClientState.{Association, is_at}
use Rattle.st_rules.specs.Events as ev
use Rattle.st_rules.specs.Events.{WorldTurn, is_change, is_of_life_over, world_step}
use Rattle.st_rules.specs.History.{Traced, traced}
use Rattle.st_rules.specs.Keys.{same_client, same_server}
use Rattle.st_rules.specs.Safety.{ChangesAreLocked, Promise, Step, TheReportTellsTheLog, step}
use Rattle.st_rules.specs.Safety as safety
use Rattle.st_rules.specs.World as world
use Rattle.st_rules.specs.World.{World, WorldClient, fresh_world, numbered, site_of}
use Rattle.st_promises.specs.Safe.{EveryRunIsSafe, IsSafeRun}
use Rattle.st_lemmas.specs.Lists.{Has}
use Rattle.st_lemmas.proofs.Lookups.{or_left, or_right, some_is}
use Rattle.st_lemmas.proofs.Numbers.{numbered_own}
use Rattle.st_lemmas.proofs.Steps.{step_happens}
use Rattle.st_lemmas.proofs.Tables.{and_both, and_true, found_at, has_map_in, some_passes}
use Rattle.st_lemmas.proofs.Truth.{clash, none_not_some}
use Rattle.st_laws_steps.specs.Lives.Lives.{IsKnown, LivesHold, owner_of}
use Rattle.st_laws_pages.specs.Disks.Obligations.{FatesHold}
use Rattle.st_laws_pages.proofs.Disks.Whole.{fates_law, fresh_fates}
use Rattle.st_laws_pages.proofs.Lives.NodeTurns.{row_is}
use Rattle.st_laws_volume.specs.FateMarks.{ArePast, CrashedEntriesArePast, IsPast}
use Rattle.st_laws_volume.specs.Logs.{AreSame, InEveryRun, IsLogOf}
use Rattle.st_laws_volume.specs.Options.{OnSome}
use Rattle.st_laws_volume.specs.Seen.{failure, failure_of, failure_told, of_event}
use Rattle.st_laws_volume.specs.Witness.{Witness, begun, if_told, led_by, led_to, of_delivery, of_lines, steps_of, volume_after}
use Rattle.st_laws_volume.proofs.Carried.{IsKept, Led, carried}
use Rattle.st_laws_volume.proofs.FateCrashes.{Adds, Grown, event_adds, grown_self, lines_grown}
use Rattle.st_laws_volume.proofs.LogLines.{numbered_suc}
use Rattle.st_laws_volume.proofs.Logs.{LogHolds, log_begins, log_kept}
use Rattle.st_laws_volume.proofs.Options.{on_all, on_else, on_if, on_map, on_more, on_then}
use Rattle.st_laws_volume.proofs.ReadPages.{throughout_both, throughout_more}
use Rattle.st_laws_volume.proofs.StepKinds.{both_inside, delivery_inside, is_inside, lines_inside}
use Rattle.st_volume.specs.declared.step.VolumeStep.{VolumeStep}
use Rattle.st_volume.specs.declared.step.VolumeStep.TheVariants as steps
use Rattle.st_volume.specs.declared.step.Fate.{Fate}
use Rattle.st_volume.specs.declared.step.Fate.TheVariants as fates
use Rattle.st_volume.specs.Pages.{Entry, failed_up_to, is_by, is_by_at, is_cause, is_open}
use Rattle.st_volume.specs.Trees.{Made}
use Rattle.st_volume.specs.Volume as volume
use Rattle.st_volume.specs.Volume.{Volume, Pending, acts, after_answer, answered, answers_so, arrived, closed, crash_of, crashed, cuts, cuts_removed, done, effect, ends, entry, failed, file_of, freed, is_ask, is_told, made, notice, run, takes, with_changed, with_entry, with_fate, with_tree}

-- An entry that is marked was so before; one that joined isn't.
abbrev Came : List Entry → List Entry → Type 0
Came [] [] = Unit {0}
Came [] (f ∷ fs) = (f.crashed ≡ false) × Came [] fs
Came (e ∷ es) [] = ⊥
Came (e ∷ es) (f ∷ fs) = (f.crashed ≡ true → e.crashed ≡ true) × Came es fs

came_self : (es : List Entry) → Came es es
came_self [] = tt
came_self (e ∷ es) = (λ h. h, came_self es)

unmarked : (b : Bool) → (b ≡ true → ⊥) → b ≡ false
unmarked true n = absurd (n refl)
unmarked false n = refl

came_then : (es fs gs : List Entry) → Came es fs → Came fs gs → Came es gs
came_then [] [] gs p r = r
came_then [] (f ∷ fs) [] p r = absurd r
came_then [] (f ∷ fs) (g ∷ gs) p r = (unmarked g.crashed (λ h. clash (r.0 h) p.0), came_then [] fs gs p.1 r.1)
came_then (e ∷ es) [] gs p r = absurd p
came_then (e ∷ es) (f ∷ fs) [] p r = absurd r
came_then (e ∷ es) (f ∷ fs) (g ∷ gs) p r = (λ h. p.0 (r.0 h), came_then es fs gs p.1 r.1)

came_more : (es : List Entry) (e : Entry) → e.crashed ≡ false → Came es (es ++ e ∷ [])
came_more [] e n = (n, tt)
came_more (x ∷ es) e n = (λ h. h, came_more es e n)

came_map : (f : Entry → Entry) → ((e : Entry) → (f e).crashed ≡ e.crashed) → (es : List Entry) → Came es (map f es)
came_map f h [] = tt
came_map f h (e ∷ es) = (λ q. sym (h e) ∙ q, came_map f h es)

came_set : (es : List Entry) (n : ℕ) (e f : Entry) → slice_get es n ≡ Some e → f.crashed ≡ e.crashed → Came es (set es n f)
came_set [] n e f i k = tt
came_set (x ∷ es) zero e f i k = (λ q. ap (λ (y : Entry). y.crashed) (some_is i) ∙ (sym k ∙ q), came_self es)
came_set (x ∷ es) (suc n) e f i k = (λ h. h, came_set es n e f i k)

came_failed : (n : ℕ) (c : ClientId) (number : ℕ) (x : FileId × PageNo) (es : List Entry) → Came es (failed_up_to n c number x es)
unfolding failed_up_to
came_failed zero c number x es = came_self es
came_failed (suc n) c number x [] = tt
came_failed (suc n) c number x (e ∷ es) = (go (is_by_at c x e && ((n == 0) || is_open e.fate)), came_failed n c number x es)
  where
    go : (b : Bool) → (if b then record e { failed = number } else e).crashed ≡ true → e.crashed ≡ true
    go true h = h
    go false h = h

-- Each step other than a crash.
abbrev LogCame : Volume → Volume → Type 0
LogCame v u = Came v.log u.log

joins : (v : Volume) (f : FileId) (e : Entry) → e.crashed ≡ false → OnSome (LogCame v) (with_entry v f e)
joins v f e n = on_if (LogCame v) _ (Some (record v { log = v.log ++ e ∷ [] })) (came_more v.log e n)

cut_came : (v : Volume) (c : ClientId) (f : FileId) (p : PageNo) → OnSome (LogCame v) (cuts v c f p)
cut_came v c f p =
    on_if (LogCame v) _ (Some (record v { claims = freed v (asks.Cut f p); log = v.log ++ entry c (asks.Cut f p) fates.Hard ∷ [] }))
    (came_more v.log (entry c (asks.Cut f p) fates.Hard) refl)

removal_came : (v : Volume) (c : ClientId) (s : ServerId) (removed : Option ℕ) → OnSome (LogCame v) (cuts_removed v c s removed)
removal_came v c s None = came_self v.log
removal_came v c s (Some ino) = cut_came v c (record { server = s; ino = ino }) (record { 0 = 0 })

abbrev Leaves : Volume → Volume × AppAnswer → Type 0
Leaves v r = LogCame v r.0

result_came : (v : Volume) (answer : AppAnswer) (o : Option Volume) → OnSome (LogCame v) o → OnSome (Leaves v) (option_map (λ w. (w, answer)) o)
result_came v answer o h = on_map (Leaves v) (λ w. (w, answer)) o h

made_came : (v : Volume) (c : ClientId) (s : ServerId) (m : Made) → OnSome (Leaves v) (made v c s m)
made_came v c s (t, (answer, removed)) =
    result_came v answer _ (on_map (LogCame v) (with_tree s t) (cuts_removed v c s removed) (removal_came v c s removed))

effect_came : (v : Volume) (c : ClientId) (ask : Ask) → OnSome (Leaves v) (effect v c ask)
effect_came v c (asks.Write f p bytes) = result_came v answers.Written _ (joins v f (entry c (asks.Write f p bytes) fates.Open) refl)
effect_came v c (asks.Patch f p at bytes) = result_came v answers.Written _ (joins v f (entry c (asks.Patch f p at bytes) fates.Open) refl)
effect_came v c (asks.Read f p) = tt
effect_came v c (asks.Sync f) = tt
effect_came v c (asks.Cut f p) = result_came v answers.Cut _ (cut_came v c f p)
effect_came v c (asks.Name s ask) = on_then (Leaves v) (made v c s) _ (on_all _ (λ m. made_came v c s m) _)

takes_came : (v : Volume) (a : Pending) → OnSome (LogCame v) (takes v a)
takes_came v a = on_else (LogCame v) _ _ (on_map (LogCame v) (done a) (effect v a.client a.ask) (effect_came v a.client a.ask))

after_came : (v : Volume) (a : Pending) (answer : AppAnswer) → LogCame v (after_answer v a answer)
after_came v a answers.Hard = came_map _ (λ e. refl) v.log
after_came v a (answers.Lost rows) = came_map _ (λ e. refl) v.log
after_came v a (answers.Read bytes) = came_self v.log
after_came v a (answers.Uncertain old zero) = came_self v.log
after_came v a (answers.Uncertain old (suc new)) = came_self v.log
after_came v a answers.Written = came_self v.log
after_came v a answers.Cut = came_self v.log
after_came v a answers.Quiesced = came_self v.log
after_came v a answers.NoFile = came_self v.log
after_came v a (answers.NoSpace n m) = came_self v.log
after_came v a (answers.DiskFault n) = came_self v.log
after_came v a answers.OpsFull = came_self v.log
after_came v a answers.DirtyFull = came_self v.log
after_came v a answers.NotHolder = came_self v.log
after_came v a answers.TooManyLocks = came_self v.log
after_came v a (answers.Named ino) = came_self v.log
after_came v a (answers.Listed rows) = came_self v.log
after_came v a (answers.Refused code) = came_self v.log

fate_came : (v : Volume) (i : ℕ) (test : Entry → Bool) (fate : Fate) → OnSome (LogCame v) (with_fate v i test fate)
fate_came v zero test fate = tt
fate_came v (suc n) test fate =
    subst (λ o. OnSome (LogCame v) (option_map (with_changed v (suc n)) (option_and_then (ends test fate) o))) (sym (numbered_suc v.log n))
    (go (slice_get v.log n) refl)
  where
    go : (o : Option Entry) → slice_get v.log n ≡ o → OnSome (LogCame v) (option_map (with_changed v (suc n)) (option_and_then (ends test fate) o))
    go None i = tt
    go (Some e) i =
        on_map (LogCame v) (with_changed v (suc n)) (ends test fate e)
        (on_if (λ f. LogCame v (with_changed v (suc n) f)) (is_open e.fate && test e) (Some (record e { fate = fate }))
        (came_set v.log n e (record e { fate = fate }) i refl))

abbrev is_crash : VolumeStep → Bool
is_crash (steps.Crashed c) = true
is_crash it = false

told_first : (v : Volume) (it : VolumeStep) → OnSome (LogCame v) (acts v it) → OnSome (LogCame v) (if v.lines == length v.log then acts v it else None)
told_first v it h = on_if (LogCame v) (v.lines == length v.log) (acts v it) h

step_came : (v : Volume) (it : VolumeStep) → is_crash it ≡ false → OnSome (LogCame v) (volume.step v it)
step_came v (steps.Joined i d what) n = on_if (LogCame v) _ (Some (record v { lines = i })) (came_self v.log)
step_came v (steps.Asked d ask) n = told_first v (steps.Asked d ask) (on_if (LogCame v) _ (Some (notice (arrived v d ask))) (came_self v.log))
step_came v (steps.TakesEffect d op) n =
    told_first v (steps.TakesEffect d op)
    (on_map (LogCame v) notice (option_and_then (takes v) (find (is_ask d op) (v.pending ++ v.orphans)))
    (on_then (LogCame v) (takes v) (find (is_ask d op) (v.pending ++ v.orphans))
    (on_all (λ a. OnSome (LogCame v) (takes v a)) (takes_came v) (find (is_ask d op) (v.pending ++ v.orphans)))))
step_came v (steps.Answered d op answer) n =
    told_first v (steps.Answered d op answer)
    (on_then (LogCame v) (answered v answer) (find (is_ask d op) v.pending)
    (on_all (λ a. OnSome (LogCame v) (answered v answer a)) (λ a. on_if (LogCame v) _ (Some (closed a (after_answer v a answer))) (after_came v a answer))
    (find (is_ask d op) v.pending)))
step_came v (steps.Hardened i) n = told_first v (steps.Hardened i) (fate_came v i (λ e. true) fates.Hard)
step_came v (steps.Dropped i cause) n = told_first v (steps.Dropped i cause) (fate_came v i (is_cause cause) fates.Dropped)
step_came v (steps.Crashed d) n = cc n
step_came v (steps.Restarted s) n = told_first v (steps.Restarted s) (came_self v.log)
step_came v (steps.WriteFailed d number i) n =
    told_first v (steps.WriteFailed d number i)
    (on_map (LogCame v) (failed v d number i) _ (on_all (λ x. LogCame v (failed v d number i x)) (λ x. came_failed i d number x v.log) _))
step_came v (steps.ReadFailed d s number) n = told_first v (steps.ReadFailed d s number) (came_self v.log)

abbrev is_calm : VolumeStep → Bool
is_calm it = if is_crash it then false else true

calm_step : (it : VolumeStep) → is_calm it ≡ true → is_crash it ≡ false
calm_step it q = go (is_crash it) q
  where
    go : (b : Bool) → (if b then false else true) ≡ true → b ≡ false
    go true q = cc q
    go false q = refl

run_came : (its : List VolumeStep) (v : Volume) → list_all is_calm its ≡ true → OnSome (LogCame v) (run its v)
unfolding run
run_came [] v h = came_self v.log
run_came (it ∷ its) v h =
    let b = and_true (is_calm it) (list_all is_calm its) h in
    on_then (LogCame v) (run its) (volume.step v it)
    (on_more (LogCame v) (λ u. OnSome (LogCame v) (run its u))
    (λ u k. on_more (LogCame u) (LogCame v) (λ z r. came_then v.log u.log z.log k r) (run its u) (run_came its u b.1))
    (volume.step v it) (step_came v it (calm_step it b.0)))

-- What a step of this event marks: entries of the client that crashes, if one does
abbrev Marks : Event → Entry → Type 0
Marks x e = (c : ClientId) × ((x ≡ events.Crash (nodes.Client c)) × (is_by c e ≡ true))

abbrev ByEvent : Event → List Entry → List Entry → Type 0
ByEvent x [] [] = Unit {0}
ByEvent x [] (f ∷ fs) = (f.crashed ≡ false) × ByEvent x [] fs
ByEvent x (e ∷ es) [] = ⊥
ByEvent x (e ∷ es) (f ∷ fs) = (f.crashed ≡ true → (e.crashed ≡ true) ⊎ Marks x e) × ByEvent x es fs

by_none : (x : Event) (es fs : List Entry) → Came es fs → ByEvent x es fs
by_none x [] [] h = tt
by_none x [] (f ∷ fs) h = (h.0, by_none x [] fs h.1)
by_none x (e ∷ es) [] h = absurd h
by_none x (e ∷ es) (f ∷ fs) h = (λ q. inl (h.0 q), by_none x es fs h.1)

by_crash : (c : ClientId) (es fs : List Entry) → Came (map (crash_of c) es) fs → ByEvent (events.Crash (nodes.Client c)) es fs
by_crash c [] fs h = by_none (events.Crash (nodes.Client c)) [] fs h
by_crash c (e ∷ es) [] h = absurd h
by_crash c (e ∷ es) (f ∷ fs) h = (λ q. go e.crashed refl (h.0 q), by_crash c es fs h.1)
  where
    go : (b : Bool) → e.crashed ≡ b → (b || is_by c e) ≡ true → (e.crashed ≡ true) ⊎ Marks (events.Crash (nodes.Client c)) e
    go true q k = inl q
    go false q k = inr (c, (refl, k))

inside_calm : (it : VolumeStep) → is_inside it ≡ true → is_calm it ≡ true
inside_calm (steps.TakesEffect c op) q = refl
inside_calm (steps.Joined i c what) q = refl
inside_calm (steps.Answered c op answer) q = refl
inside_calm (steps.Hardened i) q = refl
inside_calm (steps.Dropped i cause) q = refl
inside_calm it q = cc

all_calm : (its : List VolumeStep) → list_all is_inside its ≡ true → list_all is_calm its ≡ true
all_calm [] q = refl
all_calm (it ∷ its) q =
    let b = and_true (is_inside it) (list_all is_inside its) q in
    and_both (is_calm it) (list_all is_calm its) (inside_calm it b.0) (all_calm its b.1)

of_event_calm : (w : World) (x : Event) → ((c : ClientId) → x ≡ events.Crash (nodes.Client c) → ⊥) → list_all is_calm (of_event w x) ≡ true
unfolding of_event
of_event_calm w (events.Crash (nodes.Client c)) n = absurd (n c refl)
of_event_calm w (events.Crash (nodes.Server s)) n = refl
of_event_calm w (events.Start (nodes.Client c)) n = refl
of_event_calm w (events.Start (nodes.Server s)) n = refl
of_event_calm w (events.App c ask) n = refl
of_event_calm w (events.Report k true) n = refl
of_event_calm w (events.Report k false) n = failed_calm (world.issued_of w k)
  where
    told : (k : IssuedCommand) (c : Option Carried) → list_all is_calm (failure k c ∷ []) ≡ true
    told k None = refl
    told k (Some y) = refl

    told_if : (k : IssuedCommand) (b : Bool) → list_all is_calm (if b then failure k k.carries ∷ [] else []) ≡ true
    told_if k true = told k k.carries
    told_if k false = refl

    told_at : (k : IssuedCommand) (o : Option WorldClient) → list_all is_calm (failure_told k o) ≡ true
    told_at k None = refl
    told_at k (Some site) = told_if k (ev.is_same_instance k site)

    failed_calm : (o : Option IssuedCommand) → list_all is_calm (failure_of w o) ≡ true
    failed_calm None = refl
    failed_calm (Some k) = told_at k (site_of w k.client)
of_event_calm w (events.Tick n) z = refl
of_event_calm w (events.Deliver k) z = refl
of_event_calm w (events.Lose k) z = refl
of_event_calm w (events.Cut from to) z = refl
of_event_calm w (events.Heal from to) z = refl
of_event_calm w (events.Advance increments) z = refl
of_event_calm w (events.Effect k) z = refl

calm_then : (xs ys : List VolumeStep) → list_all is_calm xs ≡ true → list_all is_calm ys ≡ true → list_all is_calm (xs ++ ys) ≡ true
calm_then [] ys p q = q
calm_then (x ∷ xs) ys p q =
    let b = and_true (is_calm x) (list_all is_calm xs) p in and_both (is_calm x) (list_all is_calm (xs ++ ys)) b.0 (calm_then xs ys b.1 q)

abbrev IsCrash : Event → Type 0
IsCrash x = (c : ClientId) × (x ≡ events.Crash (nodes.Client c))

which_crash : (x : Event) → IsCrash x ⊎ ((c : ClientId) → x ≡ events.Crash (nodes.Client c) → ⊥)
which_crash (events.Crash (nodes.Client c)) = inl (c, refl)
which_crash (events.Crash (nodes.Server s)) = inr (λ c q. cc q)
which_crash (events.Start n) = inr (λ c q. cc q)
which_crash (events.App c ask) = inr (λ d q. cc q)
which_crash (events.Report k ok) = inr (λ c q. cc q)
which_crash (events.Tick n) = inr (λ c q. cc q)
which_crash (events.Deliver k) = inr (λ c q. cc q)
which_crash (events.Lose k) = inr (λ c q. cc q)
which_crash (events.Cut from to) = inr (λ c q. cc q)
which_crash (events.Heal from to) = inr (λ c q. cc q)
which_crash (events.Advance increments) = inr (λ c q. cc q)
which_crash (events.Effect k) = inr (λ c q. cc q)

-- what all steps of an event mark
marked_by : (it : Witness) (v : Volume) (x : Step) → OnSome (λ u. ByEvent x.event v.log u.log) (run (steps_of it v x) v)
unfolding of_event run
marked_by it v x = by (which_crash x.event)
  where
    w : World
    w = x.before.world

    rest : List VolumeStep
    rest = of_delivery it.behind v w x.event ++ of_lines w x.seen

    calm_rest : list_all is_calm rest ≡ true
    calm_rest =
        all_calm rest (both_inside (of_delivery it.behind v w x.event) (of_lines w x.seen) (delivery_inside it.behind v w x.event) (lines_inside w x.seen))

    by : IsCrash x.event ⊎ ((c : ClientId) → x.event ≡ events.Crash (nodes.Client c) → ⊥) →
        OnSome (λ u. ByEvent x.event v.log u.log) (run (of_event w x.event ++ rest) v)
    by (inr n) =
        on_more (LogCame v) (λ u. ByEvent x.event v.log u.log) (λ u k. by_none x.event v.log u.log k) (run (of_event w x.event ++ rest) v)
        (run_came (of_event w x.event ++ rest) v (calm_then (of_event w x.event) rest (of_event_calm w x.event n) calm_rest))
    by (inl (c, q)) =
        subst (λ z. OnSome (λ u. ByEvent z v.log u.log) (run (of_event w z ++ rest) v)) (sym q)
        (on_then (λ u. ByEvent (events.Crash (nodes.Client c)) v.log u.log) (run rest) (volume.step v (steps.Crashed c))
        (on_if (λ z. OnSome (λ u. ByEvent (events.Crash (nodes.Client c)) v.log u.log) (run rest z)) (v.lines == length v.log) (Some (crashed v c))
        (on_more (LogCame (crashed v c)) (λ u. ByEvent (events.Crash (nodes.Client c)) v.log u.log) (λ u k. by_crash c v.log u.log k) (run rest (crashed v c))
        (run_came rest (crashed v c) calm_rest))))

-- Lives that are over.
abbrev pub is_over : List LeaseLife → LogOwner → Bool
is_over ended o = list_any (λ l. is_of_life_over l 0 o) ended || (o.life.0 == 0)

abbrev pub AreOver : List LeaseLife → List LogEntry → List Entry → Type 0
AreOver ended [] es = Unit {0}
AreOver ended (o ∷ os) [] = Unit {0}
AreOver ended (o ∷ os) (e ∷ es) = (is_change o ≡ true → e.crashed ≡ true → is_over ended o.of ≡ true) × AreOver ended os es

still_over : (as_ bs : List LeaseLife) (o : LogOwner) → ((p : LeaseLife → Bool) → list_any p as_ ≡ true → list_any p bs ≡ true) → is_over as_ o ≡ true →
    is_over bs o ≡ true
still_over as_ bs o f h = go (list_any (λ l. is_of_life_over l 0 o) as_) refl h
  where
    go : (b : Bool) → list_any (λ l. is_of_life_over l 0 o) as_ ≡ b → (b || (o.life.0 == 0)) ≡ true → is_over bs o ≡ true
    go true q k = or_left (list_any (λ l. is_of_life_over l 0 o) bs) (o.life.0 == 0) (f (λ l. is_of_life_over l 0 o) q)
    go false q k = or_right (list_any (λ l. is_of_life_over l 0 o) bs) (o.life.0 == 0) k

fresh_over : (v : World) (x : Event) (ps : List LogEntry) (fs : List Entry) → ByEvent x [] fs → AreOver v.ended ps fs
fresh_over v x [] fs h = tt
fresh_over v x (p ∷ ps) [] h = tt
fresh_over v x (p ∷ ps) (f ∷ fs) h = (λ c q. absurd (clash q h.0), fresh_over v x ps fs h.1)

abbrev Ends : World → Event → List LogEntry → Type 0
Ends v x ps = (c : ClientId) → x ≡ events.Crash (nodes.Client c) → (p : LogEntry) → Has p ps → p.of.client ≡ c → is_over v.ended p.of ≡ true

over_on : (w v : World) (x : Event) (os ps : List LogEntry) (es fs : List Entry) → Adds w x v → Ends v x ps → Grown v os ps → ByEvent x es fs →
    AreSame os es → AreOver w.ended os es → AreOver v.ended ps fs
over_on w v x [] ps [] fs adds ends g k s h = fresh_over v x ps fs k
over_on w v x [] ps (e ∷ es) fs adds ends g k s h = absurd s
over_on w v x (o ∷ os) [] es fs adds ends g k s h = absurd g
over_on w v x (o ∷ os) (p ∷ ps) [] fs adds ends g k s h = absurd s
over_on w v x (o ∷ os) (p ∷ ps) (e ∷ es) [] adds ends g k s h = absurd k
over_on w v x (o ∷ os) (p ∷ ps) (e ∷ es) (f ∷ fs) adds ends g k s h =
    (one, over_on w v x os ps es fs adds (λ c q y i z. ends c q y (inr i) z) g.1 k.1 s.1 h.1)
  where
    one : is_change p ≡ true → f.crashed ≡ true → is_over v.ended p.of ≡ true
    one ch cr = go (k.0 cr)
      where
        was : is_change o ≡ true
        was = ap (λ y. ev.changes_page y) (sym g.0.1) ∙ ch

        go : (e.crashed ≡ true) ⊎ Marks x e → is_over v.ended p.of ≡ true
        go (inl q) = ap (is_over v.ended) g.0.0 ∙ still_over w.ended v.ended o.of adds.1 (h.0 was q)
        go (inr (c, (q, by))) =
            ends c q p (inl refl)
            (ap (λ (z : LogOwner). z.client) g.0.0 ∙ (sym (s.0.client was) ∙ ap (λ n. record { 0 = n }) (sym (eqb-true c.0 e.client.0 by))))

-- a life that ended
row_over : (v : World) (o : LogOwner) (r : LeaseLife) → find (world.is_life_of o.client o.file.server o.life) v.ended ≡ Some r → is_over v.ended o ≡ true
row_over v o r q =
    let z = row_is o.client o.file.server o.life v.ended r q in
    or_left (list_any (λ l. is_of_life_over l 0 o) v.ended) (o.life.0 == 0)
    (some_passes (λ l. is_of_life_over l 0 o) v.ended r z.0
    (and_both (same_client o.client r.client) (same_server o.file.server r.server && (o.life.0 == r.life.0))
    (eq-eqb o.client.0 r.client.0 (ap (λ (d : ClientId). d.0) (sym z.1)))
    (and_both (same_server o.file.server r.server) (o.life.0 == r.life.0) (eq-eqb o.file.server.0 r.server.0 (ap (λ (d : ServerId). d.0) (sym z.2)))
    (eq-eqb o.life.0 r.life.0 (ap (λ (d : Life). d.0) (sym z.3))))))

-- the lives of a client that doesn't run are over
stopped_over : (v : World) → LivesHold v → (o : LogOwner) → Has o (map owner_of v.log) →
    ((site : WorldClient) → site_of v o.client ≡ Some site → site.node.running ≡ false) → is_over v.ended o ≡ true
stopped_over v lives o i off = go (lives.known.owners o i)
  where
    never : 0 ≡ o.life.0 → is_over v.ended o ≡ true
    never q = or_right (list_any (λ l. is_of_life_over l 0 o) v.ended) (o.life.0 == 0) (eq-eqb o.life.0 0 (sym q))

    at_place : (site : WorldClient) → site_of v o.client ≡ Some site → (y : Option Association) → find (is_at o.file.server) site.node.state.associations ≡ y →
        (world.life_at y).0 ≡ o.life.0 → is_over v.ended o ≡ true
    at_place site there None f q = never q
    at_place site there (Some a) f q =
        let z = found_at (is_at o.file.server) site.node.state.associations a f in
        let s = (lives.lives.sites o.client site there).stopped (off site there) a z.1 in
        let server : a.server ≡ o.file.server = ap (λ n. record { 0 = n }) (eqb-true a.server.0 o.file.server.0 z.0) in
        let life : a.life ≡ o.life = ap (λ n. record { 0 = n }) q in
        row_over v o s.row
        (ap (λ t. find (world.is_life_of o.client t o.life) v.ended) (sym server)
        ∙ (ap (λ l. find (world.is_life_of o.client a.server l) v.ended) (sym life) ∙ s.is))

    at_site : (y : Option WorldClient) → site_of v o.client ≡ y → (ev.life_of_site o.file.server y).0 ≡ o.life.0 → is_over v.ended o ≡ true
    at_site None there q = never q
    at_site (Some site) there q = at_place site there (find (is_at o.file.server) site.node.state.associations) refl q

    go : IsKnown v.clients v.ended o.client o.file.server o.life → is_over v.ended o ≡ true
    go (inl (r, q)) = row_over v o r q
    go (inr q) = at_site (site_of v o.client) refl q

-- a crash stops its client
crash_stops : (w : World) (c : ClientId) (sc : WorldTurn) → world_step w (events.Crash (nodes.Client c)) ≡ Ok sc →
    (site : WorldClient) → site_of sc.world c ≡ Some site → site.node.running ≡ false
unfolding ev.happens ev.crashes ev.crashes_client ev.marks cl.crash
crash_stops w c sc happened site there =
    by (site_of w c) refl (ap (λ (s : WorldTurn). site_of s.world c) (sym (step_happens w (events.Crash (nodes.Client c)) sc happened).1) ∙ there)
  where
    by : (o : Option WorldClient) → site_of w c ≡ o → site_of (ev.crashes_client (ev.counted w) c o).world c ≡ Some site → site.node.running ≡ false
    by None e q = absurd (none_not_some site (sym e ∙ q))
    by (Some old) e q =
        ap (λ (s : WorldClient). s.node.running) (some_is (sym q ∙ numbered_own w.clients c.0 (ev.stopped_site old) old e))

-- What is carried.
pub record OverHold (past : List Step) (t : Traced) (it : Witness) : Type 0 where
  pub agree : LogHolds past t it
  pub over : OnSome (λ v. AreOver t.world.ended t.world.log v.log) it.volume
  pub fates : FatesHold t.world

abbrev pub Given : Promise
Given past x = TheReportTellsTheLog past x × (ChangesAreLocked past x × FatesHold x.after.world)

after_over : (it : Witness) (x : Step) (o : Option Volume) → TheReportTellsTheLog [] x → ChangesAreLocked [] x → Adds x.before.world x.event x.after.world →
    Ends x.after.world x.event x.after.world.log → OnSome (IsLogOf x.before.world.log) o →
    OnSome (λ v. AreOver x.before.world.ended x.before.world.log v.log) o →
    OnSome (λ v. AreOver x.after.world.ended x.after.world.log v.log) (volume_after it x o)
after_over it x None told locked adds ends a h = tt
after_over it x (Some v) told locked adds ends a h =
    on_then Goal if_told (run (steps_of it v x) v)
    (on_more (λ u. ByEvent x.event v.log u.log) (λ u. OnSome Goal (if_told u))
    (λ u k. on_if Goal (u.lines == length u.log) (Some u)
    (over_on w x.after.world x.event w.log x.after.world.log v.log u.log adds ends grown k a.entries h))
    (run (steps_of it v x) v) (marked_by it v x))
  where
    w : World
    w = x.before.world

    Goal : Volume → Type 0
    Goal u = AreOver x.after.world.ended x.after.world.log u.log

    grown : Grown x.after.world w.log x.after.world.log
    grown = subst (Grown x.after.world w.log) told.entries (lines_grown x.after.world w.log w.log x.seen locked (grown_self x.after.world w.log))

pub over_kept : IsKept Given OverHold
unfolding led_by
over_kept past t e sc it f g h =
    let x : Step = step t e sc in
    record {
      agree = log_kept past t e sc it f g.0 h.agree;
      over =
          after_over it x it.volume g.0 g.1.0 (event_adds t.world e (λ c site at. (h.fates.lives.lives.sites c site at).id) sc f) ends h.agree h.over;
      fates = g.1.1;
    }
  where
    ends : Ends sc.world e sc.world.log
    ends c q p i own =
        stopped_over sc.world g.1.1.lives p.of (has_map_in owner_of sc.world.log p i)
        (λ site there. crash_stops t.world c sc (ap (world_step t.world) (sym q) ∙ f) site (ap (site_of sc.world) (sym own) ∙ there))

-- an entry that is marked is of an earlier life than the present one
member : (p : LeaseLife → Bool) (es : List LeaseLife) → list_any p es ≡ true → (l : LeaseLife) × Has l es × (p l ≡ true)
member p [] q = cc q
member p (l ∷ es) q = go (p l) refl q (member p es)
  where
    go : (b : Bool) → p l ≡ b → (b || list_any p es) ≡ true → (list_any p es ≡ true → (x : LeaseLife) × Has x es × (p x ≡ true)) →
        (x : LeaseLife) × Has x (l ∷ es) × (p x ≡ true)
    go true f q r = (l, inl refl, f)
    go false f q r = let z = r q in (z.0, inr z.1, z.2)

pub over_at : (ended : List LeaseLife) (os : List LogEntry) (es : List Entry) → AreOver ended os es → (n : ℕ) (o : LogEntry) (e : Entry) →
    slice_get os n ≡ Some o → slice_get es n ≡ Some e → is_change o ≡ true → e.crashed ≡ true → is_over ended o.of ≡ true
over_at ended [] es h n o e p q c k = cc p
over_at ended (x ∷ os) [] h n o e p q c k = cc q
over_at ended (x ∷ os) (y ∷ es) h zero o e p q c k =
    ap (λ (z : LogEntry). is_over ended z.of) (sym (some_is p))
    ∙ h.0 (ap (λ (z : LogEntry). is_change z) (some_is p) ∙ c) (ap (λ (z : Entry). z.crashed) (some_is q) ∙ k)
over_at ended (x ∷ os) (y ∷ es) h (suc n) o e p q c k = over_at ended os es h.1 n o e p q c k

pub past_of : (w : World) → LivesHold w → (o : LogOwner) → is_over w.ended o ≡ true → IsPast w o
past_of w lives o h site a there runs place = go (list_any (λ l. is_of_life_over l 0 o) w.ended) refl h
  where
    go : (b : Bool) → list_any (λ l. is_of_life_over l 0 o) w.ended ≡ b → (b || (o.life.0 == 0)) ≡ true → o.life.0 < a.life.0
    go true q k =
        let m = member (λ l. is_of_life_over l 0 o) w.ended q in
        let l : LeaseLife = m.0 in
        let g = and_true (same_client o.client l.client) (same_server o.file.server l.server && (o.life.0 == l.life.0)) m.2 in
        let z = and_true (same_server o.file.server l.server) (o.life.0 == l.life.0) g.1 in
        let client : l.client ≡ o.client = ap (λ n. record { 0 = n }) (sym (eqb-true o.client.0 l.client.0 g.0)) in
        let server : o.file.server ≡ l.server = ap (λ n. record { 0 = n }) (eqb-true o.file.server.0 l.server.0 z.0) in
        let below : l.life.0 < a.life.0 =
        ((lives.lives.sites o.client site there).below l m.1 client a
        (ap (λ s. find (is_at s) site.node.state.associations) (sym server) ∙ place)).below runs in
        let same = eqb-true o.life.0 l.life.0 z.1 in omega (arith, below, same)
    go false q k =
        let same = eqb-true o.life.0 0 k in
        let born = (lives.lives.sites o.client site there).born a (found_at (is_at o.file.server) site.node.state.associations a place).1 in
        omega (arith, same, born)

all_past : (past : List Step) (x : Step) → Led OverHold past x → CrashedEntriesArePast past x
all_past past x h =
    on_more (λ v. AreOver x.after.world.ended x.after.world.log v.log) (λ v. ArePast x.after.world x.after.world.log v.log)
    (λ v k n o e p q c m. past_of x.after.world h.fates.lives o.of (over_at x.after.world.ended x.after.world.log v.log k n o e p q c m))
    (led_by (led_to past x) x).volume h.over

pub over_begins : (k : Config) (clients servers disks blocks form : ℕ) →
    OverHold [] (traced (fresh_world k clients servers disks blocks form))
    (begun (fresh_world k clients servers disks blocks form) (fresh_world k clients servers disks blocks form))
unfolding fresh_world begun
over_begins k clients servers disks blocks form =
    record { agree = log_begins k clients servers disks blocks form; over = tt; fates = fresh_fates k clients servers disks blocks form }

pub crashed_entries_are_past : EveryRunIsSafe → InEveryRun CrashedEntriesArePast
crashed_entries_are_past safe k clients servers disks blocks form es head events =
    let t : Traced = traced (fresh_world k clients servers disks blocks form) in
    let kept : IsSafeRun (fresh_world k clients servers disks blocks form) es = safe k clients servers disks blocks form es head events in
    throughout_more (Led OverHold) CrashedEntriesArePast all_past [] (safety.steps es t)
    (carried Given OverHold over_kept es t (over_begins k clients servers disks blocks form)
    (throughout_both TheReportTellsTheLog (λ past x. ChangesAreLocked past x × FatesHold x.after.world) [] (safety.steps es t) kept.told
    (throughout_both ChangesAreLocked (λ past x. FatesHold x.after.world) [] (safety.steps es t) kept.locked
    (fates_law k clients servers disks blocks form es))))
