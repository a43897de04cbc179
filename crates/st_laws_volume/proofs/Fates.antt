-- In every run the volume takes the events at which no node takes a step and no clock advances.
use Rattle.std.proofs.Common.{◌≡◌, ℕ, ◌+◌, Bool, true, false, not, ◌&&◌, ◌==◌, List, [], ◌∷◌, ◌++◌, length, map, Option, Some, None, Ok, refl, sym, ap, ◌∙◌, subst, if◌then◌else◌}
use Rattle.std.specs.Prelude.{is_some, nat_le, option_and_then}
use Rattle.std.proofs.lemmas.Bool.{eq-eqb}
use Rattle.st_base.specs.declared.ids.ClientId.{ClientId}
use Rattle.st_base.specs.declared.ids.NodeId.TheVariants as nodes
use Rattle.st_messages.specs.declared.event.Event.{Event}
use Rattle.st_messages.specs.declared.event.Event.TheVariants as events
use Rattle.st_rules.specs.declared.log.Cause.TheVariants as causes
use Rattle.st_rules.specs.declared.log.Fate as world_fate
use Rattle.st_rules.specs.declared.log.Fate.TheVariants as old_fates
use Rattle.st_rules.specs.declared.log.LogEntry.{LogEntry}
use Rattle.st_rules.specs.declared.log.LogOwner.{LogOwner}
use Rattle.st_rules.specs.declared.observation.Observation.{Observation}
use Rattle.st_rules.specs.declared.world.Carried.{Carried}
use Rattle.st_rules.specs.Events as ev
use Rattle.st_rules.specs.Events.{WorldTurn, counted, happens, world_step}
use Rattle.st_rules.specs.FlatLog as log
use Rattle.st_rules.specs.History.{Traced, traced}
use Rattle.st_rules.specs.Safety.{Step, TheReportTellsTheLog, step}
use Rattle.st_rules.specs.World.{World, WorldClient, fresh_world, issued_of, site_of}
use Rattle.st_lemmas.proofs.Lookups.{if_true, or_right}
use Rattle.st_lemmas.proofs.Steps.{step_happens}
use Rattle.st_lemmas.proofs.Tables.{and_both, and_true}
use Rattle.st_lemmas.proofs.Lengths.{length_map}
use Rattle.st_lemmas.proofs.Truth.{eqb_turned}
use Rattle.st_promises.specs.Safe.{EveryRunIsSafe}
use Rattle.st_laws_volume.specs.Fates.{StillEventsAreTaken, is_still}
use Rattle.st_laws_volume.specs.Logs.{AreSame, InEveryRun, IsLogOf, IsSame, fate_of}
use Rattle.st_laws_volume.specs.Options.{OnSome}
use Rattle.st_laws_volume.specs.Seen.{of_event}
use Rattle.st_laws_volume.specs.Witness.{Behind, Witness, led_by, of_delivery, of_lines, steps_of, volume_after}
use Rattle.st_laws_volume.proofs.Carried.{IsGiven, given_in}
use Rattle.st_laws_volume.proofs.FateLines.{IsTaken, MayEnd, MayEndAll, fates_taken, taken_is}
use Rattle.st_laws_volume.proofs.Logs.{LogHolds, log_begins, log_kept}
use Rattle.st_volume.specs.Pages.{Entry, is_by, is_open}
use Rattle.st_volume.specs.Volume.{Volume, crash_of, crashed, restarted, run}

-- what is pending is open
open_is : (o : LogEntry) (e : Entry) → IsSame o e → o.fate ≡ old_fates.Pending → is_open e.fate ≡ true
open_is o e h p = ap is_open (h.fate ∙ ap fate_of p)

-- Nothing changes.
pub same_may : (w : World) (os : List LogEntry) (es : List Entry) → AreSame os es → MayEndAll w os os es
same_may w [] es h = tt
same_may w (o ∷ os) [] h = absurd h
same_may w (o ∷ os) (e ∷ es) h = (go o.fate, same_may w os es h.1)
  where
    go : (f : world_fate.Fate) → MayEnd w f f e
    go old_fates.Pending = tt
    go old_fates.Hard = tt
    go (old_fates.Gone cause) = tt

-- An effect makes entries hard.
harden_may : (w : World) (n i : ℕ) (owner : LogOwner) (os : List LogEntry) (es : List Entry) → AreSame os es → MayEndAll w os (log.harden_from n i owner os) es
unfolding log.harden_from log.hardened log.harder_entry
harden_may w n i owner [] es h = tt
harden_may w n i owner (o ∷ os) [] h = absurd h
harden_may w n i owner (o ∷ os) (e ∷ es) h = (go (nat_le n i && log.same_owner o.of owner) o.fate refl, harden_may w (n + 1) i owner os es h.1)
  where
    go : (b : Bool) (f : world_fate.Fate) → o.fate ≡ f → MayEnd w f (if b then log.harder_entry o else o).fate e
    go true old_fates.Pending p = subst (λ f. MayEnd w old_fates.Pending (log.harder f) e) (sym p) (open_is o e h.0 p)
    go false old_fates.Pending p = subst (λ f. MayEnd w old_fates.Pending f e) (sym p) tt
    go b old_fates.Hard p = tt
    go b (old_fates.Gone cause) p = tt

effect_may : (w : World) (os : List LogEntry) (es : List Entry) (x : Option Carried) → AreSame os es → MayEndAll w os (ev.log_hard os x) es
unfolding log.harden log.harden_at
effect_may w os es None h = same_may w os es h
effect_may w os es (Some x) h = go (log.entry_at os x.index)
  where
    go : (o : Option LogEntry) → MayEndAll w os (log.harden_at os x.index o) es
    go None = same_may w os es h
    go (Some o) = harden_may w 1 x.index o.of os es h

-- A crash drops entries of its client.
crash_may : (w : World) (c : ClientId) (n : ℕ) (picked : ℕ → LogOwner → Bool) (os : List LogEntry) (es : List Entry) →
    ((n : ℕ) (o : LogOwner) → picked n o ≡ true → log.is_of_client c o ≡ true) → AreSame os es →
    MayEndAll w os (log.drop_from n picked (log.always causes.Crash) os) (map (crash_of c) es)
unfolding log.drop_from log.dropped log.lost_entry
crash_may w c n picked [] es k h = tt
crash_may w c n picked (o ∷ os) [] k h = absurd h
crash_may w c n picked (o ∷ os) (e ∷ es) k h = (go (picked n o.of) refl o.fate refl, crash_may w c (n + 1) picked os es k h.1)
  where
    its : picked n o.of ≡ true → o.fate ≡ old_fates.Pending → is_by c e ≡ true
    its b p = ap (λ (d : ClientId). c.0 == d.0) (h.0.client (h.0.change (ap log.is_pending p))) ∙ (eqb_turned c.0 o.of.client.0 ∙ k n o.of b)

    go : (b : Bool) → picked n o.of ≡ b → (f : world_fate.Fate) → o.fate ≡ f →
        MayEnd w f (if b then log.lost_entry (log.always causes.Crash) o else o).fate (crash_of c e)
    go true b old_fates.Pending p =
        subst (λ f. MayEnd w old_fates.Pending (log.lost causes.Crash f) (crash_of c e)) (sym p)
        (and_both (is_open e.fate) _ (open_is o e h.0 p) (or_right e.crashed (is_by c e) (its b p)))
    go false b old_fates.Pending p = subst (λ f. MayEnd w old_fates.Pending f (crash_of c e)) (sym p) tt
    go x b old_fates.Hard p = tt
    go x b (old_fates.Gone cause) p = tt

-- The lines of an event.
abbrev Lines : World → List Observation → Volume → Type 0
Lines w os v = IsTaken (run (of_lines w os) v)

effect_lines : (w : World) (k : ℕ) (v : Volume) → IsLogOf w.log v → Lines w (ev.effects (counted w) k).seen v
unfolding ev.effects ev.marks
effect_lines w k v h =
    fates_taken w w.log (ev.log_hard w.log (ev.carried_by (issued_of w k))) [] v.log v refl h.lines
    (effect_may w w.log v.log (ev.carried_by (issued_of w k)) h.entries)

crash_lines : (w : World) (c : ClientId) (v : Volume) → IsLogOf w.log v → (o : Option WorldClient) →
    Lines w (ev.crashes_client (counted w) c o).seen (crashed v c)
unfolding ev.crashes_client ev.marks ev.log_crashed log.drop_picked of_lines run
crash_lines w c v h None = h.lines ∙ sym (length_map (crash_of c) v.log)
crash_lines w c v h (Some site) =
    fates_taken w w.log (ev.log_crashed (counted w) c) [] (map (crash_of c) v.log) (crashed v c) refl (h.lines ∙ sym (length_map (crash_of c) v.log))
    (crash_may w c 1 (ev.is_of_crashed (counted w) c) w.log v.log (λ n o p. (and_true (log.is_of_client c o) (not (ev.is_spared (counted w) n o)) p).0)
    h.entries)

-- All steps of a still event.
pub event_taken : (w : World) (e : Event) (v : Volume) → IsLogOf w.log v → is_still e ≡ true →
    IsTaken (run (of_event w e ++ of_lines w (happens (counted w) e).seen) v)
unfolding happens of_event ev.crashes ev.starts run of_lines
event_taken w (events.Lose k) v h s = h.lines
event_taken w (events.Cut from to) v h s = h.lines
event_taken w (events.Heal from to) v h s = h.lines
event_taken w (events.Effect k) v h s = effect_lines w k v h
event_taken w (events.Crash (nodes.Client c)) v h s =
    subst (λ o. IsTaken (option_and_then (run (of_lines w (ev.crashes_client (counted w) c (site_of w c)).seen)) o))
    (sym (if_true (v.lines == length v.log) (Some (crashed v c)) None (eq-eqb _ _ h.lines)))
    (crash_lines w c v h (site_of w c))
event_taken w (events.Crash (nodes.Server s)) v h q = h.lines
event_taken w (events.Start (nodes.Client c)) v h s = h.lines
event_taken w (events.Start (nodes.Server s)) v h q =
    subst (λ o. IsTaken (option_and_then (run []) o)) (sym (if_true (v.lines == length v.log) (Some (restarted v s)) None (eq-eqb _ _ h.lines))) h.lines
event_taken w (events.Tick n) v h s = cc
event_taken w (events.App c ask) v h s = cc
event_taken w (events.Deliver k) v h s = cc
event_taken w (events.Advance increments) v h s = cc
event_taken w (events.Report k ok) v h s = cc

no_delivery : (bs : List Behind) (v : Volume) (w : World) (e : Event) → is_still e ≡ true → of_delivery bs v w e ≡ []
no_delivery bs v w (events.Lose k) s = refl
no_delivery bs v w (events.Cut from to) s = refl
no_delivery bs v w (events.Heal from to) s = refl
no_delivery bs v w (events.Effect k) s = refl
no_delivery bs v w (events.Crash n) s = refl
no_delivery bs v w (events.Start n) s = refl
no_delivery bs v w (events.Advance increments) s = refl
no_delivery bs v w (events.Report k ok) s = refl
no_delivery bs v w (events.Tick n) s = refl
no_delivery bs v w (events.App c ask) s = refl
no_delivery bs v w (events.Deliver k) s = cc

-- In every run.
abbrev Taken : List Step → Step → Witness → Type 0
Taken past x it = is_still x.event ≡ true → is_some it.volume ≡ true → is_some (led_by it x).volume ≡ true

still_taken : (it : Witness) (t : Traced) (e : Event) (sc : WorldTurn) → world_step t.world e ≡ Ok sc → is_still e ≡ true → (o : Option Volume) →
    OnSome (IsLogOf t.world.log) o → is_some o ≡ true → is_some (volume_after it (step t e sc) o) ≡ true
still_taken it t e sc f s None h q = cc
still_taken it t e sc f s (Some v) h q =
    taken_is (run (steps_of it v (step t e sc)) v)
    (subst (λ os. IsTaken (run (of_event t.world e ++ (os ++ of_lines t.world sc.seen)) v)) (sym (no_delivery it.behind v t.world e s))
    (subst (λ (z : WorldTurn). IsTaken (run (of_event t.world e ++ of_lines t.world z.seen) v)) (sym (step_happens t.world e sc f).1)
    (event_taken t.world e v h s)))

still_given : IsGiven TheReportTellsTheLog LogHolds Taken
unfolding led_by
still_given past t e sc it f g h = (λ s q. still_taken it t e sc f s it.volume h q, log_kept past t e sc it f g h)

pub still_events_are_taken : EveryRunIsSafe → InEveryRun StillEventsAreTaken
still_events_are_taken safe k clients servers disks blocks form es head events =
    given_in TheReportTellsTheLog LogHolds Taken still_given es (traced (fresh_world k clients servers disks blocks form))
    (log_begins k clients servers disks blocks form)
    (safe k clients servers disks blocks form es head events).told
