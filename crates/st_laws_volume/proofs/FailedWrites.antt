-- In every run the volume takes each failed write of which a client is told: it carried an entry of the log.
use Rattle.std.proofs.Common.{◌≡◌, ◌≤◌, ℕ, zero, suc, arith, Bool, true, false, ◌==◌, List, [], ◌∷◌, ◌++◌, length, Option, Some, None, refl, sym, ap, ◌∙◌, subst, if◌then◌else◌}
use Rattle.std.specs.Prelude.{is_some, option_and_then, option_map, slice_get}
use Rattle.std.specs.List.{list_all}
use Rattle.std.proofs.lemmas.Bool.{eq-eqb}
use Rattle.st_base.specs.declared.config.Config.{Config}
use Rattle.st_base.specs.declared.ids.NodeId.TheVariants as nodes
use Rattle.st_base.specs.declared.ids.FileId.{FileId}
use Rattle.st_base.specs.declared.ids.PageNo.{PageNo}
use Rattle.st_messages.specs.declared.event.Event.{Event}
use Rattle.st_messages.specs.declared.event.Event.TheVariants as events
use Rattle.st_rules.specs.declared.log.Change.{Change}
use Rattle.st_rules.specs.declared.log.Change.TheVariants as changes
use Rattle.st_rules.specs.declared.log.LogEntry.{LogEntry}
use Rattle.st_rules.specs.declared.log.LogOwner.{LogOwner}
use Rattle.st_rules.specs.declared.world.Carried.{Carried}
use Rattle.st_rules.specs.declared.world.IssuedCommand.{IssuedCommand}
use Rattle.st_rules.specs.Events.{changes_page, is_change, is_same_instance}
use Rattle.st_rules.specs.History.{Traced, traced}
use Rattle.st_rules.specs.Safety.{Promise, Step, TheReportTellsTheLog, step, steps}
use Rattle.st_rules.specs.World as world
use Rattle.st_rules.specs.World.{World, WorldClient, fresh_world, issued_of, numbered, site_of}
use Rattle.st_lemmas.proofs.Lookups.{if_true, some_is}
use Rattle.st_lemmas.proofs.Marks.{of_entry}
use Rattle.st_lemmas.proofs.Numbers.{numbered_below}
use Rattle.st_promises.specs.Safe.{EveryRunIsSafe}
use Rattle.st_laws_pages.specs.Disks.Folds.{owner_at}
use Rattle.st_laws_pages.specs.Disks.Obligations.{FatesHold}
use Rattle.st_laws_pages.specs.Disks.Runs.{PagesAfter}
use Rattle.st_laws_pages.specs.Disks.World.{PagesHold}
use Rattle.st_laws_pages.proofs.Disks.Whole.{fates_law, fresh_fates}
use Rattle.st_laws_volume.specs.StepKinds.{AreTaken, StepsAreTaken, is_failed_write}
use Rattle.st_laws_volume.specs.Logs.{InEveryRun, IsLogOf, ask_of}
use Rattle.st_laws_volume.specs.Options.{OnSome}
use Rattle.st_laws_volume.specs.Seen.{failure, failure_of, failure_told, of_event}
use Rattle.st_laws_volume.specs.Witness.{Witness, of_delivery, of_lines, steps_of}
use Rattle.st_laws_volume.proofs.Carried.{IsGiven, given_in}
use Rattle.st_laws_volume.proofs.CarriedEntries.{CutsNobody, EntriesCarried, cut_at, entries_kept}
use Rattle.st_laws_volume.proofs.LogEntries.{AtBoth, same_at}
use Rattle.st_laws_volume.proofs.LogLines.{numbered_suc}
use Rattle.st_laws_volume.proofs.Logs.{LogHolds, log_begins, log_kept}
use Rattle.st_laws_volume.proofs.Options.{on_more}
use Rattle.st_laws_volume.proofs.ReadPages.{throughout_both}
use Rattle.st_laws_volume.proofs.StepKinds.{IsApart, both_inside, delivery_inside, is_inside, lines_inside, none_inside, one_before}
use Rattle.st_volume.specs.declared.step.VolumeStep.{VolumeStep}
use Rattle.st_volume.specs.declared.step.VolumeStep.TheVariants as kinds
use Rattle.st_volume.specs.Pages.{Entry, place_of}
use Rattle.st_volume.specs.Volume as volume
use Rattle.st_volume.specs.Volume.{Volume}

failure_apart : IsApart is_failed_write
failure_apart (kinds.TakesEffect c op) q = refl
failure_apart (kinds.Joined i c what) q = refl
failure_apart (kinds.Answered c op answer) q = refl
failure_apart (kinds.Hardened i) q = refl
failure_apart (kinds.Dropped i cause) q = refl
failure_apart it q = cc

-- What a command carries is a write or a patch of the volume's log.
abbrev place_at : Volume → ℕ → Option (FileId × PageNo)
place_at v i = option_and_then (λ e. place_of e.what) (volume.numbered v.log i)

change_place : (f : FileId) (p : PageNo) (what : Change) → changes_page what ≡ true → is_some (place_of (ask_of f p what)) ≡ true
change_place f p (changes.Write bytes) q = refl
change_place f p (changes.Patch at bytes) q = refl
change_place f p changes.Cut q = cc

-- an entry of a client is a write or a patch
pub changed : (os : List LogEntry) (n : ℕ) (o : LogEntry) → CutsNobody os → slice_get os n ≡ Some o → 1 ≤ o.of.client.0 → (b : Bool) → is_change o ≡ b →
    b ≡ true
changed os n o h q l true e = refl
changed os n o h q l false e = absurd (let z = cut_at os n o h q e in omega (arith, l, z))

same_place : (os : List LogEntry) (es : List Entry) (n : ℕ) (a : Option LogEntry) (b : Option Entry) → CutsNobody os → slice_get os n ≡ a → AtBoth a b →
    (c : LogOwner) →
    option_map of_entry a ≡ Some c → 1 ≤ c.client.0 → is_some (option_and_then (λ (e : Entry). place_of e.what) b) ≡ true
same_place os es n None b h q s c t l = cc
same_place os es n (Some o) None h q s c t l = absurd s
same_place os es n (Some o) (Some e) h q s c t l =
    ap (λ w. is_some (place_of w)) s.what
    ∙ change_place o.of.file o.of.page o.change
    (changed os n o h q (subst (λ (x : LogOwner). 1 ≤ x.client.0) (sym (some_is t)) l) (is_change o) refl)

carried_place : (w : World) (v : Volume) → IsLogOf w.log v → CutsNobody w.log → (i : ℕ) (c : LogOwner) → owner_at w.log i ≡ Some c → 1 ≤ c.client.0 →
    is_some (place_at v i) ≡ true
carried_place w v a h zero c t l = cc
carried_place w v a h (suc n) c t l =
    ap (λ o. is_some (option_and_then (λ (e : Entry). place_of e.what) o)) (numbered_suc v.log n)
    ∙ same_place w.log v.log n (slice_get w.log n) (slice_get v.log n) h refl (same_at w.log v.log n a.entries) c t l

is_mapped : {A B : Type 0} (f : A → B) (o : Option A) → is_some o ≡ true → is_some (option_map f o) ≡ true
is_mapped f None q = cc
is_mapped f (Some x) q = refl

-- so its failure is taken
failed_now : (w : World) (v : Volume) → IsLogOf w.log v → EntriesCarried w → (k : ℕ) (x : IssuedCommand) (y : Carried) → numbered w.commands k ≡ Some x →
    x.carries ≡ Some y →
    1 ≤ x.client.0 → is_some (volume.step v (kinds.WriteFailed x.client x.number y.index)) ≡ true
failed_now w v a h k x y i q l =
    ap is_some (if_true (v.lines == length v.log) (volume.acts v (kinds.WriteFailed x.client x.number y.index)) None (eq-eqb v.lines (length v.log) a.lines))
    ∙ is_mapped (volume.failed v x.client x.number y.index) (place_at v y.index)
    (carried_place w v a h.cuts y.index (world.owner_carried x y) (h.owned k x i y q).0 l)

-- The steps of an event.
module _ (w : World) (v : Volume) (a : IsLogOf w.log v) (h : EntriesCarried w) (rest : List VolumeStep) (r : list_all is_inside rest ≡ true) where
  abbrev Taken : List VolumeStep → Type 0
  Taken its = AreTaken is_failed_write (its ++ rest) v

  none : Taken []
  none = none_inside is_failed_write failure_apart rest v r

  told : (k : ℕ) (x : IssuedCommand) (o : Option Carried) → numbered w.commands k ≡ Some x → x.carries ≡ o → 1 ≤ x.client.0 → Taken (failure x o ∷ [])
  told k x None i q l = one_before is_failed_write failure_apart (failure x None) rest v (λ p. cc p) r
  told k x (Some y) i q l = one_before is_failed_write failure_apart (failure x (Some y)) rest v (λ p. failed_now w v a h k x y i q l) r

  same : (k : ℕ) (x : IssuedCommand) → numbered w.commands k ≡ Some x → 1 ≤ x.client.0 → (b : Bool) → Taken (if b then failure x x.carries ∷ [] else [])
  same k x i l true = told k x x.carries i refl l
  same k x i l false = none

  at : (k : ℕ) (x : IssuedCommand) → numbered w.commands k ≡ Some x → (o : Option WorldClient) → site_of w x.client ≡ o → Taken (failure_told x o)
  at k x i None e = none
  at k x i (Some site) e = same k x i (numbered_below w.clients x.client.0 site e).0 (is_same_instance x site)

  reported : (k : ℕ) (o : Option IssuedCommand) → issued_of w k ≡ o → Taken (failure_of w o)
  reported k None e = none
  reported k (Some x) e = at k x e (site_of w x.client) refl

  event_failures : (e : Event) → Taken (of_event w e)
  unfolding of_event
  event_failures (events.App c ask) = one_before is_failed_write failure_apart (kinds.Asked c ask) rest v (λ p. cc p) r
  event_failures (events.Tick n) = none
  event_failures (events.Deliver k) = none
  event_failures (events.Lose k) = none
  event_failures (events.Cut from to) = none
  event_failures (events.Heal from to) = none
  event_failures (events.Advance increments) = none
  event_failures (events.Effect k) = none
  event_failures (events.Report k true) = none
  event_failures (events.Report k false) = reported k (issued_of w k) refl
  event_failures (events.Crash (nodes.Client c)) = one_before is_failed_write failure_apart (kinds.Crashed c) rest v (λ p. cc p) r
  event_failures (events.Crash (nodes.Server s)) = none
  event_failures (events.Start (nodes.Client c)) = none
  event_failures (events.Start (nodes.Server s)) = one_before is_failed_write failure_apart (kinds.Restarted s) rest v (λ p. cc p) r

-- In every run.
FailureToo : List Step → Step → Witness → Type 0
FailureToo past x it = OnSome (λ v. AreTaken is_failed_write (steps_of it v x) v) it.volume

record FailuresHold (past : List Step) (t : Traced) (it : Witness) : Type 0 where
  log : LogHolds past t it
  fates : FatesHold t.world
  entries : EntriesCarried t.world

abbrev Known : Promise
Known past x = TheReportTellsTheLog past x × (FatesHold x.after.world × PagesHold x.after.world)

failure_on : IsGiven Known FailuresHold FailureToo
unfolding FailureToo
failure_on past t e sc it f g h = (
  on_more (IsLogOf t.world.log) (λ v. AreTaken is_failed_write (steps_of it v (step t e sc)) v)
      (λ v a. event_failures t.world v a h.entries (of_delivery it.behind v t.world e ++ of_lines t.world sc.seen)
      (both_inside (of_delivery it.behind v t.world e) (of_lines t.world sc.seen) (delivery_inside it.behind v t.world e) (lines_inside t.world sc.seen)) e)
      it.volume h.log,
  record {
    log = log_kept past t e sc it f g.0 h.log;
    fates = g.1.0;
    entries = entries_kept t.world e sc f g.0 h.fates.lives g.1.0.lives g.1.1 h.entries;
  },
)

pub fresh_carried : (k : Config) (clients servers disks blocks form : ℕ) → EntriesCarried (fresh_world k clients servers disks blocks form)
unfolding fresh_world
fresh_carried k clients servers disks blocks form = record { owned = λ j x i. absurd (none j x i); cuts = tt }
  where
    none : (j : ℕ) (x : IssuedCommand) → numbered {A = IssuedCommand} [] j ≡ Some x → ⊥
    none zero x i = cc
    none (suc j) x i = cc

pub failed_writes_are_taken : EveryRunIsSafe → InEveryRun PagesAfter → InEveryRun (StepsAreTaken is_failed_write)
unfolding FailureToo
failed_writes_are_taken safe pages k clients servers disks blocks form es head events =
    let t : Traced = traced (fresh_world k clients servers disks blocks form) in
    given_in Known FailuresHold FailureToo failure_on es t
    (record {
      log = log_begins k clients servers disks blocks form;
      fates = fresh_fates k clients servers disks blocks form;
      entries = fresh_carried k clients servers disks blocks form;
    })
    (throughout_both TheReportTellsTheLog (λ past x. FatesHold x.after.world × PagesHold x.after.world) [] (steps es t)
    (safe k clients servers disks blocks form es head events).told
    (throughout_both (λ past x. FatesHold x.after.world) PagesAfter [] (steps es t) (fates_law k clients servers disks blocks form es)
    (pages k clients servers disks blocks form es head events)))
