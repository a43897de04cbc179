-- In every run each pending entry remembers the failed write that carried it, if that was the last one of its page by its life.
use Rattle.st_lemmas.proofs.Words
use Words.{◌≡◌, ◌≤◌, ◌<◌, ◌⊎◌, ℕ, zero, suc, ◌+◌, ◌&&◌, ◌==◌, Bool, true, false, List, [], ◌∷◌, ◌++◌, Option, Some, None, Ok, refl, sym, ap, ◌∙◌, subst, inl, inr, arith}
use Words.{if◌then◌else◌, length, list_all, list_any, option_and_then, option_map, slice_get, eq-eqb, eqb-true, ClientId, FileId, PageNo, Event, DiskCommand, LogEntry, LogOwner, Carried, IssuedCommand}
use Words.changes
use Words.events
use Words.fates
use Words.nodes
use Words.reports
use Words.Disks as disks
use Words.Events as ev
use Words.Events.{WorldTurn, is_change, is_same_instance, last_write, world_step}
use Words.FlatLog as log
use Words.Lines.{IsLogTold}
use Words.Lookups.{any_last, some_is}
use Words.Numbers.{get_below, get_has, get_there}
use Words.Safety.{ChangesAreLocked, IsHead, Promise, Step, TheReportTellsTheLog, Throughout, is_failure_of, reports_failure, step, steps}
use Words.Tables.{and_both, and_true, has_map_in}
use Words.Truth.{below_or_not, client_is, clash, file_is, none_not_some}
use Words.World as world
use Words.World.{World, WorldClient, fresh_world, issued_of, numbered, site_of}
use Rattle.st_base.specs.declared.config.Config.{Config}
use Rattle.st_rules.specs.declared.log.Change.{Change}
use Rattle.st_rules.specs.Admissible as adm
use Rattle.st_rules.specs.History.{Traced, traced, traced_after}
use Rattle.st_lemmas.proofs.Marks.{of_entry}
use Rattle.st_lemmas.proofs.Steps.{step_happens}
use Rattle.st_promises.specs.Safe.{EveryRunIsSafe, IsSafeRun}
use Rattle.st_laws_pages.specs.Asks.Law.{PlacesHold}
use Rattle.st_laws_steps.specs.Lives.Lives.{owner_of}
use Rattle.st_laws_pages.specs.Disks.Folds.{owner_at}
use Rattle.st_laws_pages.specs.Disks.Obligations.{FatesHold}
use Rattle.st_laws_pages.specs.Disks.Runs.{PagesAfter}
use Rattle.st_laws_pages.specs.Disks.World.{PagesHold}
use Rattle.st_laws_pages.specs.Writes.Writes.{OpenHold}
use Rattle.st_laws_pages.proofs.Asks.Law.{places_law}
use Rattle.st_laws_pages.proofs.Causes.Law.{Stand, fresh_places, fresh_stand, one_step, open_law}
use Rattle.st_laws_pages.proofs.Disks.Effects.{report_finds}
use Rattle.st_laws_volume.specs.FateMarks.{AreRemembered, FailedWritesAreRemembered}
use Rattle.st_laws_volume.specs.Logs.{InEveryRun, IsLogOf, IsSame, ask_of, fate_of}
use Rattle.st_laws_volume.specs.Options.{OnSome}
use Rattle.st_laws_volume.specs.Seen.{failure, failure_of, failure_told, of_event}
use Rattle.st_laws_volume.specs.Witness.{Witness, begun, if_told, led_by, of_delivery, of_lines, steps_of, volume_after}
use Rattle.st_laws_volume.proofs.Carried.{IsKept, Led, carried}
use Rattle.st_laws_volume.proofs.CarriedEntries.{EntriesCarried, Longer, entries_kept, event_owned}
use Rattle.st_laws_volume.proofs.FailedWrites.{fresh_carried}
use Rattle.st_laws_volume.proofs.EventClients.{event_clients}
use Rattle.st_laws_volume.proofs.FailureEntries.{Back, IsBack, fails_carried, fails_here, kept_at, lines_back, spares}
use Rattle.st_laws_volume.proofs.FailureLives.{Ordered, PresentOf, ordered_kept, present}
use Rattle.st_laws_volume.proofs.FailureWrites.{IsOf, LastOf, last_of, listed, touched}
use Rattle.st_laws_volume.proofs.FateCrashes.{Grown, grown_self, lines_grown}
use Rattle.st_laws_volume.proofs.FateKeeps.{AllKeep, LogKept, is_unfailed, run_keeps}
use Rattle.st_laws_volume.proofs.LogEntries.{AtBoth, same_at}
use Rattle.st_laws_volume.proofs.LogLines.{numbered_suc, one_step as one_volume_step, run_then}
use Rattle.st_laws_volume.proofs.Logs.{LogHolds, log_begins, log_kept}
use Rattle.st_laws_volume.proofs.Options.{on_if, on_map, on_more, on_then}
use Rattle.st_laws_volume.proofs.PresentLives.{Before, present_before}
use Rattle.st_laws_volume.proofs.ReadPages.{throughout_both, throughout_more}
use Rattle.st_laws_volume.proofs.StepKinds.{both_inside, delivery_inside, is_inside, lines_inside}
use Rattle.st_volume.specs.declared.step.VolumeStep.{VolumeStep}
use Rattle.st_volume.specs.declared.step.VolumeStep.TheVariants as kinds
use Rattle.st_volume.specs.Pages as vpages
use Rattle.st_volume.specs.Pages.{Entry, is_at, is_by_at, is_open, place_of, same_place}
use Rattle.st_volume.specs.Volume as volume
use Rattle.st_volume.specs.Volume.{Volume, run}

-- Steps that aren't failed writes.
inside_unfailed : (it : VolumeStep) → is_inside it ≡ true → is_unfailed it ≡ true
inside_unfailed (kinds.TakesEffect c op) q = refl
inside_unfailed (kinds.Joined i c what) q = refl
inside_unfailed (kinds.Answered c op answer) q = refl
inside_unfailed (kinds.Hardened i) q = refl
inside_unfailed (kinds.Dropped i cause) q = refl
inside_unfailed it q = cc

all_unfailed : (its : List VolumeStep) → list_all is_inside its ≡ true → list_all is_unfailed its ≡ true
all_unfailed [] q = refl
all_unfailed (it ∷ its) q =
    let b = and_true (is_inside it) (list_all is_inside its) q in
    and_both (is_unfailed it) (list_all is_unfailed its) (inside_unfailed it b.0) (all_unfailed its b.1)

unfailed_then : (xs ys : List VolumeStep) → list_all is_unfailed xs ≡ true → list_all is_unfailed ys ≡ true → list_all is_unfailed (xs ++ ys) ≡ true
unfailed_then [] ys p q = q
unfailed_then (x ∷ xs) ys p q =
    let b = and_true (is_unfailed x) (list_all is_unfailed xs) p in
    and_both (is_unfailed x) (list_all is_unfailed (xs ++ ys)) b.0 (unfailed_then xs ys b.1 q)

-- an event is the failed report of a command, or of none
abbrev pub FailsOne : Event → Type 0
FailsOne e = (k : ℕ) × (e ≡ events.Report k false)

abbrev pub FailsNone : World → Event → Type 0
FailsNone w e = (list_all is_unfailed (of_event w e) ≡ true) × ((k : ℕ) → is_failure_of k e ≡ false)

no_last : (b : Bool) → (b && false) ≡ false
no_last true = refl
no_last false = refl

pub which_fails : (w : World) (e : Event) → FailsOne e ⊎ FailsNone w e
unfolding of_event
which_fails w (events.Report k false) = inl (k, refl)
which_fails w (events.Report k true) = inr (refl, λ j. no_last (k == j))
which_fails w (events.App c ask) = inr (refl, λ j. refl)
which_fails w (events.Tick n) = inr (refl, λ j. refl)
which_fails w (events.Deliver k) = inr (refl, λ j. refl)
which_fails w (events.Lose k) = inr (refl, λ j. refl)
which_fails w (events.Cut from to) = inr (refl, λ j. refl)
which_fails w (events.Heal from to) = inr (refl, λ j. refl)
which_fails w (events.Advance increments) = inr (refl, λ j. refl)
which_fails w (events.Effect k) = inr (refl, λ j. refl)
which_fails w (events.Crash (nodes.Client c)) = inr (refl, λ j. refl)
which_fails w (events.Crash (nodes.Server s)) = inr (refl, λ j. refl)
which_fails w (events.Start (nodes.Client c)) = inr (refl, λ j. refl)
which_fails w (events.Start (nodes.Server s)) = inr (refl, λ j. refl)

-- What holds of a world after steps.
abbrev pub ReportedKnown : List Step → World → Type 0
ReportedKnown past w = (k : ℕ) → list_any (reports_failure k) past ≡ true → k ≤ length w.commands

pub record FailuresStand (past : List Step) (t : Traced) : Type 0 where
  pub stand : Stand past t
  pub places : PlacesHold t.world
  pub opens : OpenHold t.world
  pub entries : EntriesCarried t.world
  pub ordered : Ordered t.world.log
  pub reported : ReportedKnown past t.world

pub unreported : (w : World) (k : ℕ) (e : Event) → e ≡ events.Report k false → disks.command w.disks k ≡ None → adm.refusal w e ≡ None → ⊥
unfolding adm.refusal adm.refused_report
unreported w k e q i r = no (ap (adm.refused_report w k false) (sym i) ∙ (ap (adm.refusal w) (sym q) ∙ r))
  where
    no : adm.refused_report w k false None ≡ None → ⊥
    no z = cc z

owner_below : (es : List LogEntry) (i : ℕ) (c : LogOwner) → owner_at es i ≡ Some c → i ≤ length es
owner_below es zero c q = omega arith
owner_below es (suc n) c q = go (slice_get es n) refl q
  where
    go : (o : Option LogEntry) → slice_get es n ≡ o → option_map of_entry o ≡ Some c → suc n ≤ length es
    go None e h = cc h
    go (Some e) i h = let l = get_below es n e i in omega (arith, l)

pub same_there : (o : LogEntry) (b : Option Entry) → AtBoth (Some o) b → (e : Entry) × (b ≡ Some e) × IsSame o e
same_there o None s = absurd s
same_there o (Some e) s = (e, refl, s)

-- A place of a change of the world.
place_is_ask : (f : FileId) (p : PageNo) (c : Change) → OnSome (λ z. z ≡ (f, p)) (place_of (ask_of f p c))
place_is_ask f p (changes.Write bytes) = refl
place_is_ask f p (changes.Patch at bytes) = refl
place_is_ask f p changes.Cut = tt

place_test : (x : FileId × PageNo) (f : FileId) (p : PageNo) (c : Change) → ev.changes_page c ≡ true → is_at x (ask_of f p c) ≡ same_place x (f, p)
place_test x f p (changes.Write bytes) q = refl
place_test x f p (changes.Patch at bytes) q = refl
place_test x f p changes.Cut q = cc q

-- A write reaches an entry of its page: the one that it carried, or a pending one before it.
abbrev pub Reaches : LogEntry → ℕ → Carried → Type 0
Reaches o index y = ((o.fate ≡ fates.Pending) × (index ≤ y.index)) ⊎ (index ≡ y.index)

-- An entry of a present life remembers the last write of its page by that life, if this write reached it and was reported failed. The same instance of its
-- client submitted this write.
abbrev pub IsMarked : List Step → World → ℕ → LogEntry → Entry → Type 0
IsMarked past w index o e =
    (p : PresentOf w o.of) (x : IssuedCommand) (y : Carried) → is_change o ≡ true → numbered w.commands (last_write w.commands o.of) ≡ Some x →
    x.carries ≡ Some y → Reaches o index y → list_any (reports_failure (last_write w.commands o.of)) past ≡ true →
    (e.failed ≡ x.number) × (x.starts ≡ p.site.starts)

abbrev pub AreMarked : List Step → World → Volume → Type 0
AreMarked past w v =
    (n : ℕ) (o : LogEntry) (e : Entry) → slice_get w.log n ≡ Some o → slice_get v.log n ≡ Some e → IsMarked past w (n + 1) o e

reached_index : (o : LogEntry) (index : ℕ) (y : Carried) → Reaches o index y → index ≤ y.index
reached_index o index y (inl r) = r.1
reached_index o index y (inr r) = omega (arith, r)

-- An entry before an event after which its life is present.
record Was (w f : World) (v : Volume) (n : ℕ) (p : LogEntry) (now : PresentOf f p.of) (x : IssuedCommand) (y : Carried) : Type 0 where
  o : LogEntry
  at : slice_get w.log n ≡ Some o
  entry : Entry
  there : slice_get v.log n ≡ Some entry
  same : IsSame o entry
  change : is_change o ≡ true
  reaches : Reaches o (n + 1) y
  present_ : PresentOf w o.of
  starts : present_.site.starts ≡ now.site.starts
  last : last_write w.commands o.of ≡ last_write f.commands p.of
  issued : numbered w.commands (last_write w.commands o.of) ≡ Some x

-- A write carries an entry of an owner's client and page.
record AtPage (x : IssuedCommand) (y : Carried) (o : LogOwner) : Type 0 where
  client : x.client ≡ o.client
  file : y.file ≡ o.file
  page : y.page ≡ o.page

-- What is reported is there.
reported_kept : (past : List Step) (t : Traced) (e : Event) (sc : WorldTurn) → world_step t.world e ≡ Ok sc → FailuresStand past t →
    ReportedKnown (past ++ step t e sc ∷ []) sc.world
reported_kept past t e sc happened b k s = go (any_last (reports_failure k) (step t e sc) past s)
  where
    w : World
    w = t.world

    long : length w.commands ≤ length sc.world.commands
    long = (event_owned w b.stand.fates.lives e sc happened).0.long

    at : (j : ℕ) (d : DiskCommand) → disks.command_at w.disks.commands j ≡ Some d → j ≤ length w.commands
    at zero d i = omega arith
    at (suc j) d i = let l = get_below w.disks.commands j d i in let c = b.stand.both.writes.commands.counts in omega (arith, l, c)

    there : e ≡ events.Report k false → (o : Option DiskCommand) → disks.command w.disks k ≡ o → k ≤ length w.commands
    there q None i = absurd (unreported w k e q i (step_happens w e sc happened).0)
    there q (Some d) i = at k d i

    by : FailsOne e ⊎ FailsNone w e → is_failure_of k e ≡ true → k ≤ length w.commands
    by (inr (q, none)) f = absurd (clash f (none k))
    by (inl (j, q)) f =
        let same : j ≡ k = eqb-true j k (and_true (j == k) true (sym (ap (is_failure_of k) q) ∙ f)).0 in
        there (q ∙ ap (λ i. events.Report i false) same) (disks.command w.disks k) refl

    go : (list_any (reports_failure k) past ≡ true) ⊎ (reports_failure k (step t e sc) ≡ true) → k ≤ length sc.world.commands
    go (inl p) = let l = b.reported k p in let m = long in omega (arith, l, m)
    go (inr p) = let l = by (which_fails w e) p in let m = long in omega (arith, l, m)

module _ (past : List Step) (t : Traced) (e : Event) (sc : WorldTurn) (happened : world_step t.world e ≡ Ok sc) (b : FailuresStand past t)
    (told : IsLogTold sc.world t.world.log sc.seen) (v : Volume) (a : IsLogOf t.world.log v) (r : AreMarked past t.world v) where
  abbrev w : World
  w = t.world

  abbrev x' : Step
  x' = step t e sc

  longer : Longer w.commands sc.world.commands
  longer = (event_owned w b.stand.fates.lives e sc happened).0

  back : Back w.log sc.world.log
  back = subst (Back w.log) told.entries (lines_back sc.world w.log sc.seen)

  was : (n : ℕ) (p : LogEntry) (now : PresentOf sc.world p.of) (x : IssuedCommand) (y : Carried) → slice_get sc.world.log n ≡ Some p →
      is_change p ≡ true → last_write sc.world.commands p.of ≤ length w.commands →
      numbered sc.world.commands (last_write sc.world.commands p.of) ≡ Some x → x.carries ≡ Some y → Reaches p (n + 1) y →
      Was w sc.world v n p now x y
  was n p now x y at ch low is carries reach =
      record {
        o = o;
        at = here.1;
        entry = both.0;
        there = both.1;
        same = both.2;
        change = change;
        reaches = reaches reach;
        present_ = back_then.was;
        starts = back_then.starts ∙ site_same;
        last = last;
        issued = ap (numbered w.commands) last ∙ old;
      }
    where
      old : numbered w.commands (last_write sc.world.commands p.of) ≡ Some x
      old = longer.same (last_write sc.world.commands p.of) x low is

      high : y.index ≤ length w.log
      high = owner_below w.log y.index (world.owner_carried x y) (b.entries.owned (last_write sc.world.commands p.of) x old y carries).0

      here : (o : LogEntry) × (slice_get w.log n ≡ Some o)
      here = let l = reached_index p (n + 1) y reach in get_there w.log n (omega (arith, l, high))

      o : LogEntry
      o = here.0

      z : (q : LogEntry) × (slice_get sc.world.log n ≡ Some q) × IsBack here.0 q
      z = back n here.0 here.1

      same : z.0 ≡ p
      same = some_is (sym z.1 ∙ at)

      of : p.of ≡ o.of
      of = ap (λ (k : LogEntry). k.of) (sym same) ∙ z.2.of

      change : is_change o ≡ true
      change = ap ev.changes_page (sym z.2.change ∙ ap (λ (k : LogEntry). k.change) same) ∙ ch

      reaches : Reaches p (n + 1) y → Reaches o (n + 1) y
      reaches (inl q) = inl (z.2.pending (ap (λ (k : LogEntry). k.fate) same ∙ q.0), q.1)
      reaches (inr q) = inr q

      now_of : PresentOf sc.world o.of
      now_of = subst (PresentOf sc.world) of now

      back_then : Before w e sc b.stand.fates.lives o.of now_of
      back_then =
          present_before w e sc b.stand.fates.lives o.of (has_map_in owner_of w.log o (get_has w.log n o here.1)) now_of
          ((event_clients w e sc happened).sites o.of.client)

      site_same : now_of.site.starts ≡ now.site.starts
      site_same =
          ap (λ (s : WorldClient). s.starts)
          (some_is (sym now_of.there ∙ (ap (λ (k : LogOwner). site_of sc.world k.client) (sym of) ∙ now.there)))

      last : last_write w.commands o.of ≡ last_write sc.world.commands p.of
      last =
          sym (ap (last_write sc.world.commands) of
          ∙ longer.last o.of (subst (λ k. k ≤ length w.commands) (ap (last_write sc.world.commands) of) low))

      both : (f : Entry) × (slice_get v.log n ≡ Some f) × IsSame o f
      both = same_there o (slice_get v.log n) (subst (λ k. AtBoth k (slice_get v.log n)) here.1 (same_at w.log v.log n a.entries))

  abbrev After : Volume → Type 0
  After u = AreMarked (past ++ x' ∷ []) sc.world u

  -- if nothing fails, entries keep what failed them
  unfailed : (its : List VolumeStep) → list_all is_unfailed its ≡ true → ((k : ℕ) → is_failure_of k e ≡ false) → OnSome After (run its v)
  unfailed its q none =
      on_more (LogKept (Unit {0}) v) After
      (λ u k n p f at is now x y ch iss carries l rep.
      go u k n p f at is now x y ch iss carries l (any_last (reports_failure (last_write sc.world.commands p.of)) x' past rep))
      (run its v) (run_keeps (Unit {0}) its v (λ z. q))
    where
      go : (u : Volume) → AllKeep (Unit {0}) v.log u.log → (n : ℕ) (p : LogEntry) (f : Entry) → slice_get sc.world.log n ≡ Some p → slice_get u.log n ≡ Some f →
          (now : PresentOf sc.world p.of) (x : IssuedCommand) (y : Carried) → is_change p ≡ true →
          numbered sc.world.commands (last_write sc.world.commands p.of) ≡ Some x → x.carries ≡ Some y → Reaches p (n + 1) y →
          (list_any (reports_failure (last_write sc.world.commands p.of)) past ≡ true) ⊎ (is_failure_of (last_write sc.world.commands p.of) e ≡ true) →
          (f.failed ≡ x.number) × (x.starts ≡ now.site.starts)
      go u k n p f at is now x y ch iss carries l (inr s) = absurd (clash s (none (last_write sc.world.commands p.of)))
      go u k n p f at is now x y ch iss carries l (inl s) =
          let z : Was w sc.world v n p now x y =
          was n p now x y at ch (b.reported (last_write sc.world.commands p.of) s) iss carries l in
          let m = kept_at (Unit {0}) v.log u.log k n z.entry z.there in
          let same : m.0 ≡ f = some_is (sym m.1 ∙ is) in
          let h =
          r n z.o z.entry z.at z.there z.present_ x y z.change z.issued carries z.reaches (ap (λ j. list_any (reports_failure j) past) z.last ∙ s) in
          (ap (λ (g : Entry). g.failed) (sym same) ∙ (m.2.failed tt ∙ h.0), h.1 ∙ z.starts)

  -- The failed report of a command.
  module _ (k : ℕ) (d : DiskCommand) (is : disks.command_at w.disks.commands k ≡ Some d) (open_still : d.report ≡ reports.Open) where
    abbrev Reported : LogOwner → Type 0
    Reported o = (last_write w.commands o ≡ k) ⊎ (list_any (reports_failure (last_write w.commands o)) past ≡ true)

    -- the entry is then failed by that number
    pub First : Volume → Type 0
    First z =
        (n : ℕ) (o : LogEntry) (f : Entry) → slice_get w.log n ≡ Some o → slice_get v.log n ≡ Some f → IsSame o f → (p : PresentOf w o.of) →
        is_change o ≡ true → (x : IssuedCommand) (y : Carried) → numbered w.commands (last_write w.commands o.of) ≡ Some x →
        x.carries ≡ Some y → Reaches o (n + 1) y → Reported o.of →
        (g : Entry) × (slice_get z.log n ≡ Some g) × ((g.failed ≡ x.number) × (x.starts ≡ p.site.starts))

    abbrev OfNone : Type 0
    OfNone =
        (o : LogOwner) (y : Carried) (x : IssuedCommand) → PresentOf w o → numbered w.commands k ≡ Some x → x.carries ≡ Some y →
        last_write w.commands o ≡ k → ⊥

    -- nothing is told: the command is of no entry of a client that runs
    untold : (z : Volume) → z.log ≡ v.log → OfNone → First z
    unfolding First
    untold z same never n o f at there s p ch x y iss carries l (inl q) =
        absurd (never o.of y x p (ap (numbered w.commands) (sym q) ∙ iss) carries q)
    untold z same never n o f at there s p ch x y iss carries l (inr q) =
        (f, ap (λ es. slice_get es n) same ∙ there, r n o f at there p x y ch iss carries l q)

    module _ (x2 : IssuedCommand) (issued : numbered w.commands k ≡ Some x2) where
      its : (o : LogOwner) (x : IssuedCommand) → numbered w.commands (last_write w.commands o) ≡ Some x → last_write w.commands o ≡ k → x ≡ x2
      its o x i q = some_is (sym i ∙ (ap (numbered w.commands) q ∙ issued))

      -- a command that carries an entry
      module _ (y2 : Carried) (carried2 : x2.carries ≡ Some y2) where
        last_is : (o : LogOwner) (p : PresentOf w o) → IsOf x2 y2 o →
            LastOf w.commands k x2 o p.site
        last_is = listed past t b.stand b.opens b.entries b.ordered k x2 d y2 issued is open_still carried2

        -- an entry of its client and page
        at_page : (o : LogEntry) (f : Entry) → IsSame o f → is_change o ≡ true → x2.client ≡ o.of.client → y2.file ≡ o.of.file → y2.page ≡ o.of.page →
            is_by_at x2.client (y2.file, y2.page) f ≡ true
        at_page o f s c client file page =
            and_both (vpages.is_by x2.client f) (is_at (y2.file, y2.page) f.what)
            (eq-eqb x2.client.0 f.client.0 (ap (λ (z : ClientId). z.0) (client ∙ sym (s.client c))))
            (ap (is_at (y2.file, y2.page)) s.what
            ∙ (place_test (y2.file, y2.page) o.of.file o.of.page o.change c
            ∙ and_both (vpages.same_file y2.file o.of.file) (y2.page.0 == o.of.page.0)
            (and_both (y2.file.server.0 == o.of.file.server.0) (y2.file.ino == o.of.file.ino)
            (eq-eqb y2.file.server.0 o.of.file.server.0 (ap (λ (z : FileId). z.server.0) file))
            (eq-eqb y2.file.ino o.of.file.ino (ap (λ (z : FileId). z.ino) file)))
            (eq-eqb y2.page.0 o.of.page.0 (ap (λ (z : PageNo). z.0) page))))

        page_at : (o : LogEntry) (f : Entry) → IsSame o f → is_change o ≡ true → is_by_at x2.client (y2.file, y2.page) f ≡ true → AtPage x2 y2 o.of
        page_at o f s c q =
            let z = and_true (vpages.is_by x2.client f) (is_at (y2.file, y2.page) f.what) q in
            let p = and_true (vpages.same_file y2.file o.of.file) (y2.page.0 == o.of.page.0)
            (sym (ap (is_at (y2.file, y2.page)) s.what ∙ place_test (y2.file, y2.page) o.of.file o.of.page o.change c) ∙ z.1) in
            record {
              client = client_is x2.client f.client z.0 ∙ s.client c;
              file = file_is y2.file o.of.file p.0;
              page = ap (λ n. record { 0 = n }) (eqb-true y2.page.0 o.of.page.0 p.1);
            }

        marked : (z : Volume) → z.log ≡ vpages.failed_up_to y2.index x2.client x2.number (y2.file, y2.page) v.log → First z
        unfolding First
        marked z zl n o f at there s p change x y iss carries l side =
            go (is_by_at x2.client (y2.file, y2.page) f) refl (below_or_not n y2.index)
          where
            Out : Type 0
            Out = (g : Entry) × (slice_get z.log n ≡ Some g) × ((g.failed ≡ x.number) × (x.starts ≡ p.site.starts))

            -- the entry is open, or the one that the write carried
            hit : is_by_at x2.client (y2.file, y2.page) f ≡ true → n < y2.index → y ≡ y2 → Reaches o (n + 1) y →
                (g : Entry) × (slice_get (vpages.failed_up_to y2.index x2.client x2.number (y2.file, y2.page) v.log) n ≡ Some g) × (g.failed ≡ x2.number)
            hit q m same (inl reach) =
                fails_here y2.index x2.client x2.number (y2.file, y2.page) v.log n f there (omega (arith, m)) q
                (ap is_open (s.fate ∙ ap fate_of reach.0))
            hit q m same (inr reach) =
                fails_carried y2.index x2.client x2.number (y2.file, y2.page) v.log n f there
                (let i = reach ∙ ap (λ (c : Carried). c.index) same in omega (arith, i)) q

            fails : is_by_at x2.client (y2.file, y2.page) f ≡ true → n < y2.index → Out
            fails q m =
                let z1 = page_at o f s change q in
                let own : IsOf x2 y2 o.of =
                touched past t b.stand b.opens b.entries b.ordered k x2 d y2 issued is open_still carried2 n o at change p m z1.client z1.file z1.page in
                let last : LastOf w.commands k x2 o.of p.site = last_is o.of p own in
                let same : x ≡ x2 = its o.of x iss last.last in
                let sameY : y ≡ y2 = some_is (sym carries ∙ (ap (λ (c : IssuedCommand). c.carries) same ∙ carried2)) in
                let g = hit q m sameY l in (
                  g.0,
                  ap (λ es. slice_get es n) zl ∙ g.1,
                  (
                    g.2 ∙ ap (λ (c : IssuedCommand). c.number) (sym same),
                    ap (λ (c : IssuedCommand). c.starts) same
                        ∙ sym (eqb-true p.site.starts x2.starts (and_true p.site.node.running (p.site.starts == x2.starts) last.same).1),
                  ),
                )

            stays : (suc n ≤ y2.index → is_by_at x2.client (y2.file, y2.page) f ≡ true → ⊥) → Reported o.of → Out
            stays never (inr q) =
                let i = spares y2.index x2.client x2.number (y2.file, y2.page) v.log n f there never in
                (f, ap (λ es. slice_get es n) zl ∙ i, r n o f at there p x y change iss carries l q)
            stays never (inl q) =
                let same : x ≡ x2 = its o.of x iss q in
                let sameY : y ≡ y2 = some_is (sym carries ∙ (ap (λ (c : IssuedCommand). c.carries) same ∙ carried2)) in
                let own : IsOf x2 y2 o.of = last_of o.of w.commands k x2 y2 issued carried2 q in
                let m = ap (λ (c : Carried). c.index) sameY in
                let low = reached_index o (n + 1) y l in
                absurd (never (omega (arith, low, m)) (at_page o f s change own.client own.file own.page))

            go : (c : Bool) → is_by_at x2.client (y2.file, y2.page) f ≡ c → (n < y2.index) ⊎ (y2.index ≤ n) → Out
            go true q (inl m) = fails q m
            go true q (inr m) = stays (λ i h. omega (arith, m, i)) side
            go false q m = stays (λ i h. clash h q) side

        -- the place of what it carried
        pub place_here : (i : ℕ) → owner_at w.log i ≡ Some (world.owner_carried x2 y2) →
            OnSome (λ z. z ≡ (y2.file, y2.page)) (option_and_then (λ (f : Entry). place_of f.what) (volume.numbered v.log i))
        place_here zero h = cc
        place_here (suc m) h =
            subst (λ z. OnSome (λ z. z ≡ (y2.file, y2.page)) (option_and_then (λ (f : Entry). place_of f.what) z)) (sym (numbered_suc v.log m))
            (go (slice_get w.log m) (slice_get v.log m) (same_at w.log v.log m a.entries) h)
          where
            of_own : (o : LogOwner) → o ≡ world.owner_carried x2 y2 → (z : FileId × PageNo) → z ≡ (o.file, o.page) → z ≡ (y2.file, y2.page)
            of_own o q z i = i ∙ ap (λ (c : LogOwner). (c.file, c.page)) q

            go : (o : Option LogEntry) (f : Option Entry) → AtBoth o f → option_map of_entry o ≡ Some (world.owner_carried x2 y2) →
                OnSome (λ z. z ≡ (y2.file, y2.page)) (option_and_then (λ (f : Entry). place_of f.what) f)
            go None f s h = cc h
            go (Some o) None s h = tt
            go (Some o) (Some f) s h =
                subst (λ what. OnSome (λ z. z ≡ (y2.file, y2.page)) (place_of what)) (sym s.what)
                (on_more (λ z. z ≡ (o.of.file, o.of.page)) (λ z. z ≡ (y2.file, y2.page)) (λ z i. of_own o.of (some_is h) z i)
                (place_of (ask_of o.of.file o.of.page o.change))
                (place_is_ask o.of.file o.of.page o.change))

        write_first : OnSome First (run (kinds.WriteFailed x2.client x2.number y2.index ∷ []) v)
        write_first =
            one_volume_step First (kinds.WriteFailed x2.client x2.number y2.index) v
            (on_if First (v.lines == length v.log) (volume.acts v (kinds.WriteFailed x2.client x2.number y2.index))
            (on_map First (volume.failed v x2.client x2.number y2.index) (option_and_then (λ (f : Entry). place_of f.what) (volume.numbered v.log y2.index))
            (on_more (λ z. z ≡ (y2.file, y2.page)) (λ z. First (volume.failed v x2.client x2.number y2.index z))
            (λ z q. marked (volume.failed v x2.client x2.number y2.index z)
            (ap (λ g. vpages.failed_up_to y2.index x2.client x2.number g v.log) q))
            (option_and_then (λ (f : Entry). place_of f.what) (volume.numbered v.log y2.index))
            (place_here y2.index (b.entries.owned k x2 issued y2 carried2).0))))

      carries_none : x2.carries ≡ None → OfNone
      carries_none none o y x p i c q =
          none_not_some y (sym none ∙ (ap (λ (z : IssuedCommand). z.carries) (some_is (sym issued ∙ i)) ∙ c))

      told_first : (o : Option Carried) → x2.carries ≡ o → OnSome First (run (failure x2 o ∷ []) v)
      told_first None q =
          one_volume_step First (kinds.ReadFailed x2.client x2.server x2.number) v
          (on_if First (v.lines == length v.log) (volume.acts v (kinds.ReadFailed x2.client x2.server x2.number))
          (untold (volume.failing v x2.client x2.number (volume.is_read_of x2.server)) refl (carries_none q)))
      told_first (Some y2) q = write_first y2 q

      no_instance : (site : Option WorldClient) → site_of w x2.client ≡ site → ((z : WorldClient) → site ≡ Some z → is_same_instance x2 z ≡ false) →
          OfNone
      no_instance site at never o y x p i c q =
          let same : x2 ≡ x = some_is (sym issued ∙ i) in
          let c2 : x2.carries ≡ Some y = ap (λ (z : IssuedCommand). z.carries) same ∙ c in
          let own : IsOf x2 y o = last_of o w.commands k x2 y issued c2 q in
          let l = listed past t b.stand b.opens b.entries b.ordered k x2 d y issued is open_still c2 o p own in
          clash l.same (never p.site (sym at ∙ (ap (site_of w) own.client ∙ p.there)))

      at_site : (site : Option WorldClient) → site_of w x2.client ≡ site → OnSome First (run (failure_told x2 site) v)
      unfolding run
      at_site None at = untold v refl (no_instance None at (λ z q. absurd (none_not_some z q)))
      at_site (Some site) at = go (is_same_instance x2 site) refl
        where
          go : (c : Bool) → is_same_instance x2 site ≡ c → OnSome First (run (if c then failure x2 x2.carries ∷ [] else []) v)
          go true q = told_first x2.carries refl
          go false q = untold v refl (no_instance (Some site) at (λ z i. ap (is_same_instance x2) (sym (some_is i)) ∙ q))

    pub first_holds : (o : Option IssuedCommand) → issued_of w k ≡ o → OnSome First (run (failure_of w o) v)
    unfolding run
    first_holds None q = untold v refl (λ o y x p i c z. none_not_some x (sym q ∙ i))
    first_holds (Some x2) q = at_site x2 q (site_of w x2.client) refl

    -- the rest of the event
    there_below : k ≤ length w.commands
    there_below = go k is
      where
        go : (j : ℕ) → disks.command_at w.disks.commands j ≡ Some d → j ≤ length w.commands
        go zero i = omega arith
        go (suc j) i = let l = get_below w.disks.commands j d i in let c = b.stand.both.writes.commands.counts in omega (arith, l, c)

    failed : e ≡ events.Report k false → (rest : List VolumeStep) → list_all is_unfailed rest ≡ true →
        OnSome After (run (failure_of w (issued_of w k) ++ rest) v)
    unfolding First
    failed q rest u =
        run_then After (failure_of w (issued_of w k)) rest v
        (on_more First (λ z. OnSome After (run rest z))
        (λ z f. on_more (LogKept (Unit {0}) z) After
        (λ y m n p g at there now x c ch iss carries l rep.
        go z f y m n p g at there now x c ch iss carries l (any_last (reports_failure (last_write sc.world.commands p.of)) x' past rep))
        (run rest z) (run_keeps (Unit {0}) rest z (λ i. u)))
        (run (failure_of w (issued_of w k)) v) (first_holds (issued_of w k) refl))
      where
        by_event : (j : ℕ) → is_failure_of j e ≡ true → j ≡ k
        by_event j s = sym (eqb-true k j (and_true (k == j) true (sym (ap (is_failure_of j) q) ∙ s)).0)

        sides : (o : LogOwner) (p : LogOwner) → last_write w.commands o ≡ last_write sc.world.commands p →
            (list_any (reports_failure (last_write sc.world.commands p)) past ≡ true) ⊎ (is_failure_of (last_write sc.world.commands p) e ≡ true) → Reported o
        sides o p i (inl s) = inr (ap (λ j. list_any (reports_failure j) past) i ∙ s)
        sides o p i (inr s) = inl (i ∙ by_event (last_write sc.world.commands p) s)

        below : (p : LogOwner) →
            (list_any (reports_failure (last_write sc.world.commands p)) past ≡ true) ⊎ (is_failure_of (last_write sc.world.commands p) e ≡ true) →
            last_write sc.world.commands p ≤ length w.commands
        below p (inl s) = b.reported (last_write sc.world.commands p) s
        below p (inr s) = subst (λ j. j ≤ length w.commands) (sym (by_event (last_write sc.world.commands p) s)) there_below

        go : (z : Volume) → First z → (y : Volume) → AllKeep (Unit {0}) z.log y.log → (n : ℕ) (p : LogEntry) (g : Entry) → slice_get sc.world.log n ≡ Some p →
            slice_get y.log n ≡ Some g → (now : PresentOf sc.world p.of) (x : IssuedCommand) (c : Carried) → is_change p ≡ true →
            numbered sc.world.commands (last_write sc.world.commands p.of) ≡ Some x → x.carries ≡ Some c → Reaches p (n + 1) c →
            (list_any (reports_failure (last_write sc.world.commands p.of)) past ≡ true) ⊎ (is_failure_of (last_write sc.world.commands p.of) e ≡ true) →
            (g.failed ≡ x.number) × (x.starts ≡ now.site.starts)
        go z f y m n p g at there now x c ch iss carries l s =
            let old : Was w sc.world v n p now x c = was n p now x c at ch (below p.of s) iss carries l in
            let h =
            f n old.o old.entry old.at old.there old.same old.present_ old.change x c old.issued carries old.reaches (sides old.o.of p.of old.last s) in
            let after = kept_at (Unit {0}) z.log y.log m n h.0 h.1 in
            let same : after.0 ≡ g = some_is (sym after.1 ∙ there) in
            (ap (λ (j : Entry). j.failed) (sym same) ∙ (after.2.failed tt ∙ h.2.0), h.2.1 ∙ old.starts)

  -- After the first steps of the event: what failed before it is still remembered.
  abbrev pub Marked0 : Volume → Type 0
  Marked0 z =
      (n : ℕ) (o : LogEntry) (f : Entry) → slice_get w.log n ≡ Some o → slice_get v.log n ≡ Some f → IsSame o f → (p : PresentOf w o.of) →
      is_change o ≡ true → (x : IssuedCommand) (y : Carried) → numbered w.commands (last_write w.commands o.of) ≡ Some x →
      x.carries ≡ Some y → Reaches o (n + 1) y → list_any (reports_failure (last_write w.commands o.of)) past ≡ true →
      (g : Entry) × (slice_get z.log n ≡ Some g) × ((g.failed ≡ x.number) × (x.starts ≡ p.site.starts))

  pub first_marked : OnSome Marked0 (run (of_event w e) v)
  unfolding of_event First
  first_marked = go (which_fails w e)
    where
      report : (k : ℕ) → e ≡ events.Report k false → (o : Option DiskCommand) → disks.command w.disks k ≡ o → OnSome Marked0 (run (of_event w e) v)
      report k q None i = absurd (unreported w k e q i (step_happens w e sc happened).0)
      report k q (Some d) i =
          subst (λ f. OnSome Marked0 (run (of_event w f) v)) (sym q)
          (on_more
          (First k d i (report_finds w k false d i (ap (adm.refusal w) (sym q) ∙ (step_happens w e sc happened).0)).unreported) Marked0
          (λ z f n o g at there s p ch x y iss carries l rep. f n o g at there s p ch x y iss carries l (inr rep))
          (run (failure_of w (issued_of w k)) v)
          (first_holds k d i (report_finds w k false d i (ap (adm.refusal w) (sym q) ∙ (step_happens w e sc happened).0)).unreported (issued_of w k) refl))

      go : FailsOne e ⊎ FailsNone w e → OnSome Marked0 (run (of_event w e) v)
      go (inl (k, q)) = report k q (disks.command w.disks k) refl
      go (inr (q, none)) =
          on_more (LogKept (Unit {0}) v) Marked0
          (λ z u n o f at there s p ch x y iss carries l rep.
          let m = kept_at (Unit {0}) v.log z.log u n f there in
          let h = r n o f at there p x y ch iss carries l rep in (m.0, m.1, (m.2.failed tt ∙ h.0, h.1)))
          (run (of_event w e) v) (run_keeps (Unit {0}) (of_event w e) v (λ z. q))

  -- All steps of the event.
  remembered : (it : Witness) → OnSome After (run (steps_of it v x') v)
  unfolding of_event
  remembered it = go (which_fails w e)
    where
      inside : list_all is_unfailed (of_delivery it.behind v w e ++ of_lines w sc.seen) ≡ true
      inside =
          all_unfailed (of_delivery it.behind v w e ++ of_lines w sc.seen)
          (both_inside (of_delivery it.behind v w e) (of_lines w sc.seen) (delivery_inside it.behind v w e) (lines_inside w sc.seen))

      report : (k : ℕ) → e ≡ events.Report k false → (o : Option DiskCommand) → disks.command w.disks k ≡ o → OnSome After (run (steps_of it v x') v)
      report k q None i = absurd (unreported w k e q i (step_happens w e sc happened).0)
      report k q (Some d) i =
          subst (λ f. OnSome After (run (of_event w f ++ (of_delivery it.behind v w e ++ of_lines w sc.seen)) v)) (sym q)
          (failed k d i (report_finds w k false d i (ap (adm.refusal w) (sym q) ∙ (step_happens w e sc happened).0)).unreported q
          (of_delivery it.behind v w e ++ of_lines w sc.seen) inside)

      go : FailsOne e ⊎ FailsNone w e → OnSome After (run (steps_of it v x') v)
      go (inl (k, q)) = report k q (disks.command w.disks k) refl
      go (inr (q, none)) =
          unfailed (steps_of it v x') (unfailed_then (of_event w e) (of_delivery it.behind v w e ++ of_lines w sc.seen) q inside) none

-- In every run.
pub record FailuresHold (past : List Step) (t : Traced) (it : Witness) : Type 0 where
  pub log : LogHolds past t it
  pub stand : FailuresStand past t
  pub carried : OnSome (AreMarked past t.world) it.volume
  pub marks : OnSome (AreRemembered past t.world) it.volume

abbrev pub Known : Promise
Known past x =
    TheReportTellsTheLog past x
    × (ChangesAreLocked past x × (PagesHold x.after.world × (PlacesHold x.after.world × OpenHold x.after.world)))

after_marked : (it : Witness) (past : List Step) (t : Traced) (e : Event) (sc : WorldTurn) → world_step t.world e ≡ Ok sc → FailuresStand past t →
    IsLogTold sc.world t.world.log sc.seen → (o : Option Volume) → OnSome (IsLogOf t.world.log) o → OnSome (AreMarked past t.world) o →
    OnSome (AreMarked (past ++ step t e sc ∷ []) sc.world) (volume_after it (step t e sc) o)
after_marked it past t e sc f b told None a r = tt
after_marked it past t e sc f b told (Some v) a r =
    on_then (AreMarked (past ++ step t e sc ∷ []) sc.world) if_told (run (steps_of it v (step t e sc)) v)
    (on_more (AreMarked (past ++ step t e sc ∷ []) sc.world) (λ u. OnSome (AreMarked (past ++ step t e sc ∷ []) sc.world) (if_told u))
    (λ u k. on_if (AreMarked (past ++ step t e sc ∷ []) sc.world) (u.lines == length u.log) (Some u) k) (run (steps_of it v (step t e sc)) v)
    (remembered past t e sc f b told v a r it))

-- a pending entry of a life that no crash ended is of a present life
marks_remembered : (past : List Step) (w : World) → FatesHold w → (o : Option Volume) → OnSome (IsLogOf w.log) o → OnSome (AreMarked past w) o →
    OnSome (AreRemembered past w) o
marks_remembered past w fates None a r = tt
marks_remembered past w fates (Some v) a r =
    λ n o e at there x y pend spared iss carries l rep.
    let s = same_there o (slice_get v.log n) (subst (λ k. AtBoth k (slice_get v.log n)) at (same_at w.log v.log n a.entries)) in
    (r n o e at there (present w fates o (get_has w.log n o at) pend spared) x y (s.2.change (ap log.is_pending pend)) iss carries (inl (pend, l)) rep).0

pub failures_kept : IsKept Known FailuresHold
unfolding led_by
failures_kept past t e sc it f g h =
    let x : Step = step t e sc in
    let b : FailuresStand past t = h.stand in
    let left = one_step past t e sc f b.places b.stand in
    let lined = lines_grown sc.world t.world.log t.world.log sc.seen g.1.0 (grown_self sc.world t.world.log) in
    let grown : Grown sc.world t.world.log sc.world.log = subst (Grown sc.world t.world.log) g.0.entries lined in
    let agree : LogHolds (past ++ step t e sc ∷ []) (traced_after e t sc) (led_by it (step t e sc)) = log_kept past t e sc it f g.0 h.log in
    let marked : OnSome (AreMarked (past ++ step t e sc ∷ []) sc.world) (led_by it (step t e sc)).volume =
    after_marked it past t e sc f b g.0 it.volume h.log h.carried in
    record {
      log = agree;
      stand =
          record {
            stand = left.stand;
            places = g.1.1.1.0;
            opens = g.1.1.1.1;
            entries = entries_kept t.world e sc f g.0 b.stand.fates.lives left.stand.fates.lives g.1.1.0 b.entries;
            ordered = ordered_kept sc.world t.world.log left.stand.fates.lives grown b.ordered;
            reported = reported_kept past t e sc f b;
          };
      carried = marked;
      marks = marks_remembered (past ++ step t e sc ∷ []) sc.world left.stand.fates (led_by it (step t e sc)).volume agree marked;
    }

fresh_ordered : (k : Config) (clients servers disks blocks form : ℕ) → Ordered (fresh_world k clients servers disks blocks form).log
unfolding fresh_world
fresh_ordered k clients servers disks blocks form m n o p qo qp l co cp client server = cc qo

none_at : (es : List LogEntry) (n : ℕ) (o : LogEntry) → length es ≡ 0 → slice_get es n ≡ Some o → ⊥
none_at es n o q i = let l = get_below es n o i in omega (arith, l, q)

pub failures_begin : (k : Config) (clients servers disks blocks form : ℕ) →
    FailuresHold [] (traced (fresh_world k clients servers disks blocks form))
    (begun (fresh_world k clients servers disks blocks form) (fresh_world k clients servers disks blocks form))
unfolding begun fresh_world
failures_begin k clients servers disks blocks form =
    record {
      log = log_begins k clients servers disks blocks form;
      stand =
          record {
            stand = fresh_stand k clients servers disks blocks form;
            places = fresh_places k clients servers disks blocks form;
            opens = (fresh_stand k clients servers disks blocks form).writes.open_;
            entries = fresh_carried k clients servers disks blocks form;
            ordered = fresh_ordered k clients servers disks blocks form;
            reported = λ j q. cc q;
          };
      carried = λ n o e at there. absurd (none_at [] n o refl at);
      marks = λ n o e at there. absurd (none_at [] n o refl at);
    }

-- what is known of each step
pub known_in : (k : Config) (clients servers disks blocks form : ℕ) (es : List Event) → IsHead k clients servers disks blocks form →
    IsSafeRun (fresh_world k clients servers disks blocks form) es →
    Throughout PagesAfter [] (steps es (traced (fresh_world k clients servers disks blocks form))) →
    Throughout Known [] (steps es (traced (fresh_world k clients servers disks blocks form)))
known_in k clients servers disks blocks form es head kept pages =
    let t : Traced = traced (fresh_world k clients servers disks blocks form) in
    throughout_both TheReportTellsTheLog
    (λ past x. ChangesAreLocked past x × (PagesHold x.after.world × (PlacesHold x.after.world × OpenHold x.after.world))) [] (steps es t) kept.told
    (throughout_both ChangesAreLocked (λ past x. PagesHold x.after.world × (PlacesHold x.after.world × OpenHold x.after.world)) [] (steps es t) kept.locked
    (throughout_both PagesAfter (λ past x. PlacesHold x.after.world × OpenHold x.after.world) [] (steps es t)
    pages
    (throughout_both (λ past x. PlacesHold x.after.world) (λ past x. OpenHold x.after.world) [] (steps es t)
    (places_law k clients servers disks blocks form es head) (open_law k clients servers disks blocks form es head))))

pub failed_writes_are_remembered : EveryRunIsSafe → InEveryRun PagesAfter → InEveryRun FailedWritesAreRemembered
failed_writes_are_remembered safe pages k clients servers disks blocks form es head events =
    let t : Traced = traced (fresh_world k clients servers disks blocks form) in
    throughout_more (Led FailuresHold) FailedWritesAreRemembered (λ past x h. h.marks) [] (steps es t)
    (carried Known FailuresHold failures_kept es t (failures_begin k clients servers disks blocks form)
    (known_in k clients servers disks blocks form es head (safe k clients servers disks blocks form es head events)
    (pages k clients servers disks blocks form es head events)))
