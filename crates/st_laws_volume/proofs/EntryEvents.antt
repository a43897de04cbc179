-- What an event's own steps leave of each entry that the volume has: a failed write may change its number, and a crash of its client marks it.
use Rattle.st_lemmas.proofs.Words
use Words.{◌≡◌, ◌≤◌, ◌⊎◌, ℕ, zero, suc, ◌+◌, ◌||◌, ◌==◌, Bool, true, false, List, [], ◌∷◌, ◌++◌, Option, Some, None, Ok, refl, sym, ap, ◌∙◌, subst, inl, inr, if◌then◌else◌}
use Words.{length, list_all, map, option_and_then, slice_get, ClientId, Event, DiskCommand, Observation, Carried, IssuedCommand}
use Words.events
use Words.nodes
use Words.reports
use Words.seen
use Words.Admissible as adm
use Words.Disks as disks
use Words.Events.{WorldTurn, is_same_instance, world_step}
use Words.Lookups.{some_is}
use Words.Safety.{Step}
use Words.Tables.{and_both, and_true}
use Words.World.{World, WorldClient, issued_of, numbered, site_of}
use Rattle.st_rules.specs.History.{Traced}
use Rattle.st_rules.specs.Lines.{IsLogTold}
use Rattle.st_lemmas.proofs.Steps.{step_happens}
use Rattle.st_laws_pages.proofs.Disks.Effects.{report_finds}
use Rattle.st_laws_volume.specs.Logs.{IsLogOf}
use Rattle.st_laws_volume.specs.Options.{OnSome}
use Rattle.st_laws_volume.specs.Seen.{failure, failure_of, failure_told, of_event, of_line}
use Rattle.st_laws_volume.specs.Witness.{Behind, before_line, of_delivery, of_lines}
use Rattle.st_laws_volume.proofs.AnswerSteps.{delivery_silent, is_silent}
use Rattle.st_laws_volume.proofs.EntryMarks.{Alike, IsNew, LogStays, Stay, is_plain, map_at, new_at, run_stays, stayed_at}
use Rattle.st_laws_volume.proofs.EventClients.{is_mute}
use Rattle.st_laws_volume.proofs.FailureMarks.{FailsOne, FailuresStand, unreported}
use Rattle.st_laws_volume.proofs.FailureMarks as failing
use Rattle.st_laws_volume.proofs.FailureTouches.{Left, Spared, Touched, left_at}
use Rattle.st_laws_volume.proofs.LogLines.{one_step as one_volume_step}
use Rattle.st_laws_volume.proofs.Options.{on_if, on_map, on_more}
use Rattle.st_laws_volume.proofs.StepKinds.{delivery_inside, is_inside}
use Rattle.st_volume.specs.declared.step.VolumeStep.{VolumeStep}
use Rattle.st_volume.specs.declared.step.VolumeStep.TheVariants as kinds
use Rattle.st_volume.specs.Pages.{Entry, failed_up_to, is_by, is_by_at, is_open, place_of}
use Rattle.st_volume.specs.Volume as volume
use Rattle.st_volume.specs.Volume.{Volume, crash_of, run}

-- An entry after some steps: it was there before, or is new.
abbrev pub Was : (Entry → Entry → Type 0) → List Entry → ℕ → Entry → Type 0
Was R es n g = ((f : Entry) × (slice_get es n ≡ Some f) × R f g) ⊎ ((slice_get es n ≡ None) × IsNew g)

abbrev pub AllWere : (Entry → Entry → Type 0) → List Entry → List Entry → Type 0
AllWere R es fs = (n : ℕ) (g : Entry) → slice_get fs n ≡ Some g → Was R es n g

pub stayed : (es fs : List Entry) → Stay es fs → AllWere Alike es fs
stayed es fs k n g i = go (slice_get es n) refl
  where
    go : (o : Option Entry) → slice_get es n ≡ o → Was Alike es n g
    go None q = inr (q, new_at es fs k n g i q)
    go (Some f) q = let z = stayed_at es fs k n f q in inl (f, q, subst (Alike f) (some_is (sym z.1 ∙ i)) z.2)

-- A failed write that reached an entry.
pub record Hit (w : World) (n : ℕ) (f g : Entry) : Type 0 where
  pub k : ℕ
  pub x : IssuedCommand
  pub d : DiskCommand
  pub y : Carried
  pub issued : numbered w.commands k ≡ Some x
  pub is : disks.command_at w.disks.commands k ≡ Some d
  pub unreported : d.report ≡ reports.Open
  pub carries : x.carries ≡ Some y
  pub low : suc n ≤ y.index
  pub by : is_by_at x.client (y.file, y.page) f ≡ true
  pub how : (suc n ≡ y.index) ⊎ (is_open f.fate ≡ true)
  pub number : g.failed ≡ x.number

-- What the event's own steps leave of an entry.
pub record Own (w : World) (e : Event) (n : ℕ) (f g : Entry) : Type 0 where
  pub what : g.what ≡ f.what
  pub client : g.client ≡ f.client
  pub told : g.told ≡ f.told
  pub crashed : (g.crashed ≡ f.crashed) ⊎ ((c : ClientId) × (e ≡ events.Crash (nodes.Client c)) × (is_by c f ≡ true))
  pub failed : (g.failed ≡ f.failed) ⊎ Hit w n f g

abbrev pub AllOwn : World → Event → Volume → Volume → Type 0
AllOwn w e v z = (n : ℕ) (g : Entry) → slice_get z.log n ≡ Some g → Was (Own w e n) v.log n g

own_of_alike : (w : World) (e : Event) (n : ℕ) (f g : Entry) → Alike f g → Own w e n f g
own_of_alike w e n f g k = record { what = k.what; client = k.client; told = k.told; crashed = inl k.crashed; failed = inl k.failed }

own_of_stay : (w : World) (e : Event) (v z : Volume) → LogStays v z → AllOwn w e v z
own_of_stay w e v z k n g i = go (stayed v.log z.log k n g i)
  where
    go : Was Alike v.log n g → Was (Own w e n) v.log n g
    go (inl (f, q, a)) = inl (f, q, own_of_alike w e n f g a)
    go (inr q) = inr q

own_crash : (w : World) (e : Event) (c : ClientId) → e ≡ events.Crash (nodes.Client c) → (v z : Volume) → z.log ≡ map (crash_of c) v.log → AllOwn w e v z
own_crash w e c q v z same n g i = go (map_at (crash_of c) v.log n g (ap (λ es. slice_get es n) (sym same) ∙ i))
  where
    mark : (f : Entry) (b : Bool) → is_by c f ≡ b → ((f.crashed || b) ≡ f.crashed) ⊎ ((d : ClientId) × (e ≡ events.Crash (nodes.Client d)) × (is_by d f ≡ true))
    mark f true p = inr (c, q, p)
    mark f false p = inl (none f.crashed)
      where
        none : (a : Bool) → (a || false) ≡ a
        none true = refl
        none false = refl

    go : (f : Entry) × (slice_get v.log n ≡ Some f) × (g ≡ crash_of c f) → Was (Own w e n) v.log n g
    go (f, j, p) =
        inl (
          f,
          j,
          subst (Own w e n f) (sym p)
              (record {
                what = refl;
                client = refl;
                told = refl;
                crashed = mark f (is_by c f) refl;
                failed = inl refl;
              }),
        )

-- Events whose own steps mark nothing, or are a crash of a client, or a failed report.
which : (w : World) (e : Event) →
    FailsOne e ⊎ ((list_all is_plain (of_event w e) ≡ true) ⊎ ((c : ClientId) × (e ≡ events.Crash (nodes.Client c))))
unfolding of_event
which w (events.Report k false) = inl (k, refl)
which w (events.Crash (nodes.Client c)) = inr (inr (c, refl))
which w (events.Report k true) = inr (inl refl)
which w (events.App c ask) = inr (inl refl)
which w (events.Tick n) = inr (inl refl)
which w (events.Deliver k) = inr (inl refl)
which w (events.Lose k) = inr (inl refl)
which w (events.Cut from to) = inr (inl refl)
which w (events.Heal from to) = inr (inl refl)
which w (events.Advance increments) = inr (inl refl)
which w (events.Effect k) = inr (inl refl)
which w (events.Crash (nodes.Server s)) = inr (inl refl)
which w (events.Start (nodes.Client c)) = inr (inl refl)
which w (events.Start (nodes.Server s)) = inr (inl refl)

module _ (past : List Step) (t : Traced) (e : Event) (sc : WorldTurn) (happened : world_step t.world e ≡ Ok sc) (b : FailuresStand past t)
    (told : IsLogTold sc.world t.world.log sc.seen) (v : Volume) (a : IsLogOf t.world.log v)
    (r : failing.AreMarked past t.world v) where
  abbrev w : World
  w = t.world

  abbrev After : Volume → Type 0
  After z = AllOwn w e v z

  same : (z : Volume) → z.log ≡ v.log → After z
  same z q n g i =
      inl (g, ap (λ es. slice_get es n) (sym q) ∙ i, record { what = refl; client = refl; told = refl; crashed = inl refl; failed = inl refl })

  -- the failed report of a command
  module _ (k : ℕ) (d : DiskCommand) (is : disks.command_at w.disks.commands k ≡ Some d) (open_still : d.report ≡ reports.Open)
      (x : IssuedCommand) (issued : numbered w.commands k ≡ Some x) where
    module _ (y : Carried) (carries : x.carries ≡ Some y) where
      written : (z : Volume) → z.log ≡ failed_up_to y.index x.client x.number (y.file, y.page) v.log → After z
      unfolding failed_up_to
      written z q n g i = go (slice_get v.log n) refl
        where
          one : (f : Entry) → (h : Entry) → Left y.index x.client x.number (y.file, y.page) n f h → Own w e n f h
          one f _ Spared = record { what = refl; client = refl; told = refl; crashed = inl refl; failed = inl refl }
          one f _ (Touched l p how) =
              record {
                what = refl;
                client = refl;
                told = refl;
                crashed = inl refl;
                failed =
                    inr (record {
                      k = k;
                      x = x;
                      d = d;
                      y = y;
                      issued = issued;
                      is = is;
                      unreported = open_still;
                      carries = carries;
                      low = l;
                      by = p;
                      how = how;
                      number = refl;
                    });
              }

          go : (o : Option Entry) → slice_get v.log n ≡ o → Was (Own w e n) v.log n g
          go (Some f) j =
              let h = left_at y.index x.client x.number (y.file, y.page) v.log n f j in
              let its : h.0 ≡ g = some_is (sym h.1 ∙ (ap (λ es. slice_get es n) (sym q) ∙ i)) in
              inl (f, j, subst (Own w e n f) its (one f h.0 h.2))
          go None j =
              absurd (none y.index v.log n g j (ap (λ es. slice_get es n) (sym q) ∙ i))
            where
              none : (m : ℕ) (es : List Entry) (n : ℕ) (g : Entry) → slice_get es n ≡ None →
                  slice_get (failed_up_to m x.client x.number (y.file, y.page) es) n ≡ Some g → ⊥
              none zero es n g p u = cc (sym p ∙ u)
              none (suc m) [] n g p u = cc u
              none (suc m) (f ∷ es) zero g p u = cc p
              none (suc m) (f ∷ es) (suc n) g p u = none m es n g p u

      write_own : OnSome After (run (kinds.WriteFailed x.client x.number y.index ∷ []) v)
      write_own =
          one_volume_step After (kinds.WriteFailed x.client x.number y.index) v
          (on_if After (v.lines == length v.log) (volume.acts v (kinds.WriteFailed x.client x.number y.index))
          (on_map After (volume.failed v x.client x.number y.index)
          (option_and_then (λ (f : Entry). place_of f.what) (volume.numbered v.log y.index))
          (on_more (λ z. z ≡ (y.file, y.page)) (λ z. After (volume.failed v x.client x.number y.index z))
          (λ z q. written (volume.failed v x.client x.number y.index z) (ap (λ g. failed_up_to y.index x.client x.number g v.log) q))
          (option_and_then (λ (f : Entry). place_of f.what) (volume.numbered v.log y.index))
          (failing.place_here past t e sc happened b told v a r k d is open_still x issued y carries y.index
          (b.entries.owned k x issued y carries).0))))

    told_own : (o : Option Carried) → x.carries ≡ o → OnSome After (run (failure x o ∷ []) v)
    told_own None q =
        one_volume_step After (kinds.ReadFailed x.client x.server x.number) v
        (on_if After (v.lines == length v.log) (volume.acts v (kinds.ReadFailed x.client x.server x.number))
        (same (volume.failing v x.client x.number (volume.is_read_of x.server)) refl))
    told_own (Some y) q = write_own y q

    site_own : (site : Option WorldClient) → OnSome After (run (failure_told x site) v)
    unfolding run
    site_own None = same v refl
    site_own (Some site) = go (is_same_instance x site)
      where
        go : (c : Bool) → OnSome After (run (if c then failure x x.carries ∷ [] else []) v)
        go true = told_own x.carries refl
        go false = same v refl

  report_own : (k : ℕ) (d : DiskCommand) → disks.command_at w.disks.commands k ≡ Some d → d.report ≡ reports.Open → (o : Option IssuedCommand) →
      issued_of w k ≡ o → OnSome After (run (failure_of w o) v)
  unfolding run
  report_own k d is u None q = same v refl
  report_own k d is u (Some x) q = site_own k d is u x q (site_of w x.client)

  pub own_steps : OnSome After (run (of_event w e) v)
  unfolding of_event run
  own_steps = go (which w e)
    where
      report : (k : ℕ) → e ≡ events.Report k false → (o : Option DiskCommand) → disks.command w.disks k ≡ o → OnSome After (run (of_event w e) v)
      report k q None i = absurd (unreported w k e q i (step_happens w e sc happened).0)
      report k q (Some d) i =
          subst (λ f. OnSome After (run (of_event w f) v)) (sym q)
          (report_own k d i (report_finds w k false d i (ap (adm.refusal w) (sym q) ∙ (step_happens w e sc happened).0)).unreported (issued_of w k) refl)

      go : FailsOne e ⊎ ((list_all is_plain (of_event w e) ≡ true) ⊎ ((c : ClientId) × (e ≡ events.Crash (nodes.Client c)))) →
          OnSome After (run (of_event w e) v)
      go (inl (k, q)) = report k q (disks.command w.disks k) refl
      go (inr (inl q)) = on_more (LogStays v) After (λ z k. own_of_stay w e v z k) (run (of_event w e) v) (run_stays (of_event w e) v q)
      go (inr (inr (c, q))) =
          subst (λ f. OnSome After (run (of_event w f) v)) (sym q)
          (one_volume_step After (kinds.Crashed c) v
          (on_if After (v.lines == length v.log) (volume.acts v (kinds.Crashed c)) (own_crash w e c q v (volume.crashed v c) refl)))

-- What a server does with a request marks nothing, and neither do lines that tell of no client.
plain_of : (it : VolumeStep) → is_inside it ≡ true → is_silent it ≡ true → is_plain it ≡ true
plain_of (kinds.TakesEffect c op) p q = refl
plain_of (kinds.Joined i c what) p q = refl
plain_of (kinds.Answered c op answer) p q = cc q
plain_of (kinds.Hardened i) p q = refl
plain_of (kinds.Dropped i cause) p q = refl
plain_of it p q = cc p

all_plain : (its : List VolumeStep) → list_all is_inside its ≡ true → list_all is_silent its ≡ true → list_all is_plain its ≡ true
all_plain [] p q = refl
all_plain (it ∷ its) p q =
    let a = and_true (is_inside it) (list_all is_inside its) p in
    let b = and_true (is_silent it) (list_all is_silent its) q in
    and_both (is_plain it) (list_all is_plain its) (plain_of it a.0 b.0) (all_plain its a.1 b.1)

pub served_plain : (bs : List Behind) (v : Volume) (w : World) (e : Event) → list_all is_plain (of_delivery bs v w e) ≡ true
served_plain bs v w e = all_plain (of_delivery bs v w e) (delivery_inside bs v w e) (delivery_silent bs v w e)

pub mute_plain : (w : World) (os : List Observation) → list_all is_mute os ≡ true → list_all is_plain (of_lines w os) ≡ true
unfolding of_lines before_line of_line
mute_plain w [] q = refl
mute_plain w (o ∷ os) q =
    let b = and_true (is_mute o) (list_all is_mute os) q in go o b.0 (mute_plain w os b.1)
  where
    go : (o : Observation) → is_mute o ≡ true → list_all is_plain (of_lines w os) ≡ true →
        list_all is_plain (before_line o os ++ (of_line w o ++ of_lines w os)) ≡ true
    go (seen.Lost c s life) z r = cc z
    go (seen.Answered c op answer) z r = cc z
    go (seen.Wrote i c f p bytes) z r = cc z
    go (seen.Patched i c f p at bytes) z r = cc z
    go (seen.CutAt i f p) z r = r
    go (seen.Hardened i) z r = r
    go (seen.Dropped i cause) z r = r
    go (seen.Sent k m) z r = r
    go (seen.Submitted k c number what) z r = r
    go (seen.Leased c s end) z r = r
    go (seen.Suspected s c start) z r = r
    go (seen.Stolen s c life) z r = r
