-- In every run each entry that is dropped is met: its client crashed since or was told, or its page is still owed or to be lost.
use Rattle.st_lemmas.proofs.Words
use Words.{◌≡◌, ℕ, zero, suc, ◌⊎◌, ◌+◌, Bool, true, false, ◌&&◌, ◌||◌, ◌==◌, List, [], ◌∷◌, ◌++◌, Option, Some, None, Ok, refl, sym, ap, ◌∙◌, subst, inl, inr, if◌then◌else◌}
use Words.{append_assoc, append-nil, eq-eqb, eqb-true, le-leb, length, list_all, list_any, nat_le, slice_get, ClientId, Event, FileId, PageNo, ServerId, Cause, Fate, LogEntry, LogOwner, LeaseLife, LostPage, Observation, Carried}
use Words.causes
use Words.events
use Words.fates
use Words.nodes
use Words.seen
use Words.Admissible as adm
use Words.ClientLease as lease
use Words.ClientPages.{is_lost_of}
use Words.ClientState.{Association}
use Words.Events as ev
use Words.Events.{WorldTurn, counted, happens, is_change, world_step}
use Words.FlatLog as log
use Words.Keys.{same_client}
use Words.Lines as lines
use Words.Lines.{IsLogTold}
use Words.Lists.{Has}
use Words.Lookups.{some_is}
use Words.Numbers.{get_has}
use Words.Safety.{IsHead, Promise, Step, Throughout, ask_of, is_crash_of, step, steps}
use Words.Tables.{and_both, and_true, some_passes}
use Words.Truth.{clash}
use Words.World as world
use Words.World.{World, WorldClient, clock_of, fresh_world, issued_of, site_of}
use Rattle.st_base.specs.declared.config.Config.{Config}
use Rattle.st_rules.specs.History.{Traced, traced}
use Rattle.st_lemmas.proofs.Steps.{step_happens}
use Rattle.st_promises.specs.Losses.{AreLossesTold, LossesAreTold, owed, owed_after, owed_along, owed_behind, owed_from}
use Rattle.st_promises.specs.Safe.{EveryRunIsSafe, IsSafeRun}
use Rattle.st_laws_steps.specs.Client.Losses.{Fit, is_ended}
use Rattle.st_laws_pages.specs.Disks.Obligations.{FatesHold}
use Rattle.st_laws_pages.specs.Disks.Runs.{PagesAfter}
use Rattle.st_laws_pages.specs.Flush.Flush.{FlushHold}
use Rattle.st_laws_pages.specs.Writes.Writes.{ListsAgree}
use Rattle.st_laws_pages.proofs.Asks.World.{asks_more, asks_of}
use Rattle.st_laws_pages.proofs.Causes.Events.{counted_both}
use Rattle.st_laws_pages.proofs.Causes.Law.{stand_agrees}
use Rattle.st_laws_pages.proofs.Disks.Steps.{counted_fates}
use Rattle.st_laws_pages.proofs.Disks.Whole.{fates_law}
use Rattle.st_laws_pages.proofs.Drops.Dropping.{IsLeft, reached_crashed, reached_left}
use Rattle.st_laws_volume.specs.FateMarks.{is_crash_of as is_crashing}
use Rattle.st_laws_volume.specs.Logs.{InEveryRun, IsLogOf, IsSame}
use Rattle.st_laws_volume.specs.LossMarks.{AreMet, IsLate, IsMet, LossesAreMet}
use Rattle.st_laws_volume.specs.Options.{OnSome}
use Rattle.st_laws_volume.specs.Seen.{of_event, of_line}
use Rattle.st_laws_volume.specs.Witness.{Witness, before_line, begun, if_told, led_by, of_delivery, of_lines, steps_of, volume_after}
use Rattle.st_laws_volume.proofs.AskedAsks.{AreOf, Asked, RightHold, asked_after, event_right, moved, right_begins, right_kept, run_right}
use Rattle.st_laws_volume.proofs.AsksTaken.{all_other}
use Rattle.st_laws_volume.proofs.Carried.{IsKept, Led, carried}
use Rattle.st_laws_volume.proofs.ChangeLines.{block_other, on_both}
use Rattle.st_laws_volume.proofs.FailureEntries.{kept_at}
use Rattle.st_laws_volume.proofs.FailureLives.{pending_at}
use Rattle.st_laws_volume.proofs.FailureMarks as failing
use Rattle.st_laws_volume.proofs.FailureMarks.{FailuresHold, FailuresStand, failures_begin, failures_kept}
use Rattle.st_laws_volume.proofs.FateCrashes.{MarksHold, MarksOf, marks_begin, marks_kept}
use Rattle.st_laws_volume.proofs.FateEnds.{marked_at}
use Rattle.st_laws_volume.proofs.FateKeeps.{AllCrashed, AllKeep, Keeps, LogKept, crash_marks, run_keeps}
use Rattle.st_laws_volume.proofs.FateSeen.{event_silent, gives_fates, tells_none}
use Rattle.st_laws_volume.proofs.LogEntries.{same_first}
use Rattle.st_laws_volume.proofs.LogLines.{delivery_quiet, event_quiet, line_told, run_then}
use Rattle.st_laws_volume.proofs.LogSteps.{IsTold, quiet_run}
use Rattle.st_laws_volume.proofs.Logs.{told_of}
use Rattle.st_laws_volume.proofs.LossEvents.{event_part}
use Rattle.st_laws_volume.proofs.LossLines.{LateAt, MetAt, RowsAt, block_met, first_at, is_loss_of, met_by_steps}
use Rattle.st_laws_volume.proofs.LossShapes.{Part}
use Rattle.st_laws_volume.proofs.OpenAnswers.{block}
use Rattle.st_laws_volume.proofs.Options.{on_if, on_more, on_then}
use Rattle.st_laws_volume.proofs.ReadPages.{throughout_both, throughout_more}
use Rattle.st_laws_volume.proofs.StepKinds.{delivery_inside}
use Rattle.st_volume.specs.declared.step.VolumeStep.{VolumeStep}
use Rattle.st_volume.specs.Pages.{Entry, is_by}
use Rattle.st_volume.specs.Volume.{Volume, run}

-- What is owed after one more step.
from_last : (c : ClientId) (s : ServerId) (past xs : List Step) (x : Step) (rows : List LostPage) →
    owed_from c s past rows (xs ++ x ∷ []) ≡ owed_after (past ++ xs) x c s (owed_from c s past rows xs)
unfolding owed_from
from_last c s past [] x rows = ap (λ p. owed_after p x c s rows) (sym (append-nil past))
from_last c s past (y ∷ xs) x rows =
    from_last c s (past ++ y ∷ []) xs x (owed_after past y c s rows)
    ∙ ap (λ p. owed_after p x c s (owed_from c s (past ++ y ∷ []) (owed_after past y c s rows) xs)) (append_assoc past (y ∷ []) xs)

pub owed_last : (past : List Step) (x : Step) (c : ClientId) (s : ServerId) → owed (past ++ x ∷ []) c s ≡ owed_after past x c s (owed past c s)
owed_last past x c s = from_last c s [] past x []

-- lines that tell no losses leave what is owed
abbrev is_mute : Observation → Bool
is_mute (seen.Lost c s life) = false
is_mute (seen.Answered c op answer) = false
is_mute o = true

mute_rows : (past : List Step) (x : Step) (c : ClientId) (s : ServerId) (os : List Observation) (rows : List LostPage) → list_all is_mute os ≡ true →
    owed_along (ask_of past x c) x.before.world c s rows os ≡ rows
unfolding owed_along
mute_rows past x c s [] rows q = refl
mute_rows past x c s (o ∷ os) rows q =
    let b = and_true (is_mute o) (list_all is_mute os) q in
    ap (λ z. owed_along (ask_of past x c) x.before.world c s z os) (one o b.0) ∙ mute_rows past x c s os rows b.1
  where
    one : (o : Observation) → is_mute o ≡ true → owed_behind (ask_of past x c) x.before.world c s rows o ≡ rows
    one (seen.Lost d t life) z = cc z
    one (seen.Answered d op a) z = cc z
    one o z = refl

fates_mute : (n : ℕ) (es fs : List LogEntry) → list_all is_mute (ev.fates_from n es fs) ≡ true
unfolding ev.fates_from
fates_mute n [] fs = refl
fates_mute n (e ∷ es) [] = refl
fates_mute n (e ∷ es) (f ∷ fs) = go e.fate f.fate (fates_mute (n + 1) es fs)
  where
    go : (a b : Fate) → list_all is_mute (ev.fates_from (n + 1) es fs) ≡ true → list_all is_mute (ev.fate_seen n a b ++ ev.fates_from (n + 1) es fs) ≡ true
    go fates.Pending fates.Pending h = h
    go fates.Pending fates.Hard h = h
    go fates.Pending (fates.Gone cause) h = h
    go fates.Hard b h = h
    go (fates.Gone cause) b h = h

-- Logs whose fates change: an entry that is gone after was gone before, or was pending and is gone for a reason.
record Gone (reason : LogOwner → Type 0) (o p : LogEntry) : Type 0 where
  of : p.of ≡ o.of
  change : is_change p ≡ is_change o
  pending : p.fate ≡ fates.Pending → o.fate ≡ fates.Pending
  gone : log.counts p.fate ≡ false → (log.counts o.fate ≡ false) ⊎ ((o.fate ≡ fates.Pending) × reason o.of)

abbrev AllGone : (LogOwner → Type 0) → List LogEntry → List LogEntry → Type 0
AllGone reason [] [] = Unit {0}
AllGone reason [] (p ∷ ps) = ⊥
AllGone reason (o ∷ os) [] = ⊥
AllGone reason (o ∷ os) (p ∷ ps) = Gone reason o p × AllGone reason os ps

gone_at : (reason : LogOwner → Type 0) (os ps : List LogEntry) → AllGone reason os ps → (n : ℕ) (p : LogEntry) → slice_get ps n ≡ Some p →
    (o : LogEntry) × (slice_get os n ≡ Some o) × Gone reason o p
gone_at reason [] [] h n p q = cc q
gone_at reason [] (x ∷ ps) h n p q = absurd h
gone_at reason (o ∷ os) [] h n p q = cc q
gone_at reason (o ∷ os) (x ∷ ps) h zero p q = (o, refl, subst (Gone reason o) (some_is q) h.0)
gone_at reason (o ∷ os) (x ∷ ps) h (suc n) p q = gone_at reason os ps h.1 n p q

gone_self : (reason : LogOwner → Type 0) (os : List LogEntry) → AllGone reason os os
gone_self reason [] = tt
gone_self reason (o ∷ os) = (record { of = refl; change = refl; pending = λ z. z; gone = λ z. inl z }, gone_self reason os)

gone_harder : (reason : LogOwner → Type 0) (n i : ℕ) (owner : LogOwner) (os : List LogEntry) → AllGone reason os (log.harden_from n i owner os)
unfolding log.harden_from log.hardened log.harder_entry
gone_harder reason n i owner [] = tt
gone_harder reason n i owner (o ∷ os) = (go (nat_le n i && log.same_owner o.of owner), gone_harder reason (n + 1) i owner os)
  where
    waits : (f : Fate) → log.harder f ≡ fates.Pending → f ≡ fates.Pending
    waits fates.Pending z = refl
    waits fates.Hard z = cc z
    waits (fates.Gone cause) z = cc z

    harder : (f : Fate) → log.counts (log.harder f) ≡ false → log.counts f ≡ false
    harder fates.Pending z = cc z
    harder fates.Hard z = cc z
    harder (fates.Gone cause) z = refl

    go : (b : Bool) → Gone reason o (if b then record o { fate = log.harder o.fate } else o)
    go true = record { of = refl; change = refl; pending = λ z. waits o.fate z; gone = λ z. inl (harder o.fate z) }
    go false = record { of = refl; change = refl; pending = λ z. z; gone = λ z. inl z }

gone_effect : (reason : LogOwner → Type 0) (os : List LogEntry) (x : Option Carried) → AllGone reason os (ev.log_hard os x)
unfolding log.harden log.harden_at
gone_effect reason os None = gone_self reason os
gone_effect reason os (Some x) = go (log.entry_at os x.index)
  where
    go : (o : Option LogEntry) → AllGone reason os (log.harden_at os x.index o)
    go None = gone_self reason os
    go (Some o) = gone_harder reason 1 x.index o.of os

-- one more drop
gone_dropped : (reason : LogOwner → Type 0) (n : ℕ) (picked : ℕ → LogOwner → Bool) (cause : FileId → PageNo → Cause) (os gs : List LogEntry) →
    ((n : ℕ) (o : LogOwner) → picked n o ≡ true → reason o) → AllGone reason os gs → AllGone reason os (log.drop_from n picked cause gs)
unfolding log.drop_from log.dropped log.lost_entry
gone_dropped reason n picked cause [] [] why h = tt
gone_dropped reason n picked cause [] (g ∷ gs) why h = absurd h
gone_dropped reason n picked cause (o ∷ os) [] why h = absurd h
gone_dropped reason n picked cause (o ∷ os) (g ∷ gs) why h = (go (picked n g.of) refl, gone_dropped reason (n + 1) picked cause os gs why h.1)
  where
    waits : (f : Fate) → g.fate ≡ f → log.lost (cause g.of.file g.of.page) f ≡ fates.Pending → o.fate ≡ fates.Pending
    waits fates.Pending q z = cc z
    waits fates.Hard q z = cc z
    waits (fates.Gone d) q z = cc z

    lost : picked n g.of ≡ true → (f : Fate) → g.fate ≡ f → log.counts (log.lost (cause g.of.file g.of.page) f) ≡ false →
        (log.counts o.fate ≡ false) ⊎ ((o.fate ≡ fates.Pending) × reason o.of)
    lost b fates.Pending q z = inr (h.0.pending q, subst reason h.0.of (why n g.of b))
    lost b fates.Hard q z = cc z
    lost b (fates.Gone d) q z = h.0.gone (ap log.counts q)

    go : (b : Bool) → picked n g.of ≡ b → Gone reason o (if b then record g { fate = log.lost (cause g.of.file g.of.page) g.fate } else g)
    go true b = record { of = h.0.of; change = h.0.change; pending = λ z. waits g.fate refl z; gone = λ z. lost b g.fate refl z }
    go false b = h.0

-- the ends of lives
gone_ended : (reason : LogOwner → Type 0) (w : World) (ls : List LeaseLife) (os gs : List LogEntry) →
    ((l : LeaseLife) → Has l ls → (o : LogOwner) → ev.is_of_life_over l 0 o ≡ true → reason o) → AllGone reason os gs →
    AllGone reason os (ev.log_ended_all w.commands ls gs)
unfolding ev.log_ended_all ev.log_ended log.drop_picked
gone_ended reason w [] os gs why h = h
gone_ended reason w (l ∷ ls) os gs why h =
    gone_ended reason w ls os (ev.log_ended w.commands l gs) (λ k i. why k (inr i))
    (gone_dropped reason 1 (ev.is_of_life_over l) (ev.cause_at_end w.commands l) os gs (λ n o b. why l (inl refl) o b) h)

-- An entry of a client that crashed is marked.
crashed_at : (c : ClientId) (es fs : List Entry) → AllCrashed c es fs → (n : ℕ) (e f : Entry) → slice_get es n ≡ Some e → slice_get fs n ≡ Some f →
    is_by c e ≡ true → f.crashed ≡ true
crashed_at c [] fs h n e f i j b = cc i
crashed_at c (x ∷ es) [] h n e f i j b = cc j
crashed_at c (x ∷ es) (y ∷ fs) h zero e f i j b =
    ap (λ (z : Entry). z.crashed) (sym (some_is j)) ∙ h.0 (ap (is_by c) (some_is i) ∙ b)
crashed_at c (x ∷ es) (y ∷ fs) h (suc n) e f i j b = crashed_at c es fs h.1 n e f i j b

-- An event.
module _ (past : List Step) (t : Traced) (e : Event) (sc : WorldTurn) (happened : world_step t.world e ≡ Ok sc) (it : Witness) (b : FailuresStand past t)
    (v : Volume) (a : IsLogOf t.world.log v) (r : AreOf (asks_of past) v) (marked : MarksOf t.world v)
    (met : AreMet (owed past) (IsLate t.world) t.world.log v) where
  abbrev w : World
  w = t.world

  abbrev x' : Step
  x' = step t e sc

  abbrev as_ : Asked
  as_ = asks_of (past ++ x' ∷ [])

  admitted : adm.refusal w e ≡ None
  admitted = (step_happens w e sc happened).0

  is_so : sc ≡ happens (counted w) e
  is_so = (step_happens w e sc happened).1

  abbrev Wanted : Volume → Type 0
  Wanted = AreMet (owed (past ++ x' ∷ [])) (IsLate sc.world) sc.world.log

  fits : (d : ClientId) (site : WorldClient) → site_of w d ≡ Some site → (k : Association) → Has k site.node.state.associations → Fit k
  fits d site there = (b.stand.fates.lives.lives.sites d site there).fit

  part : (c : ClientId) → (e ≡ events.Crash (nodes.Client c) → ⊥) → Part w c sc
  part c n = subst (Part w c) (sym is_so) (event_part w c fits e admitted n)

  -- with all lines told
  ended : ((c : ClientId) → is_crash_of c e ≡ false) → ((c : ClientId) → e ≡ events.Crash (nodes.Client c) → ⊥) → (u : Volume) →
      MetAt past x' sc.seen sc.world.log u → Wanted u
  ended calm none u h n p f at there c g = go (h n p f at there c g)
    where
      rows : (d : ClientId) (s : ServerId) → RowsAt past x' sc.seen d s ≡ owed (past ++ x' ∷ []) d s
      rows d s =
          sym (owed_last past x' d s
          ∙ ap (λ z. if z then [] else owed_along (ask_of past x' d) w d s (owed past d s) sc.seen) (calm d))

      late : Part w p.of.client sc → LateAt past x' sc.seen p.of → IsLate sc.world p.of
      late (inr i) l = i.late p.of refl l.0
      late (inl s) l =
          absurd (clash
          (ap (list_any (is_loss_of p.of.client p.of.file.server)) s.is
          ∙ front s.first s.rest (s.losses p.of refl l.0)) l.1)
        where
          front : (xs ys : List Observation) → list_any (is_loss_of p.of.client p.of.file.server) xs ≡ true →
              list_any (is_loss_of p.of.client p.of.file.server) (xs ++ ys) ≡ true
          front [] ys q = cc q
          front (z ∷ xs) ys q = at_first (is_loss_of p.of.client p.of.file.server z) q (front xs ys)
            where
              at_first : (k : Bool) → (k || list_any (is_loss_of p.of.client p.of.file.server) xs) ≡ true →
                  (list_any (is_loss_of p.of.client p.of.file.server) xs ≡ true → list_any (is_loss_of p.of.client p.of.file.server) (xs ++ ys) ≡ true) →
                  (k || list_any (is_loss_of p.of.client p.of.file.server) (xs ++ ys)) ≡ true
              at_first true q r = refl
              at_first false q r = r q

      go : IsMet (RowsAt past x' sc.seen) (LateAt past x' sc.seen) p.of f → IsMet (owed (past ++ x' ∷ [])) (IsLate sc.world) p.of f
      go (inl z) = inl z
      go (inr (inl z)) = inr (inl z)
      go (inr (inr (inl z))) =
          inr (inr (inl (ap (list_any (is_lost_of p.of.file.ino p.of.page)) (sym (rows p.of.client p.of.file.server)) ∙ z)))
      go (inr (inr (inr z))) = inr (inr (inr (late (part p.of.client (none p.of.client)) z)))

  -- Lines of an event that gives no fates.
  abbrev pub State : List Observation → List LogEntry → Volume → Type 0
  State done es u = IsTold es u × (AreOf as_ u × MetAt past x' done es u)

  lines_met : (done os : List Observation) (es : List LogEntry) (u : Volume) → list_all tells_none os ≡ true → AreLossesTold past x' done os → State done es u →
      OnSome (MetAt past x' (done ++ os) (lines.log_told sc.world es os)) (run (of_lines w os) u)
  unfolding of_lines lines.log_told run AreLossesTold
  lines_met done [] es u q l k = subst (λ d. MetAt past x' d es u) (sym (append-nil done)) k.1.1
  lines_met done (o ∷ os) es u q l k =
      let z = and_true (tells_none o) (list_all tells_none os) q in
      let Out : Volume → Type 0 = MetAt past x' (done ++ o ∷ os) (lines.log_told sc.world (lines.log_behind sc.world es o) os) in
      subst (λ its. OnSome Out (run its u)) (append_assoc (before_line o os) (of_line w o) (of_lines w os))
      (run_then Out (block w o os) (of_lines w os) u
      (on_more (State (done ++ o ∷ []) (lines.log_behind sc.world es o)) (λ y. OnSome Out (run (of_lines w os) y))
      (λ y j. subst (λ d. OnSome (MetAt past x' d (lines.log_told sc.world (lines.log_behind sc.world es o) os)) (run (of_lines w os) y))
      (append_assoc done (o ∷ []) os) (lines_met (done ++ o ∷ []) os (lines.log_behind sc.world es o) y z.1 l.1 j))
      (run (block w o os) u)
      (on_both (IsTold (lines.log_behind sc.world es o)) (λ y. AreOf as_ y × MetAt past x' (done ++ o ∷ []) (lines.log_behind sc.world es o) y)
      (run (block w o os) u)
      (run_then (IsTold (lines.log_behind sc.world es o)) (before_line o os) (of_line w o) u (line_told w sc.world es o os u k.0))
      (on_both (AreOf as_) (MetAt past x' (done ++ o ∷ []) (lines.log_behind sc.world es o)) (run (block w o os) u)
      (run_right as_ (block w o os) u (block_other w o os) k.1.0)
      (block_met past x' done o os es u z.0 k.0 k.1.0 l.0 k.1.1)))))

  -- at the start of the lines
  begins : MetAt past x' [] w.log v
  unfolding owed_along
  begins n o f at there c g = go (met n o f at there c g)
    where
      go : IsMet (owed past) (IsLate w) o.of f → IsMet (RowsAt past x' []) (LateAt past x' []) o.of f
      go (inl z) = inl z
      go (inr (inl z)) = inr (inl z)
      go (inr (inr (inl z))) = inr (inr (inl z))
      go (inr (inr (inr z))) = inr (inr (inr (z, refl)))

  quiet_met : (its : List VolumeStep) (u : Volume) → IsTold w.log u → MetAt past x' [] w.log u → OnSome (MetAt past x' [] w.log) (run its u)
  quiet_met its u told h = met_by_steps (RowsAt past x' []) (LateAt past x' []) w.log w.log u its told.first (λ n p q g. q) h

  abbrev pub first : List VolumeStep
  first = of_event w e

  abbrev pub served : List VolumeStep
  served = of_delivery it.behind v w e

  -- what holds before the lines
  pub before_lines : OnSome (λ y. OnSome (State [] w.log) (run served y)) (run first v)
  before_lines =
      on_more (State [] w.log) (λ y. OnSome (State [] w.log) (run served y))
      (λ y k. on_both (IsTold w.log) (λ z. AreOf as_ z × MetAt past x' [] w.log z) (run served y)
      (quiet_run w.log served y (delivery_quiet it.behind v w e) k.0)
      (on_both (AreOf as_) (MetAt past x' [] w.log) (run served y) (run_right as_ served y (all_other served (delivery_inside it.behind v w e)) k.1.0)
      (quiet_met served y k.0 k.1.1)))
      (run first v)
      (on_both (IsTold w.log) (λ z. AreOf as_ z × MetAt past x' [] w.log z) (run first v) (quiet_run w.log first v (event_quiet w e) (told_of w.log v a))
      (on_both (AreOf as_) (MetAt past x' [] w.log) (run first v)
      (on_more (AreOf (asked_after (asks_of past) e)) (AreOf as_) (λ y k. moved (asked_after (asks_of past) e) as_ (λ c. asks_more past x' c) y k)
      (run first v) (event_right (asks_of past) w e v r))
      (quiet_met first v (told_of w.log v a) begins)))

  plain : gives_fates e ≡ false → AreLossesTold past x' [] sc.seen → IsLogTold sc.world w.log sc.seen → OnSome Wanted (run (steps_of it v x') v)
  plain q l told =
      run_then Wanted first (served ++ of_lines w sc.seen) v
      (on_more (λ y. OnSome (State [] w.log) (run served y)) (λ y. OnSome Wanted (run (served ++ of_lines w sc.seen) y))
      (λ y k. run_then Wanted served (of_lines w sc.seen) y
      (on_more (State [] w.log) (λ z. OnSome Wanted (run (of_lines w sc.seen) z))
      (λ z j. on_more (MetAt past x' sc.seen (lines.log_told sc.world w.log sc.seen)) Wanted
      (λ u h. ended calm never u (subst (λ es. MetAt past x' sc.seen es u) told.entries h))
      (run (of_lines w sc.seen) z) (lines_met [] sc.seen w.log z silent l j))
      (run served y) k))
      (run first v) before_lines)
    where
      silent : list_all tells_none sc.seen ≡ true
      silent = ap (λ (z : WorldTurn). list_all tells_none z.seen) is_so ∙ event_silent (counted w) e q

      never : (c : ClientId) → e ≡ events.Crash (nodes.Client c) → ⊥
      never c i = no (sym (ap gives_fates i) ∙ q)
        where
          no : true ≡ false → ⊥
          no z = cc

      calm : (c : ClientId) → is_crash_of c e ≡ false
      calm c = by e q
        where
          by : (f : Event) → gives_fates f ≡ false → is_crash_of c f ≡ false
          by (events.Crash (nodes.Client d)) z = cc z
          by f z = refl

  -- An event that gives fates.
  abbrev IsMetAfter : LogOwner → Entry → Type 0
  IsMetAfter = IsMet (owed (past ++ x' ∷ [])) (IsLate sc.world)

  -- an entry before and after it
  record Both (u : Volume) (n : ℕ) (o : LogEntry) (g f : Entry) : Type 0 where
    at : slice_get w.log n ≡ Some o
    before : slice_get v.log n ≡ Some g
    after : slice_get u.log n ≡ Some f
    same : IsSame o g
    keeps : Keeps ⊥ g f

  module _ (reason : LogOwner → Type 0) (fated : AllGone reason w.log sc.world.log) (u : Volume) (k : AllKeep ⊥ v.log u.log)
      (old : (n : ℕ) (o : LogEntry) (g f : Entry) → Both u n o g f → is_change o ≡ true → IsMet (owed past) (IsLate w) o.of f → IsMetAfter o.of f)
      (new : (n : ℕ) (o : LogEntry) (g f : Entry) → Both u n o g f → o.fate ≡ fates.Pending → reason o.of → IsMetAfter o.of f) where
    fated_met : Wanted u
    fated_met n p f at there c g = go (gone_at reason w.log sc.world.log fated n p at)
      where
        go : (o : LogEntry) × (slice_get w.log n ≡ Some o) × Gone reason o p → IsMetAfter p.of f
        go (o, i, h) = subst (λ z. IsMetAfter z f) (sym h.of) (by (h.gone g))
          where
            y : (z : Entry) × (slice_get v.log n ≡ Some z) × IsSame o z
            y = first_at w.log v.log (same_first w.log v.log a.entries) n o i

            m : (z : Entry) × (slice_get u.log n ≡ Some z) × Keeps ⊥ y.0 z
            m = kept_at ⊥ v.log u.log k n y.0 y.1

            both : Both u n o y.0 f
            both = record { at = i; before = y.1; after = there; same = y.2; keeps = subst (Keeps ⊥ y.0) (some_is (sym m.1 ∙ there)) m.2 }

            kept : IsMet (owed past) (IsLate w) o.of y.0 → IsMet (owed past) (IsLate w) o.of f
            kept (inl z) = inl (both.keeps.crashed z)
            kept (inr (inl z)) = inr (inl (both.keeps.told z))
            kept (inr (inr z)) = inr (inr z)

            by : (log.counts o.fate ≡ false) ⊎ ((o.fate ≡ fates.Pending) × reason o.of) → IsMetAfter o.of f
            by (inl z) = old n o y.0 f both (sym h.change ∙ c) (kept (met n o y.0 i y.1 (sym h.change ∙ c) z))
            by (inr z) = new n o y.0 f both z.0 z.1

  -- if no line tells of clients, what is met stays so
  module _ (mute : list_all is_mute sc.seen ≡ true) where
    no_loss : (c : ClientId) (s : ServerId) (os : List Observation) → list_all is_mute os ≡ true → list_any (is_loss_of c s) os ≡ true → ⊥
    no_loss c s [] q h = cc h
    no_loss c s (o ∷ os) q h =
        let z = and_true (is_mute o) (list_all is_mute os) q in by (is_loss_of c s o) refl (one o z.0) h (no_loss c s os z.1)
      where
        one : (o : Observation) → is_mute o ≡ true → is_loss_of c s o ≡ false
        one (seen.Lost d t life) z = cc z
        one o z = refl

        by : (b : Bool) → is_loss_of c s o ≡ b → is_loss_of c s o ≡ false → (b || list_any (is_loss_of c s) os) ≡ true →
            (list_any (is_loss_of c s) os ≡ true → ⊥) → ⊥
        by true e f h r = clash e f
        by false e f h r = r h

    any_front : (c : ClientId) (s : ServerId) (xs ys : List Observation) → list_any (is_loss_of c s) xs ≡ true → list_any (is_loss_of c s) (xs ++ ys) ≡ true
    any_front c s [] ys q = cc q
    any_front c s (z ∷ xs) ys q = by (is_loss_of c s z) q (any_front c s xs ys)
      where
        by : (k : Bool) → (k || list_any (is_loss_of c s) xs) ≡ true → (list_any (is_loss_of c s) xs ≡ true → list_any (is_loss_of c s) (xs ++ ys) ≡ true) →
            (k || list_any (is_loss_of c s) (xs ++ ys)) ≡ true
        by true q r = refl
        by false q r = r q

    late_on : (o : LogOwner) → Part w o.client sc → IsLate w o → IsLate sc.world o
    late_on o (inr i) l = i.late o refl l
    late_on o (inl s) l =
        absurd (no_loss o.client o.file.server sc.seen mute
        (ap (list_any (is_loss_of o.client o.file.server)) s.is ∙ any_front o.client o.file.server s.first s.rest (s.losses o refl l)))

    met_on : (o : LogOwner) (f : Entry) → is_crash_of o.client e ≡ false → (e ≡ events.Crash (nodes.Client o.client) → ⊥) → IsMet (owed past) (IsLate w) o f →
        IsMetAfter o f
    met_on o f calm none (inl z) = inl z
    met_on o f calm none (inr (inl z)) = inr (inl z)
    met_on o f calm none (inr (inr (inl z))) =
        inr (inr (inl (ap (list_any (is_lost_of o.file.ino o.page))
        (owed_last past x' o.client o.file.server
        ∙ (ap (λ b. if b then [] else owed_along (ask_of past x' o.client) w o.client o.file.server (owed past o.client o.file.server) sc.seen) calm
        ∙ mute_rows past x' o.client o.file.server sc.seen (owed past o.client o.file.server) mute))
        ∙ z)))
    met_on o f calm none (inr (inr (inr z))) = inr (inr (inr (late_on o (part o.client none) z)))

  -- An effect.
  effect : (k : ℕ) → e ≡ events.Effect k → OnSome Wanted (run (steps_of it v x') v)
  unfolding happens ev.effects ev.marks
  effect k q =
      on_more (LogKept ⊥ v) Wanted
      (λ u h. fated_met (λ o. ⊥) fated u h
      (λ n o g f both c m. met_on mute o.of f (ap (is_crash_of o.of.client) q) (λ z. no (sym q ∙ z)) m)
      (λ n o g f both p z. absurd z))
      (run (steps_of it v x') v) (run_keeps ⊥ (steps_of it v x') v (λ z. absurd z))
    where
      no : {c : ClientId} → events.Effect k ≡ events.Crash (nodes.Client c) → ⊥
      no z = cc

      is : sc ≡ ev.effects (counted w) k
      is = is_so ∙ ap (happens (counted w)) q

      fated : AllGone (λ o. ⊥) w.log sc.world.log
      fated = subst (λ (z : WorldTurn). AllGone (λ o. ⊥) w.log z.world.log) (sym is) (gone_effect (λ o. ⊥) w.log (ev.carried_by (issued_of w k)))

      mute : list_all is_mute sc.seen ≡ true
      mute = ap (λ (z : WorldTurn). list_all is_mute z.seen) is ∙ fates_mute 1 w.log (ev.log_hard w.log (ev.carried_by (issued_of w k)))

  -- A crash of a client.
  crash : (c : ClientId) → e ≡ events.Crash (nodes.Client c) → OnSome Wanted (run (steps_of it v x') v)
  unfolding of_event happens ev.crashes ev.crashes_client ev.marks ev.log_crashed log.drop_picked
  crash c q =
      on_more (λ u. AllKeep ⊥ v.log u.log × AllCrashed c v.log u.log) Wanted
      (λ u h. fated_met (λ o. log.is_of_client c o ≡ true) fated u h.0 (λ n o g f both ch m. old u h.1 n o g f both ch m)
      (λ n o g f both p z. new u h.1 n o g f both p z))
      (run (steps_of it v x') v)
      (on_both (LogKept ⊥ v) (λ u. AllCrashed c v.log u.log) (run (steps_of it v x') v) (run_keeps ⊥ (steps_of it v x') v (λ z. absurd z))
      (subst (λ f. OnSome (λ u. AllCrashed c v.log u.log) (run (of_event w f ++ (of_delivery it.behind v w e ++ of_lines w sc.seen)) v)) (sym q)
      (crash_marks c (of_delivery it.behind v w e ++ of_lines w sc.seen) v)))
    where
      is : sc ≡ ev.crashes_client (counted w) c (site_of w c)
      is = is_so ∙ ap (happens (counted w)) q

      gone : (o : Option WorldClient) → AllGone (λ o. log.is_of_client c o ≡ true) w.log (ev.crashes_client (counted w) c o).world.log
      gone None = gone_self _ w.log
      gone (Some site) =
          gone_dropped (λ o. log.is_of_client c o ≡ true) 1 (ev.is_of_crashed (counted w) c) (log.always causes.Crash) w.log w.log
          (λ n o p. (and_true (log.is_of_client c o) _ p).0) (gone_self _ w.log)

      silent : (o : Option WorldClient) → list_all is_mute (ev.crashes_client (counted w) c o).seen ≡ true
      silent None = refl
      silent (Some site) = fates_mute 1 w.log (ev.log_crashed (counted w) c)

      fated : AllGone (λ o. log.is_of_client c o ≡ true) w.log sc.world.log
      fated = subst (λ (z : WorldTurn). AllGone (λ o. log.is_of_client c o ≡ true) w.log z.world.log) (sym is) (gone (site_of w c))

      mute : list_all is_mute sc.seen ≡ true
      mute = ap (λ (z : WorldTurn). list_all is_mute z.seen) is ∙ silent (site_of w c)

      marks : (u : Volume) → AllCrashed c v.log u.log → (n : ℕ) (o : LogEntry) (g f : Entry) → Both u n o g f → is_change o ≡ true → o.of.client.0 ≡ c.0 →
          f.crashed ≡ true
      marks u h n o g f both ch z =
          crashed_at c v.log u.log h n g f both.before both.after (eq-eqb c.0 g.client.0 (sym (ap (λ (d : ClientId). d.0) (both.same.client ch) ∙ z)))

      old : (u : Volume) → AllCrashed c v.log u.log → (n : ℕ) (o : LogEntry) (g f : Entry) → Both u n o g f → is_change o ≡ true →
          IsMet (owed past) (IsLate w) o.of f → IsMetAfter o.of f
      old u h n o g f both ch m = go (same_client o.of.client c) refl
        where
          go : (z : Bool) → same_client o.of.client c ≡ z → IsMetAfter o.of f
          go true z = inl (marks u h n o g f both ch (eqb-true o.of.client.0 c.0 z))
          go false z = met_on mute o.of f (ap (is_crash_of o.of.client) q ∙ z) (λ i. clash (eq-eqb o.of.client.0 c.0 (sym (whose (sym q ∙ i)))) z) m
            where
              whose : events.Crash (nodes.Client c) ≡ events.Crash (nodes.Client o.of.client) → c.0 ≡ o.of.client.0
              whose i = cc

      new : (u : Volume) → AllCrashed c v.log u.log → (n : ℕ) (o : LogEntry) (g f : Entry) → Both u n o g f → o.fate ≡ fates.Pending →
          log.is_of_client c o.of ≡ true → IsMetAfter o.of f
      new u h n o g f both p z = inl (marks u h n o g f both (both.same.change (ap log.is_pending p)) (eqb-true o.of.client.0 c.0 z))

  -- An advance.
  abbrev Ends : List ℕ → LogOwner → Type 0
  Ends increments o = (l : LeaseLife) × Has l (ev.lives_reached (counted w) increments) × (ev.is_of_life_over l 0 o ≡ true)

  advance : (increments : List ℕ) → e ≡ events.Advance increments → adm.refusal (counted w) (events.Advance increments) ≡ None →
      OnSome Wanted (run (steps_of it v x') v)
  unfolding happens ev.advances ev.marks
  advance increments q refused =
      on_more (LogKept ⊥ v) Wanted
      (λ u h. fated_met (Ends increments) fated u h
      (λ n o g f both c m. met_on mute o.of f (ap (is_crash_of o.of.client) q) (λ z. no (sym q ∙ z)) m)
      (λ n o g f both p z. new u n o g f both p z))
      (run (steps_of it v x') v) (run_keeps ⊥ (steps_of it v x') v (λ z. absurd z))
    where
      no : {c : ClientId} → events.Advance increments ≡ events.Crash (nodes.Client c) → ⊥
      no z = cc

      is : sc ≡ ev.advances (counted w) increments
      is = is_so ∙ ap (happens (counted w)) q

      fated : AllGone (Ends increments) w.log sc.world.log
      fated =
          subst (λ (z : WorldTurn). AllGone (Ends increments) w.log z.world.log) (sym is)
          (gone_ended (Ends increments) w (ev.lives_reached (counted w) increments) w.log w.log (λ l i o b. (l, i, b)) (gone_self (Ends increments) w.log))

      mute : list_all is_mute sc.seen ≡ true
      mute =
          ap (λ (z : WorldTurn). list_all is_mute z.seen) is
          ∙ fates_mute 1 w.log (ev.log_ended_all w.commands (ev.lives_reached (counted w) increments) w.log)

      late : (o : LogOwner) → IsLeft (counted w) increments o → IsLate sc.world o
      late o l =
          subst (λ (z : WorldTurn). IsLate z.world o) (sym is)
          (record {
            site = l.site;
            there = l.there;
            runs = l.runs;
            a = l.a;
            place = l.place;
            over =
                ap (is_ended l.site.node.state.config (clock_of (ev.with_clocks increments (counted w)) (nodes.Client o.client))) l.is
                ∙ le-leb (lease.end_of l.site.node.state.config l.session.lease).0 (clock_of (ev.with_clocks increments (counted w)) (nodes.Client o.client)).0
                l.over;
            page = l.page;
            dirty = l.dirty;
          })

      new : (u : Volume) (n : ℕ) (o : LogEntry) (g f : Entry) → Both u n o g f → o.fate ≡ fates.Pending → Ends increments o.of → IsMetAfter o.of f
      new u n o g f both p (l, i, z) = go l.crashed refl
        where
          fates_now : FatesHold (counted w)
          fates_now = counted_fates w b.stand.fates

          flush_now : FlushHold past (counted w)
          flush_now = (counted_both past w b.stand.both).flush

          agree : ListsAgree (counted w)
          agree = stand_agrees past t b.stand

          go : (y : Bool) → l.crashed ≡ y → IsMetAfter o.of f
          go true y =
              inl (both.keeps.crashed
              (marked_at w.ended w.log v.log marked n o g both.at both.before (both.same.change (ap log.is_pending p))
              (some_passes (is_crashing o.of) w.ended l (reached_crashed past (counted w) increments refused fates_now flush_now agree l i y)
              (and_both l.crashed (ev.is_of_life_over l 0 o.of) y z))))
          go false y =
              inr (inr (inr (late o.of
              (pending_at (λ k. ev.is_of_life_over l 0 k ≡ true → IsLeft (counted w) increments k) w.log o (get_has w.log n o both.at)
              (reached_left past (counted w) increments refused fates_now flush_now agree l i y) p z))))

  -- Any event.
  pub met_after : AreLossesTold past x' [] sc.seen → IsLogTold sc.world w.log sc.seen → OnSome Wanted (run (steps_of it v x') v)
  unfolding adm.refusal adm.refused_delivery adm.clocks_refused adm.flush_missed adm.refused_effect adm.refused_report world.node_of_place adm.missed_by
  met_after l told = by e refl
    where
      by : (f : Event) → e ≡ f → OnSome Wanted (run (steps_of it v x') v)
      by (events.Effect k) q = effect k q
      by (events.Crash (nodes.Client c)) q = crash c q
      by (events.Advance increments) q = advance increments q (ap (adm.refusal (counted w)) (sym q) ∙ admitted)
      by (events.Crash (nodes.Server s)) q = plain (ap gives_fates q) l told
      by (events.Tick n) q = plain (ap gives_fates q) l told
      by (events.App c ask) q = plain (ap gives_fates q) l told
      by (events.Deliver k) q = plain (ap gives_fates q) l told
      by (events.Lose k) q = plain (ap gives_fates q) l told
      by (events.Cut from to) q = plain (ap gives_fates q) l told
      by (events.Heal from to) q = plain (ap gives_fates q) l told
      by (events.Report k ok) q = plain (ap gives_fates q) l told
      by (events.Start n) q = plain (ap gives_fates q) l told

-- In every run.
pub record MetHold (past : List Step) (t : Traced) (it : Witness) : Type 0 where
  pub failures : FailuresHold past t it
  pub crashes : MarksHold past t it
  pub right : RightHold past t it
  pub met : OnSome (AreMet (owed past) (IsLate t.world) t.world.log) it.volume

abbrev pub Known : Promise
Known past x = failing.Known past x × (FatesHold x.after.world × LossesAreTold past x)

after_met : (it : Witness) (past : List Step) (t : Traced) (e : Event) (sc : WorldTurn) → world_step t.world e ≡ Ok sc → FailuresStand past t →
    LossesAreTold past (step t e sc) → IsLogTold sc.world t.world.log sc.seen → (o : Option Volume) → OnSome (IsLogOf t.world.log) o →
    OnSome (AreOf (asks_of past)) o →
    OnSome (MarksOf t.world) o → OnSome (AreMet (owed past) (IsLate t.world) t.world.log) o →
    OnSome (AreMet (owed (past ++ step t e sc ∷ [])) (IsLate sc.world) sc.world.log) (volume_after it (step t e sc) o)
after_met it past t e sc f b l told None a r m h = tt
after_met it past t e sc f b l told (Some v) a r m h =
    on_then (AreMet (owed (past ++ step t e sc ∷ [])) (IsLate sc.world) sc.world.log) if_told (run (steps_of it v (step t e sc)) v)
    (on_more (AreMet (owed (past ++ step t e sc ∷ [])) (IsLate sc.world) sc.world.log)
    (λ u. OnSome (AreMet (owed (past ++ step t e sc ∷ [])) (IsLate sc.world) sc.world.log) (if_told u))
    (λ u k. on_if (AreMet (owed (past ++ step t e sc ∷ [])) (IsLate sc.world) sc.world.log) (u.lines == length u.log) (Some u) k)
    (run (steps_of it v (step t e sc)) v) (met_after past t e sc f it b v a r m h l told))

pub met_kept : IsKept Known MetHold
unfolding led_by
met_kept past t e sc it f g h =
    record {
      failures = failures_kept past t e sc it f g.0 h.failures;
      crashes = marks_kept past t e sc it f (g.0.0, (g.0.1.0, g.1.0)) h.crashes;
      right = right_kept past t e sc it f tt h.right;
      met = after_met it past t e sc f h.failures.stand g.1.1 g.0.0 it.volume h.failures.log h.right h.crashes.marked h.met;
    }

pub met_begins : (k : Config) (clients servers disks blocks form : ℕ) →
    MetHold [] (traced (fresh_world k clients servers disks blocks form))
    (begun (fresh_world k clients servers disks blocks form) (fresh_world k clients servers disks blocks form))
unfolding begun fresh_world
met_begins k clients servers disks blocks form =
    record {
      failures = failures_begin k clients servers disks blocks form;
      crashes = marks_begin k clients servers disks blocks form;
      right = right_begins k clients servers disks blocks form;
      met = λ n o e at there. cc at;
    }

pub known_in : (k : Config) (clients servers disks blocks form : ℕ) (es : List Event) → IsHead k clients servers disks blocks form →
    IsSafeRun (fresh_world k clients servers disks blocks form) es →
    Throughout PagesAfter [] (steps es (traced (fresh_world k clients servers disks blocks form))) →
    Throughout Known [] (steps es (traced (fresh_world k clients servers disks blocks form)))
known_in k clients servers disks blocks form es head kept pages =
    let t : Traced = traced (fresh_world k clients servers disks blocks form) in
    throughout_both failing.Known (λ past x. FatesHold x.after.world × LossesAreTold past x) [] (steps es t)
    (failing.known_in k clients servers disks blocks form es head kept pages)
    (throughout_both (λ past x. FatesHold x.after.world) LossesAreTold [] (steps es t) (fates_law k clients servers disks blocks form es) kept.losses)

pub losses_are_met : EveryRunIsSafe → InEveryRun PagesAfter → InEveryRun LossesAreMet
losses_are_met safe pages k clients servers disks blocks form es head events =
    let t : Traced = traced (fresh_world k clients servers disks blocks form) in
    throughout_more (Led MetHold) LossesAreMet (λ past x h. h.met) [] (steps es t)
    (carried Known MetHold met_kept es t (met_begins k clients servers disks blocks form)
    (known_in k clients servers disks blocks form es head (safe k clients servers disks blocks form es head events)
    (pages k clients servers disks blocks form es head events)))
