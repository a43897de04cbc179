-- In every run each row that is owed names an entry, and the volume takes each answer `lost`.
use Rattle.st_lemmas.proofs.Words
use Words.{◌≡◌, ◌≤◌, ◌⊎◌, ℕ, zero, suc, ◌+◌, Bool, true, false, not, ◌&&◌, ◌||◌, ◌==◌, List, [], ◌∷◌, ◌++◌, Option, Some, None, Ok, refl, sym, ap, ◌∙◌, subst, inl, inr, arith, if◌then◌else◌}
use Words.{eq-eqb, eqb-true, find, is_some, length, list_all, list_any, lt-ltb, nat_lt, slice_get, ClientId, Event, Life, PageNo, ServerId, AppAnswer, Ask}
use Words.{LogEntry, LogOwner, LostPage, Observation}
use Words.answers
use Words.asks
use Words.events
use Words.nodes
use Words.seen
use Words.ClientState.{Association}
use Words.Events as ev
use Words.Events.{WorldTurn, latest, world_step}
use Words.FlatLog as log
use Words.Lines as lines
use Words.Lines.{IsLogTold}
use Words.Lists.{Has}
use Words.Lookups.{if_true, some_is}
use Words.Numbers.{get_has, get_there, numbered_below}
use Words.Safety.{IsHead, Promise, Step, Throughout, ask_of, is_crash_of, is_event, step, steps}
use Words.Tables.{and_both, and_true}
use Words.Truth.{clash}
use Words.World as world
use Words.World.{World, WorldClient, fresh_world, numbered, site_of}
use Rattle.st_base.specs.declared.config.Config.{Config}
use Rattle.st_base.specs.declared.rows.LostRow.{LostRow}
use Rattle.st_rules.specs.History.{Traced, traced}
use Rattle.st_rules.specs.Client.{association_with}
use Rattle.st_rules.specs.ClientState.{is_at}
use Rattle.st_promises.specs.Losses.{AreLossesTold, IsLossTold, IsToldBy, IsToldTo, as_told, owed, owed_from, owed_along, owed_behind, owed_of_file, owes}
use Rattle.st_promises.specs.Safe.{EveryRunIsSafe, IsSafeRun}
use Rattle.st_laws_steps.specs.Lives.Lives.{LivesHold}
use Rattle.st_laws_pages.specs.Asks.Law.{PlacesHold}
use Rattle.st_laws_pages.specs.Disks.Obligations.{FatesHold}
use Rattle.st_laws_pages.specs.Disks.Runs.{PagesAfter}
use Rattle.st_laws_pages.specs.Flush.Flush.{file_at, owner_at_page}
use Rattle.st_laws_pages.proofs.Asks.Law.{places_law}
use Rattle.st_laws_pages.proofs.Asks.World.{asks_of}
use Rattle.st_laws_pages.proofs.Causes.Law.{one_step}
use Rattle.st_laws_pages.proofs.Disks.Whole.{fates_law}
use Rattle.st_laws_pages.proofs.Causes.Commands.{latest_high}
use Rattle.st_laws_volume.specs.AnswerKinds.{is_lost_answer, is_told_whole}
use Rattle.st_laws_volume.specs.Asks.{AsksOf, HasAsksOf, at_site, in_volume}
use Rattle.st_laws_volume.specs.DirtyPages.{WasDirty, is_change_of}
use Rattle.st_laws_volume.specs.HardFiles.{HardFilesAreClean}
use Rattle.st_laws_volume.specs.Logs.{InEveryRun, IsLogOf}
use Rattle.st_laws_volume.specs.LossMarks.{AllOnce, AreMet, IsLate, LateFailed, LatePagesHaveFailed, PagesAreOnce}
use Rattle.st_laws_volume.specs.Options.{OnSome}
use Rattle.st_laws_volume.specs.OwedRows.{NameEntries, OwedRowsNameEntries}
use Rattle.st_laws_volume.specs.Seen.{of_event, of_line}
use Rattle.st_laws_volume.specs.StepKinds.{AreTaken, AtEachStep, StepsAreTaken}
use Rattle.st_laws_volume.specs.Witness.{Witness, before_line, begun, if_told, led_by, led_to, of_delivery, of_lines, steps_of, volume_after}
use Rattle.st_laws_volume.proofs.AnswerLines.{AllAsked, Takes, asked_there, block_by, none_served, taken_at, takes_silent}
use Rattle.st_laws_volume.proofs.AnswerSteps.{OnlyAnswers, delivery_silent, event_silent, is_silent, none_answered, open_there}
use Rattle.st_laws_volume.proofs.AskedAsks.{AreOf}
use Rattle.st_laws_volume.proofs.AskEvents.{AllOpenFor}
use Rattle.st_laws_volume.proofs.Asks.{AsksHold, asks_begin, asks_kept, of_each}
use Rattle.st_laws_volume.proofs.AskSteps.{run_tells, told_all}
use Rattle.st_laws_volume.proofs.Carried.{IsGiven, IsKept, Led, carried, given_in}
use Rattle.st_laws_volume.proofs.CarriedEntries.{Longer, event_owned}
use Rattle.st_laws_volume.proofs.ChangeLines.{on_both}
use Rattle.st_laws_volume.proofs.CrashedLives.{AreOver, OverHold, over_begins, over_kept}
use Rattle.st_laws_volume.proofs.DirtyBefore.{changed_by}
use Rattle.st_laws_volume.proofs.DirtyOnce.{once_begins, pages_are_once}
use Rattle.st_laws_volume.proofs.EntryEvents.{AllOwn, Was, mute_plain, own_steps, served_plain, stayed}
use Rattle.st_laws_volume.proofs.EntryMarks.{Alike, LogStays, run_stays, is_plain}
use Rattle.st_laws_volume.proofs.EventAnswers.{Stepping}
use Rattle.st_laws_volume.proofs.EventClients as clients
use Rattle.st_laws_volume.proofs.EventClients.{Crashes, OldOpen, NewOf, SiteNext, SiteStep, Starts, Stays, Steps, event_clients, is_mute}
use Rattle.st_laws_volume.proofs.FailureEntries.{Back, IsBack, lines_back}
use Rattle.st_laws_volume.proofs.FailureLives.{PresentOf}
use Rattle.st_laws_volume.proofs.FailureMarks as failing
use Rattle.st_laws_volume.proofs.FailureMarks.{AreMarked, first_marked, same_there}
use Rattle.st_laws_volume.proofs.FailureTouches.{Shut}
use Rattle.st_laws_volume.proofs.FateCrashes.{MarksOf}
use Rattle.st_laws_volume.proofs.FateKeeps.{AllKeep, LogKept, keep_then, run_keeps}
use Rattle.st_laws_volume.proofs.FateSeen.{gives_fates, tells_none}
use Rattle.st_laws_volume.proofs.FateSeen as quiet
use Rattle.st_laws_volume.proofs.HardAnswers as hard
use Rattle.st_laws_volume.proofs.HardAnswers.{after_wait}
use Rattle.st_laws_volume.proofs.HardFiles.{hard_files_are_clean}
use Rattle.st_laws_volume.proofs.LatePages.{late_begins, late_pages_have_failed}
use Rattle.st_laws_volume.proofs.LogEntries.{AtBoth, same_at}
use Rattle.st_laws_volume.proofs.LogLines.{run_then}
use Rattle.st_laws_volume.proofs.LossesMet as losses
use Rattle.st_laws_volume.proofs.LossesMet.{MetHold, met_begins, met_kept, owed_last}
use Rattle.st_laws_volume.proofs.LossesOnce.{lines_mine, mine}
use Rattle.st_laws_volume.proofs.LossLines.{RowsAt}
use Rattle.st_laws_volume.proofs.LostAnswers as lost
use Rattle.st_laws_volume.proofs.OpenAnswers.{at_both, at_silent, block, open_left}
use Rattle.st_laws_volume.proofs.Options.{on_if, on_more, on_then}
use Rattle.st_laws_volume.proofs.OwedEntries.{AllRows, Apart, RowAt, Untold, block_plain, never, row_moved}
use Rattle.st_laws_volume.proofs.OwedLines as owing
use Rattle.st_laws_volume.proofs.OwedLosses as losing
use Rattle.st_laws_volume.proofs.OwedRows.{told_row}
use Rattle.st_laws_volume.proofs.OwedSteps.{apart_on, fresh_on, goes_on, over_on, rows_on, told_on, Goes}
use Rattle.st_laws_volume.proofs.QuietAnswers.{step_calm}
use Rattle.st_laws_volume.proofs.ReadPages.{throughout_both, throughout_more}
use Rattle.st_laws_volume.proofs.SyncsWait.{AllWait}
use Rattle.st_laws_volume.proofs.LostAnswers.{Whole}
use Rattle.st_lemmas.proofs.Steps.{step_happens}
use Rattle.st_volume.specs.declared.step.VolumeStep.{VolumeStep}
use Rattle.st_volume.specs.declared.step.VolumeStep.TheVariants as kinds
use Rattle.st_volume.specs.Pages.{Entry, is_by_at}
use Rattle.st_volume.specs.Volume as volume
use Rattle.st_volume.specs.Volume.{Pending, Volume, answered, answers_so, is_ask, is_lost_row, is_untold, run}
use Rattle.std.specs.Prelude.{nat_le, option_and_then}
use Rattle.st_laws_volume.proofs.UnchangedEntries.{latest_on, mute_unchanged, other_unchanged}

mute_along : (asked : ℕ → Option Ask) (w : World) (c : ClientId) (s : ServerId) (os : List Observation) (rows : List LostPage) → list_all is_mute os ≡ true →
    owed_along asked w c s rows os ≡ rows
unfolding owed_along
mute_along asked w c s [] rows q = refl
mute_along asked w c s (o ∷ os) rows q =
    let b = and_true (is_mute o) (list_all is_mute os) q in
    ap (λ z. owed_along asked w c s z os) (one o b.0) ∙ mute_along asked w c s os rows b.1
  where
    one : (o : Observation) → is_mute o ≡ true → owed_behind asked w c s rows o ≡ rows
    one (seen.Lost d t life) z = cc z
    one (seen.Answered d op answer) z = cc z
    one o z = refl

-- A row names its entry.
row_names : (w v : World) (u : Volume) (d : ClientId) (n : ServerId) (k : LostPage) → RowAt w v u d n k →
    is_lost_row u d (record { server = n; ino = k.ino }) (as_told k) ≡ true
row_names w v u d n k row =
    Words.Tables.some_passes (λ (e : Entry). is_by_at d (record { server = n; ino = k.ino }, k.page) e && is_untold k.command e) u.log row.f
    (get_has u.log row.n row.f row.at)
    (and_both (is_by_at d (record { server = n; ino = k.ino }, k.page) row.f) (is_untold k.command row.f) row.by
    (and_both (nat_lt 0 k.command && (row.f.failed == k.command)) (not (row.f.told || row.f.crashed))
    (and_both (nat_lt 0 k.command) (row.f.failed == k.command) (lt-ltb 0 k.command (let z = row.first in omega (arith, z)))
    (eq-eqb row.f.failed k.command row.failed))
    (ap (λ b. not (b || row.f.crashed)) row.told ∙ ap (λ b. not (false || b)) row.crashed)))

-- Steps that answer nothing.
only_lost : OnlyAnswers is_lost_answer
only_lost (kinds.Answered c op answer) q = cc q
only_lost (kinds.Asked c ask) q = refl
only_lost (kinds.TakesEffect c op) q = refl
only_lost (kinds.Joined i c what) q = refl
only_lost (kinds.Hardened i) q = refl
only_lost (kinds.Dropped i cause) q = refl
only_lost (kinds.Crashed c) q = refl
only_lost (kinds.Restarted s) q = refl
only_lost (kinds.WriteFailed c number i) q = refl
only_lost (kinds.ReadFailed c s number) q = refl

pub silent_both : (xs ys : List VolumeStep) → list_all is_silent xs ≡ true → list_all is_silent ys ≡ true → list_all is_silent (xs ++ ys) ≡ true
silent_both [] ys p q = q
silent_both (x ∷ xs) ys p q =
    let b = and_true (is_silent x) (list_all is_silent xs) p in and_both (is_silent x) (list_all is_silent (xs ++ ys)) b.0 (silent_both xs ys b.1 q)

pub mute_silent : (w : World) (os : List Observation) → list_all is_mute os ≡ true → list_all is_silent (of_lines w os) ≡ true
unfolding of_lines before_line of_line
mute_silent w [] q = refl
mute_silent w (o ∷ os) q =
    let b = and_true (is_mute o) (list_all is_mute os) q in go o b.0 (mute_silent w os b.1)
  where
    go : (o : Observation) → is_mute o ≡ true → list_all is_silent (of_lines w os) ≡ true →
        list_all is_silent (before_line o os ++ (of_line w o ++ of_lines w os)) ≡ true
    go (seen.Lost c s life) z r = cc z
    go (seen.Answered c op answer) z r = cc z
    go (seen.Wrote i c f p bytes) z r = cc z
    go (seen.Patched i c f p at bytes) z r = cc z
    go (seen.CutAt i f p) z r = r
    go (seen.Hardened i) z r = r
    go (seen.Dropped i cause) z r = r
    go (seen.Sent k m) z r = r
    go (seen.Submitted k c number what) z r = r
    go (seen.Leased c s end) z r = r
    go (seen.Suspected s c start) z r = r
    go (seen.Stolen s c life) z r = r

-- What holds of rows between events.
pub record RowsStand (past : List Step) (w : World) (u : Volume) : Type 0 where
  pub untold_ : Untold w w.log u
  pub apart_ : Apart (owed past) w w.log u
  pub rows_ : AllRows (owed past) w w u

-- An event.
module _ (past : List Step) (t : Traced) (e : Event) (sc : WorldTurn) (happened : world_step t.world e ≡ Ok sc) (it : Witness) (held : MetHold past t it)
    (later : FatesHold sc.world) (counts : length sc.world.commands ≡ length sc.world.disks.commands)
    (v : Volume) (a : IsLogOf t.world.log v) (right : AreOf (asks_of past) v) (marked : MarksOf t.world v)
    (met : AreMet (owed past) (IsLate t.world) t.world.log v) (wait : AllWait v) (whole : IsLogTold sc.world t.world.log sc.seen)
    (carried : AreMarked past t.world v) (over : AreOver t.world.ended t.world.log v.log) (late_failed : LateFailed t.world) (once : AllOnce t.world)
    (untold : Untold t.world t.world.log v) (apart : Apart (owed past) t.world t.world.log v) (rows : AllRows (owed past) t.world t.world v) where
  abbrev w : World
  w = t.world

  abbrev x' : Step
  x' = step t e sc

  lives : LivesHold w
  lives = held.failures.stand.stand.fates.lives

  abbrev After : Volume → Type 0
  After = RowsStand (past ++ x' ∷ []) sc.world

  -- A row after the event, of a client that didn't crash.
  row_after : (d : ClientId) → (e ≡ events.Crash (nodes.Client d) → ⊥) → (s : ServerId) (r : LostPage) (u : Volume) → RowAt w sc.world u d s r →
      RowAt sc.world sc.world u d s r
  row_after d calm s r u row =
      record {
        k = row.k;
        x = row.x;
        y = row.y;
        is = command;
        client = row.client;
        number = row.number;
        first = row.first;
        carries = row.carries;
        server = row.server;
        site = left.0;
        there = left.1;
        runs = goes.runs_on;
        starts = row.starts ∙ sym goes.starts;
        over = row.over;
        born = row.born;
        shut = shut;
        n = row.n;
        index = row.index;
        f = row.f;
        at = row.at;
        by = row.by;
        failed = row.failed;
        told = row.told;
        crashed = row.crashed;
      }
    where
      longer : Longer w.commands sc.world.commands
      longer = (event_owned w lives e sc happened).0

      -- commands stay
      command : numbered sc.world.commands row.k ≡ Some row.x
      command = go row.k row.is
        where
          go : (k : ℕ) → numbered w.commands k ≡ Some row.x → numbered sc.world.commands k ≡ Some row.x
          go zero q = cc q
          go (suc m) q =
              let low = (numbered_below w.commands (suc m) row.x q).1 in
              let long = longer.long in
              let z = get_there sc.world.commands m (omega (arith, low, long)) in
              z.1 ∙ ap (λ k. Some k) (some_is (sym (longer.same (suc m) z.0 low z.1) ∙ q))

      next : SiteNext w e sc d
      next = (event_clients w e sc happened).sites d

      left : (after : WorldClient) × (site_of sc.world d ≡ Some after)
      left = by next
        where
          by : SiteNext w e sc d → (after : WorldClient) × (site_of sc.world d ≡ Some after)
          by (Stays q) = (row.site, q ∙ row.there)
          by (Steps s2 r2 q2) = (s2.after, s2.left)
          by (Crashes old q l stopped) = absurd (calm q)
          by (Starts old was stopped l) =
              absurd (clash row.runs (ap (λ (z : WorldClient). z.node.running) (some_is (sym row.there ∙ was)) ∙ stopped))

      goes : Goes w e sc lives d next row.site row.there row.runs calm left.0
      goes = goes_on w e sc lives d next row.site row.there row.runs calm left.0 left.1

      shut : Shut sc.world d s row.x.life
      shut k x2 d2 y2 at unreported carries client on life = by ((event_clients w e sc happened).opens counts k x2 d2 at unreported)
        where
          by : OldOpen w k x2 d2 ⊎ NewOf sc.world x2 → ⊥
          by (inl (c2, at2, open2, what)) = row.shut k x2 c2 y2 at2 open2 carries client on life
          by (inr (site2, there2, life2)) =
              place (association_with site2.node.state x2.server) refl
            where
              mine : site_of sc.world d ≡ Some site2
              mine = ap (site_of sc.world) (sym client) ∙ there2

              place : (o : Option Association) → association_with site2.node.state x2.server ≡ o → ⊥
              place None q =
                  let z = ap (λ (l : Life). l.0) (sym life ∙ (life2 ∙ ap world.life_at q)) in
                  let born = row.born in omega (arith, z, born)
              place (Some b2) q =
                  let z = ap (λ (l : Life). l.0) (sym life ∙ (life2 ∙ ap world.life_at q)) in
                  let found = Words.Tables.found_at (is_at x2.server) site2.node.state.associations b2 q in
                  let low =
                  row.over site2 mine b2 found.1 (ap (λ n. record { 0 = n }) (eqb-true b2.server.0 x2.server.0 found.0) ∙ on) in
                  omega (arith, z, low)

  -- What is owed after the event.
  rows_left : (d : ClientId) (s : ServerId) (r : LostPage) → Has r (owed (past ++ x' ∷ []) d s) →
      (is_crash_of d e ≡ false) × Has r (RowsAt past x' sc.seen d s)
  rows_left d s r i = go (is_crash_of d e) refl (subst (Has r) (owed_last past x' d s) i)
    where
      go : (b : Bool) → is_crash_of d e ≡ b → Has r (if b then [] else owed_along (ask_of past x' d) w d s (owed past d s) sc.seen) →
          (is_crash_of d e ≡ false) × Has r (RowsAt past x' sc.seen d s)
      go true q h = absurd h
      go false q h = (q, h)

  no_crash : (d : ClientId) → is_crash_of d e ≡ false → e ≡ events.Crash (nodes.Client d) → ⊥
  no_crash d q z = clash (ap (is_crash_of d) z ∙ eq-eqb d.0 d.0 refl) q

  -- The latest entry of a dirty page that wasn't changed: it was so before.
  old_entry : (d : ClientId) (b : Association) (ino : ℕ) (p : PageNo) → WasDirty w d b ino p → list_any (is_change_of d b.server ino p) sc.seen ≡ false →
      (n : ℕ) (o : LogEntry) → slice_get sc.world.log n ≡ Some o → latest sc.world.log d (file_at b ino) p ≡ suc n → o.of ≡ owner_at_page d b ino p →
      (k : LogEntry) × (slice_get w.log n ≡ Some k) × (k.of ≡ o.of) × ((f : Entry) → slice_get v.log n ≡ Some f → f.told ≡ false)
  old_entry d b ino p was non n o at lat own = (
    k.0,
    k.1,
    of,
    λ f q.
        untold d was.site was.a ino p was.page was.there was.runs was.has was.dirty n k.0 f k.1 q
        (ap (λ s. latest w.log d (record { server = s; ino = ino }) p) was.server ∙ lat0)
        (of ∙ (own ∙ sym (ap (λ s. log.owner d was.a.life (record { server = s; ino = ino }) p) was.server
        ∙ ap (λ l. log.owner d l (file_at b ino) p) was.life))),
  )
    where
      lat0 : latest w.log d (file_at b ino) p ≡ suc n
      lat0 =
          sym (latest_on sc.world d b.server ino p (numbered_below w.clients d.0 was.site was.there).0 sc.seen w.log non)
          ∙ (ap (λ es. latest es d (file_at b ino) p) whole.entries ∙ lat)

      k : (k : LogEntry) × (slice_get w.log n ≡ Some k)
      k =
          let high = latest_high d (file_at b ino) p w.log in
          let z = lat0 in get_there w.log n (omega (arith, high, z))

      back : (q : LogEntry) × (slice_get sc.world.log n ≡ Some q) × IsBack k.0 q
      back = subst (Back w.log) whole.entries (lines_back sc.world w.log sc.seen) n k.0 k.1

      of : k.0.of ≡ o.of
      of = sym back.2.of ∙ ap (λ (z : LogEntry). z.of) (some_is (sym back.1 ∙ at))

  -- An event that tells nothing of clients.
  module _ (silent : list_all is_mute sc.seen ≡ true) where
    mute_rows : (d : ClientId) (s : ServerId) (r : LostPage) → Has r (owed (past ++ x' ∷ []) d s) → (is_crash_of d e ≡ false) × Has r (owed past d s)
    mute_rows d s r i =
        let z = rows_left d s r i in
        (z.0, subst (Has r) (mute_along (ask_of past x' d) w d s sc.seen (owed past d s) silent) z.1)

    ends_mute : (y u : Volume) → AllOwn w e v y → AllKeep ⊥ v.log y.log → LogStays y u → After u
    ends_mute y u own keeps k =
        record {
          untold_ = told_after;
          apart_ = apart_after;
          rows_ = λ d s r i. let z = mute_rows d s r i in row d s r z.0 z.1;
        }
      where
        row0 : (d : ClientId) (s : ServerId) (r : LostPage) → is_crash_of d e ≡ false → Has r (owed past d s) → RowAt w sc.world u d s r
        row0 d s r q i =
            row_moved w sc.world never y u (block_plain y u k) d s r
            (rows_on past t e sc happened held.failures.stand whole v a marked rows apart over y own keeps d (no_crash d q) s r i) refl

        row : (d : ClientId) (s : ServerId) (r : LostPage) → is_crash_of d e ≡ false → Has r (owed past d s) → RowAt sc.world sc.world u d s r
        row d s r q i = row_after d (no_crash d q) s r u (row0 d s r q i)

        told_after : Untold sc.world sc.world.log u
        told_after d site b ino p x there runs i dirty n o f at is lat own_ =
            by (changed_by past t e sc lives d ((event_clients w e sc happened).sites d) site b ino p x there runs i dirty)
          where
            non : list_any (is_change_of d b.server ino p) sc.seen ≡ false
            non = mute_unchanged d b.server ino p sc.seen silent

            by : WasDirty w d b ino p ⊎ (list_any (is_change_of d b.server ino p) sc.seen ≡ true) → f.told ≡ false
            by (inr z) = absurd (clash z non)
            by (inl was) = before (stayed y.log u.log k n f is)
              where
                old : (k : LogEntry) × (slice_get w.log n ≡ Some k) × (k.of ≡ o.of) × ((f : Entry) → slice_get v.log n ≡ Some f → f.told ≡ false)
                old = old_entry d b ino p was non n o at lat own_

                before : Was Alike y.log n f → f.told ≡ false
                before (inr z) = z.1.told
                before (inl (g, q, z)) =
                    let g0 = told_on past t e sc happened held.failures.stand whole v a marked rows apart over y own keeps n old.0 g old.1 q in
                    z.told ∙ (g0.2 ∙ old.3 g0.0 g0.1)

        apart_after : Apart (owed (past ++ x' ∷ [])) sc.world sc.world.log u
        apart_after n o f at is ch p r i same = by (slice_get w.log n) refl (stayed y.log u.log k n f is)
          where
            z : (is_crash_of o.of.client e ≡ false) × Has r (owed past o.of.client o.of.file.server)
            z = mute_rows o.of.client o.of.file.server r i

            first : 1 ≤ r.command
            first = (row0 o.of.client o.of.file.server r z.0 z.1).first

            by : (q : Option LogEntry) → slice_get w.log n ≡ q → Was Alike y.log n f → ⊥
            by q h (inr j) = let none = j.1.failed in let l = first in omega (arith, l, none, same)
            by None h (inl (g, j, alike)) =
                let none = alike.failed ∙ fresh_on past t e sc happened held.failures.stand whole v a marked rows apart over y own keeps n g h j in
                let l = first in omega (arith, l, none, same)
            by (Some o0) h (inl (g, j, alike)) =
                let b = subst (Back w.log) whole.entries (lines_back sc.world w.log sc.seen) n o0 h in
                let it : b.0 ≡ o = some_is (sym b.1 ∙ at) in
                let of : o.of ≡ o0.of = ap (λ (q : LogEntry). q.of) (sym it) ∙ b.2.of in
                apart_on past t e sc happened held.failures.stand whole v a marked rows apart over y own keeps n o0 g h j
                (ap ev.changes_page (sym b.2.change ∙ ap (λ (q : LogEntry). q.change) it) ∙ ch) (subst (PresentOf sc.world) of p) r
                (subst (λ (q : LogOwner). Has r (owed past q.client q.file.server)) of z.1) (sym alike.failed ∙ same)

    after_mute : OnSome After (run (steps_of it v x') v)
    after_mute =
        let rest : List VolumeStep = of_delivery it.behind v w e ++ of_lines w sc.seen in
        run_then After (of_event w e) rest v
        (on_more (λ y. AllOwn w e v y × LogKept ⊥ v y) (λ y. OnSome After (run rest y))
        (λ y k. on_more (LogStays y) After (λ u j. ends_mute y u k.0 k.1 j) (run rest y) (run_stays rest y plain_rest))
        (run (of_event w e) v)
        (on_both (AllOwn w e v) (LogKept ⊥ v) (run (of_event w e) v) (own_steps past t e sc happened held.failures.stand whole v a carried)
        (run_keeps ⊥ (of_event w e) v (λ z. absurd z))))
      where
        both : (xs ys : List VolumeStep) → list_all is_plain xs ≡ true →
            list_all is_plain ys ≡ true → list_all is_plain (xs ++ ys) ≡ true
        both [] ys p q = q
        both (x ∷ xs) ys p q =
            let b =
            and_true (is_plain x) (list_all is_plain xs) p in
            and_both (is_plain x) (list_all is_plain (xs ++ ys)) b.0
            (both xs ys b.1 q)

        plain_rest : list_all is_plain (of_delivery it.behind v w e ++ of_lines w sc.seen) ≡ true
        plain_rest = both (of_delivery it.behind v w e) (of_lines w sc.seen) (served_plain it.behind v w e) (mute_plain w sc.seen silent)

  -- A step of a client.
  module _ (r : Stepping w e sc) (s : SiteStep w sc r.client) (clean : HardFilesAreClean past x') (agree : HasAsksOf w v)
      (opened : (d : ClientId) → AllOpenFor w d sc.seen (told_all d (of_event w e) (at_site (site_of w d)))) (l : AreLossesTold past x' [] sc.seen) where
    abbrev c : ClientId
    c = r.client

    abbrev calm : gives_fates e ≡ false
    calm = step_calm w e c r.site r.input r.takes

    never_crash : (d : ClientId) → e ≡ events.Crash (nodes.Client d) → ⊥
    never_crash d q = bad (sym (ap gives_fates q) ∙ calm)
      where
        bad : true ≡ false → ⊥
        bad z = cc

    pub silent : list_all tells_none sc.seen ≡ true
    silent = ap (λ (z : WorldTurn). list_all tells_none z.seen) (step_happens w e sc happened).1 ∙ quiet.event_silent (ev.counted w) e calm

    abbrev pub State : List Observation → List Observation → List LogEntry → Volume → Type 0
    State = owing.State past t e sc happened it held later v a right marked met wait whole r s

    abbrev pub J : List Observation → List LogEntry → Volume → Type 0
    J = owing.J past t e sc happened it held later v a right marked met wait whole r s

    -- at the start of the lines
    begins : (y : Volume) → AllOwn w e v y → AllKeep ⊥ v.log y.log → failing.Marked0 past t e sc happened held.failures.stand whole v a carried y →
        J [] w.log y
    unfolding owed_along
    begins y own keeps m =
        record {
          rows = λ d n k i. rows_on past t e sc happened held.failures.stand whole v a marked rows apart over y own keeps d (never_crash d) n k i;
          apart = λ n o f at there ch p k i same.
              apart_on past t e sc happened held.failures.stand whole v a marked rows apart over y own keeps n o f at there ch p k i same;
          marks = λ n o f at there p x z ch iss carries reach rep.
              let g = same_there o (slice_get v.log n) (subst (λ k. AtBoth k (slice_get v.log n)) at (same_at w.log v.log n a.entries)) in
              let h = m n o g.0 at g.1 g.2 p ch x z iss carries reach rep in
              let its : h.0 ≡ f = some_is (sym h.1 ∙ there) in (ap (λ (k : Entry). k.failed) (sym its) ∙ h.2.0, h.2.1);
          fresh = λ n f at there. fresh_on past t e sc happened held.failures.stand whole v a marked rows apart over y own keeps n f at there;
          over = λ n o f at there ch q.
              over_on past t e sc happened held.failures.stand whole v a marked rows apart over y own keeps never_crash n o f at there ch q;
          others = λ n o f at there away. told_on past t e sc happened held.failures.stand whole v a marked rows apart over y own keeps n o f at there;
          late = λ b i ended ino p x dirty n o f at there lat its away.
              let g = told_on past t e sc happened held.failures.stand whole v a marked rows apart over y own keeps n o f at there in
              g.2 ∙ untold c s.site b ino p x s.there s.runs i dirty n o g.0 at g.1 lat its;
          live = λ b i ino p x dirty n o f at there lat its flag was. live b ino p n o f at there lat its was;
        }
      where
        live : (b : Association) (ino : ℕ) (p : PageNo) (n : ℕ) (o : LogEntry) (f : Entry) → slice_get w.log n ≡ Some o → slice_get y.log n ≡ Some f →
            latest w.log c (file_at b ino) p ≡ suc n → o.of ≡ owner_at_page c b ino p →
            WasDirty w c b ino p ⊎ (list_any (is_change_of c b.server ino p) [] ≡ true) → f.told ≡ false
        live b ino p n o f at there lat its (inr z) = cc z
        live b ino p n o f at there lat its (inl was) =
            let g = told_on past t e sc happened held.failures.stand whole v a marked rows apart over y own keeps n o f at there in
            g.2
            ∙ untold c was.site was.a ino p was.page was.there was.runs was.has was.dirty n o g.0 at g.1
            (ap (λ k. latest w.log c (record { server = k; ino = ino }) p) was.server ∙ lat)
            (its ∙ sym (ap (λ k. log.owner c was.a.life (record { server = k; ino = ino }) p) was.server
            ∙ ap (λ k. log.owner c k (file_at b ino) p) was.life))

    -- after the lines
    ends : (u : Volume) → J sc.seen sc.world.log u → AllKeep ⊥ v.log u.log → After u
    ends u j keeps =
        record {
          untold_ = told_after;
          apart_ = λ n o f at is ch p k i same. j.apart n o f at is ch p k (rows_left o.of.client o.of.file.server k i).1 same;
          rows_ = λ d n k i. row_after d (never_crash d) n k u (j.rows d n k (rows_left d n k i).1);
        }
      where
        told_after : Untold sc.world sc.world.log u
        told_after d site b ino p x there runs i dirty n o f at is lat own = by (Words.Tables.same_or_not d.0 c.0)
          where
            was : WasDirty w d b ino p ⊎ (list_any (is_change_of d b.server ino p) sc.seen ≡ true)
            was = changed_by past t e sc lives d ((event_clients w e sc happened).sites d) site b ino p x there runs i dirty

            mine_ : d ≡ c → f.told ≡ false
            mine_ same =
                j.live b (subst (λ (z : WorldClient). Has b z.node.state.associations) (some_is (sym there ∙ (ap (site_of sc.world) same ∙ s.left))) i) ino p x
                dirty n o f at is (ap (λ k. latest sc.world.log k (file_at b ino) p) (sym same) ∙ lat)
                (own ∙ ap (λ k. log.owner k b.life (file_at b ino) p) same)
                (clean c site b ino p x (ap (site_of sc.world) (sym same) ∙ there) i dirty)
                (subst (λ k. WasDirty w k b ino p ⊎ (list_any (is_change_of k b.server ino p) sc.seen ≡ true)) same was)

            other_ : (d ≡ c → ⊥) → WasDirty w d b ino p ⊎ (list_any (is_change_of d b.server ino p) sc.seen ≡ true) → f.told ≡ false
            other_ away (inr z) = absurd (clash z (other_unchanged c d b.server ino p away sc.seen (lines_mine w sc lives c s)))
            other_ away (inl z) =
                let old = old_entry d b ino p z (other_unchanged c d b.server ino p away sc.seen (lines_mine w sc lives c s)) n o at lat own in
                let g =
                j.others n old.0 f old.1 is
                (λ q. away (sym (ap (λ (k : LogOwner). k.client) (old.2 ∙ own)) ∙ q)) in
                g.2 ∙ old.3 g.0 g.1

            by : (d.0 ≡ c.0) ⊎ (d.0 ≡ c.0 → ⊥) → f.told ≡ false
            by (inl q) = mine_ (ap (λ k. record { 0 = k }) q)
            by (inr q) = other_ (λ z. q (ap (λ (k : ClientId). k.0) z)) was

    -- The answers.
    -- each row names an entry
    row_named : (done : List Observation) (es : List LogEntry) (u : Volume) → J done es u → (d : ClientId) (n : ServerId) (k : LostPage) →
        Has k (RowsAt past x' done d n) → is_lost_row u d (record { server = n; ino = k.ino }) (as_told k) ≡ true
    row_named done es u j d n k i = named d n k (j.rows d n k i)
      where
        named : (d : ClientId) (n : ServerId) (k : LostPage) → RowAt w sc.world u d n k →
            is_lost_row u d (record { server = n; ino = k.ino }) (as_told k) ≡ true
        named d n k row = row_names w sc.world u d n k row

    module _ (all : AllAsked w e (asks_of (past ++ x' ∷ []))) where
      taken : (done os : List Observation) (es : List LogEntry) (u : Volume) (d : ClientId) (op : ℕ) (told : List LostRow) →
          done ++ seen.Answered d op (answers.Lost told) ∷ os ≡ sc.seen → IsLossTold past x' done (seen.Answered d op (answers.Lost told)) →
          State done (seen.Answered d op (answers.Lost told) ∷ os) es u → J done es u → is_some (volume.step u (kinds.Answered d op (answers.Lost told))) ≡ true
      taken done os es u d op told q i st j =
          ap is_some (if_true (u.lines == length u.log) (volume.acts u (kinds.Answered d op (answers.Lost told))) None (eq-eqb u.lines (length u.log) st.lined))
          ∙ go (find (is_ask d op) u.pending) refl (open_there d op u ((st.open_ d).0 (eq-eqb d.0 d.0 refl)))
        where
          whole_ : Whole past t e sc happened it held later v a right marked met wait whole r d op told u
          whole_ = lost.whole_now past t e sc happened it held later v a right marked met wait whole r done os es u d op told q i st all

          by_ask : (b : Pending) → find (is_ask d op) u.pending ≡ Some b → answers_so u b (answers.Lost told) b.result ≡ true
          by_ask b f = result b.result refl
            where
              client : (b.client ≡ d) × (ask_of past x' d op ≡ Some b.ask)
              client = owing.its_ask past t e sc happened it held later v a right marked met wait whole r s u st.asked d op b f

              told_whole : is_told_whole u b told ≡ true
              told_whole = lost.told_whole past t e sc happened it held later v a right marked met wait whole r all u d op told b whole_ f client.1

              parts : ((volume.is_sync b.ask && not (is_some b.result)) ≡ true)
                  × (((nat_lt 0 (length told) && volume.are_rising told)
                  && (nat_le 1024 (length told) || not (list_any (volume.is_left b.client (volume.file_of b.ask) told) u.log))) ≡ true)
              parts = and_true (volume.is_sync b.ask && not (is_some b.result)) _ told_whole

              sync : (volume.is_sync b.ask ≡ true) × (not (is_some b.result) ≡ true)
              sync = and_true (volume.is_sync b.ask) (not (is_some b.result)) parts.0

              first : ((nat_lt 0 (length told) && volume.are_rising told) ≡ true)
                  × ((nat_le 1024 (length told) || not (list_any (volume.is_left b.client (volume.file_of b.ask) told) u.log)) ≡ true)
              first = and_true (nat_lt 0 (length told) && volume.are_rising told) _ parts.1

              few : (nat_lt 0 (length told) ≡ true) × (volume.are_rising told ≡ true)
              few = and_true (nat_lt 0 (length told)) (volume.are_rising told) first.0

              words : b.ask ≡ asks.Sync whole_.file
              words = some_is (sym client.1 ∙ whole_.is)

              -- the rows
              rows_are : told ≡ owed_of_file (RowsAt past x' done d whole_.file.server) whole_.file.ino
              rows_are =
                  by_owed (owes (RowsAt past x' done d whole_.file.server) whole_.file.ino)
                  (subst (λ o. IsToldTo o (RowsAt past x' done d) (answers.Lost told)) whole_.is i)
                where
                  by_owed : (z : Bool) → IsToldBy z (owed_of_file (RowsAt past x' done d whole_.file.server) whole_.file.ino) (answers.Lost told) →
                      told ≡ owed_of_file (RowsAt past x' done d whole_.file.server) whole_.file.ino
                  by_owed true k = k
                  by_owed false k = absurd k

              each : (y : LostRow) → Has y told → is_lost_row u d whole_.file y ≡ true
              each y h =
                  let k = told_row (RowsAt past x' done d whole_.file.server) whole_.file.ino y (subst (Has y) rows_are h) in
                  subst (λ z. is_lost_row u d whole_.file z ≡ true) (sym k.3)
                  (subst (λ n. is_lost_row u d (record { server = whole_.file.server; ino = n }) (as_told k.0) ≡ true) k.2
                  (row_named done es u j d whole_.file.server k.0 k.1))

              all_rows : (xs : List LostRow) → ((y : LostRow) → Has y xs → is_lost_row u d whole_.file y ≡ true) →
                  list_all (is_lost_row u d whole_.file) xs ≡ true
              all_rows [] h = refl
              all_rows (y ∷ xs) h =
                  and_both (is_lost_row u d whole_.file y) (list_all (is_lost_row u d whole_.file) xs) (h y (inl refl)) (all_rows xs (λ z k. h z (inr k)))

              named : list_all (is_lost_row u b.client (volume.file_of b.ask)) told ≡ true
              named =
                  subst (λ k. list_all (is_lost_row u k (volume.file_of b.ask)) told ≡ true) (sym client.0)
                  (subst (λ k. list_all (is_lost_row u d (volume.file_of k)) told ≡ true) (sym words) (all_rows told each))

              is_lost : volume.is_lost u b.client (volume.file_of b.ask) told ≡ true
              is_lost =
                  and_both
                  (nat_lt 0 (length told) && (volume.are_rising told && list_all (is_lost_row u b.client (volume.file_of b.ask)) told))
                  (nat_le 1024 (length told) || not (list_any (volume.is_left b.client (volume.file_of b.ask) told) u.log))
                  (and_both (nat_lt 0 (length told)) (volume.are_rising told && list_all (is_lost_row u b.client (volume.file_of b.ask)) told) few.0
                  (and_both (volume.are_rising told) (list_all (is_lost_row u b.client (volume.file_of b.ask)) told) few.1 named))
                  first.1

              result : (o : Option AppAnswer) → b.result ≡ o → answers_so u b (answers.Lost told) o ≡ true
              result None z = and_both (volume.is_sync b.ask) (volume.is_lost u b.client (volume.file_of b.ask) told) sync.0 is_lost
              result (Some x) z = absurd (clash sync.1 (ap (λ o2. not (is_some o2)) z))

          go : (o : Option Pending) → find (is_ask d op) u.pending ≡ o → is_some o ≡ true →
              is_some (option_and_then (answered u (answers.Lost told)) o) ≡ true
          go None f z = cc z
          go (Some b) f z =
              ap is_some
              (if_true (answers_so u b (answers.Lost told) b.result) (Some (volume.closed b (volume.after_answer u b (answers.Lost told)))) None (by_ask b f))

      at_answer : (answer : AppAnswer) (done os : List Observation) (es : List LogEntry) (u : Volume) (d : ClientId) (op : ℕ) →
          done ++ seen.Answered d op answer ∷ os ≡ sc.seen → IsLossTold past x' done (seen.Answered d op answer) →
          State done (seen.Answered d op answer ∷ os) es u → J done es u → is_lost_answer (kinds.Answered d op answer) ≡ true →
          is_some (volume.step u (kinds.Answered d op answer)) ≡ true
      at_answer (answers.Lost told) done os es u d op q i st j z = taken done os es u d op told q i st j
      at_answer answer done os es u d op q i st j z = cc z

      one_line : (done : List Observation) (o : Observation) (os : List Observation) (es : List LogEntry) (u : Volume) → done ++ o ∷ os ≡ sc.seen →
          lines.log_told sc.world w.log done ≡ es → list_all tells_none done ≡ true → IsLossTold past x' done o → State done (o ∷ os) es u → J done es u →
          AtEachStep (Takes is_lost_answer) (block w o os) u
      one_line done o os es u q g n i st j =
          block_by (Takes is_lost_answer) (takes_silent is_lost_answer only_lost) w o os u
          (λ d op answer k. at_answer answer done os es u d op (subst (λ y. done ++ y ∷ os ≡ sc.seen) k q) (subst (IsLossTold past x' done) k i)
          (subst (λ y. State done (y ∷ os) es u) k st) j)

      -- the lines, from the state at their start
      lines_on : (y : Volume) → State [] sc.seen w.log y → J [] w.log y →
          AtEachStep (Takes is_lost_answer) (of_lines w sc.seen) y × OnSome (J sc.seen sc.world.log) (run (of_lines w sc.seen) y)
      unfolding lines.log_told
      lines_on y st j =
          losing.lines_J past t e sc happened it held later v a right marked met wait whole r s late_failed once all (Takes is_lost_answer) one_line [] sc.seen
          w.log
          y refl silent refl l refl st j

    -- all steps
    abbrev AsksOn : Volume → Type 0
    AsksOn y = (d : ClientId) → in_volume y d ≡ told_all d (of_event w e) (in_volume v d)

    abbrev Own0 : Volume → Type 0
    Own0 y = AllOwn w e v y × (LogKept ⊥ v y × failing.Marked0 past t e sc happened held.failures.stand whole v a carried y)

    pub record Begun (y : Volume) : Type 0 where
      pub state : State [] sc.seen w.log y
      pub its : J [] w.log y
      pub all : AllAsked w e (asks_of (past ++ x' ∷ []))

    pub none : of_delivery it.behind v w e ≡ []
    none = none_served it.behind v w e c r.site r.input r.takes

    abbrev pub first : Option Volume
    first = run (of_event w e) v

    all_asked : (y : Volume) → AreOf (asks_of (past ++ x' ∷ [])) y → AsksOn y → AllAsked w e (asks_of (past ++ x' ∷ []))
    all_asked y right_ asks_ d k h =
        asked_there (asks_of (past ++ x' ∷ [])) y d k right_
        (subst (Has k) (ap (λ (i : AsksOf). i.pending) (sym (asks_ d ∙ ap (told_all d (of_event w e)) (agree d)))) h)

    pub begun_on : OnSome Begun first
    begun_on =
        on_more (λ y. (State [] sc.seen w.log y × AsksOn y) × Own0 y) Begun
        (λ y k. record { state = k.0.0; its = begins y k.1.0 k.1.1.0 k.1.1.1; all = all_asked y k.0.0.asked k.0.1 }) first
        (on_both (λ y. State [] sc.seen w.log y × AsksOn y) Own0 first
        (on_both (State [] sc.seen w.log) AsksOn first
        (hard.state_begins past t e sc happened it held later v a right marked met wait calm whole none
        (λ d. subst (λ h. AllOpenFor w d sc.seen (told_all d (of_event w e) h)) (sym (agree d)) (opened d)))
        (of_each (of_event w e) v first (λ d. run_tells d (of_event w e) v)))
        (on_both (AllOwn w e v) (λ y. LogKept ⊥ v y × failing.Marked0 past t e sc happened held.failures.stand whole v a carried y) first
        (own_steps past t e sc happened held.failures.stand whole v a carried)
        (on_both (LogKept ⊥ v) (failing.Marked0 past t e sc happened held.failures.stand whole v a carried) first
        (run_keeps ⊥ (of_event w e) v (λ z. absurd z)) (first_marked past t e sc happened held.failures.stand whole v a carried))))

    taken_all : AreTaken is_lost_answer (steps_of it v x') v
    taken_all =
        subst (λ served. AreTaken is_lost_answer (of_event w e ++ (served ++ of_lines w sc.seen)) v) (sym none)
        (taken_at is_lost_answer (of_event w e ++ of_lines w sc.seen) v
        (at_both (Takes is_lost_answer) (of_event w e) (of_lines w sc.seen) v
        (at_silent (Takes is_lost_answer) (takes_silent is_lost_answer only_lost) (of_event w e) v (event_silent w e))
        (on_more Begun (AtEachStep (Takes is_lost_answer) (of_lines w sc.seen)) (λ y k. (lines_on k.all y k.state k.its).0) first begun_on)))

    after_all : OnSome After (run (steps_of it v x') v)
    after_all =
        subst (λ served. OnSome After (run (of_event w e ++ (served ++ of_lines w sc.seen)) v)) (sym none)
        (run_then After (of_event w e) (of_lines w sc.seen) v
        (on_more Begun (λ y. OnSome After (run (of_lines w sc.seen) y)) (λ y k. more y k) first begun_on))
      where
        more : (y : Volume) → Begun y → OnSome After (run (of_lines w sc.seen) y)
        more y k =
            on_more (λ u. J sc.seen sc.world.log u × LogKept ⊥ y u) After (λ u i. ends u i.0 (keep_then ⊥ v.log y.log u.log k.state.keeps i.1))
            (run (of_lines w sc.seen) y)
            (on_both (J sc.seen sc.world.log) (LogKept ⊥ y) (run (of_lines w sc.seen) y) (lines_on k.all y k.state k.its).1
            (run_keeps ⊥ (of_lines w sc.seen) y (λ z. absurd z)))

  -- Any event.
  taken_mute : list_all is_mute sc.seen ≡ true → AreTaken is_lost_answer (steps_of it v x') v
  taken_mute q =
      none_answered is_lost_answer only_lost (steps_of it v x') v
      (silent_both (of_event w e) (of_delivery it.behind v w e ++ of_lines w sc.seen) (event_silent w e)
      (silent_both (of_delivery it.behind v w e) (of_lines w sc.seen) (delivery_silent it.behind v w e) (mute_silent w sc.seen q)))

  pub event_rows : HardFilesAreClean past x' → HasAsksOf w v →
      ((d : ClientId) → AllOpenFor w d sc.seen (told_all d (of_event w e) (at_site (site_of w d)))) → AreLossesTold past x' [] sc.seen →
      AreTaken is_lost_answer (steps_of it v x') v × OnSome After (run (steps_of it v x') v)
  event_rows clean agree opened l = by (event_clients w e sc happened).who
    where
      by : ((r : Stepping w e sc) × SiteStep w sc r.client) ⊎ (list_all is_mute sc.seen ≡ true) →
          AreTaken is_lost_answer (steps_of it v x') v × OnSome After (run (steps_of it v x') v)
      by (inl (r, s)) = (taken_all r s clean agree opened l, after_all r s clean agree opened l)
      by (inr q) = (taken_mute q, after_mute q)

-- In every run.
pub record RowsHold (past : List Step) (t : Traced) (it : Witness) : Type 0 where
  pub met : MetHold past t it
  pub asks : AsksHold past t it
  pub wait : OnSome AllWait it.volume
  pub over : OverHold past t it
  pub late : LateFailed t.world
  pub once : AllOnce t.world
  pub rows : OnSome (RowsStand past t.world) it.volume

abbrev pub Known : Promise
Known past x =
    losses.Known past x
    × ((FatesHold x.after.world × PlacesHold x.after.world) × (HardFilesAreClean past x × (PagesAreOnce past x × LatePagesHaveFailed past x)))

pub record AllOf (past : List Step) (t : Traced) (v : Volume) : Type 0 where
  pub log_ : IsLogOf t.world.log v
  pub asked : AreOf (asks_of past) v
  pub marked : MarksOf t.world v
  pub met : AreMet (owed past) (IsLate t.world) t.world.log v
  pub wait : AllWait v
  pub agree : HasAsksOf t.world v
  pub carried_ : AreMarked past t.world v
  pub over : AreOver t.world.ended t.world.log v.log
  pub rows : RowsStand past t.world v

pub all_of : (past : List Step) (t : Traced) (it : Witness) → RowsHold past t it → OnSome (AllOf past t) it.volume
all_of past t it h =
    go it.volume h.met.failures.log h.met.right h.met.crashes.marked h.met.met h.wait h.asks.agree h.met.failures.carried h.over.over h.rows
  where
    go : (o : Option Volume) → OnSome (IsLogOf t.world.log) o → OnSome (AreOf (asks_of past)) o → OnSome (MarksOf t.world) o →
        OnSome (AreMet (owed past) (IsLate t.world) t.world.log) o → OnSome AllWait o → OnSome (HasAsksOf t.world) o → OnSome (AreMarked past t.world) o →
        OnSome (λ v. AreOver t.world.ended t.world.log v.log) o → OnSome (RowsStand past t.world) o → OnSome (AllOf past t) o
    go None p q r m u y c z k = tt
    go (Some v) p q r m u y c z k =
        record { log_ = p; asked = q; marked = r; met = m; wait = u; agree = y; carried_ = c; over = z; rows = k }

RowsToo : List Step → Step → Witness → Type 0
RowsToo past x it = OnSome (λ v. AreTaken is_lost_answer (steps_of it v x) v) it.volume

both_on : (past : List Step) (t : Traced) (e : Event) (sc : WorldTurn) (it : Witness) → world_step t.world e ≡ Ok sc → Known past (step t e sc) →
    RowsHold past t it → (v : Volume) → AllOf past t v →
    AreTaken is_lost_answer (steps_of it v (step t e sc)) v
    × OnSome (RowsStand (past ++ step t e sc ∷ []) sc.world) (run (steps_of it v (step t e sc)) v)
both_on past t e sc it f g h v m =
    event_rows past t e sc f it h.met g.1.0.0 (one_step past t e sc f h.met.failures.stand.places h.met.failures.stand.stand).stand.both.writes.commands.counts
    v m.log_
    m.asked m.marked m.met m.wait g.0.0.0 m.carried_ m.over h.late h.once m.rows.untold_ m.rows.apart_ m.rows.rows_ g.1.1.0 m.agree
    (open_left past t e sc it f h.asks) g.0.1.1

after_rows : (past : List Step) (t : Traced) (e : Event) (sc : WorldTurn) (it : Witness) → world_step t.world e ≡ Ok sc → Known past (step t e sc) →
    RowsHold past t it → (o : Option Volume) → OnSome (AllOf past t) o →
    OnSome (RowsStand (past ++ step t e sc ∷ []) sc.world) (volume_after it (step t e sc) o)
after_rows past t e sc it f g h None m = tt
after_rows past t e sc it f g h (Some v) m =
    on_then (RowsStand (past ++ step t e sc ∷ []) sc.world) if_told (run (steps_of it v (step t e sc)) v)
    (on_more (RowsStand (past ++ step t e sc ∷ []) sc.world) (λ u. OnSome (RowsStand (past ++ step t e sc ∷ []) sc.world) (if_told u))
    (λ u k. on_if (RowsStand (past ++ step t e sc ∷ []) sc.world) (u.lines == length u.log) (Some u) k) (run (steps_of it v (step t e sc)) v)
    (both_on past t e sc it f g h v m).1)

rows_given : IsGiven Known RowsHold RowsToo
unfolding RowsToo led_by
rows_given past t e sc it f g h = (
  on_more (AllOf past t) (λ v. AreTaken is_lost_answer (steps_of it v (step t e sc)) v) (λ v m. (both_on past t e sc it f g h v m).0) it.volume
      (all_of past t it h),
  record {
    met = met_kept past t e sc it f g.0 h.met;
    asks = asks_kept past t e sc it f g.1.0 h.asks;
    wait = after_wait it past (step t e sc) it.volume h.met.right h.wait;
    over = over_kept past t e sc it f (g.0.0.0, (g.0.0.1.0, g.0.1.0)) h.over;
    late = g.1.1.1.1;
    once = g.1.1.1.0;
    rows = after_rows past t e sc it f g h it.volume (all_of past t it h);
  },
)

pub rows_kept : IsKept Known RowsHold
rows_kept past t e sc it f g h = (rows_given past t e sc it f g h).1

pub rows_begin : (k : Config) (clients servers disks blocks form : ℕ) →
    RowsHold [] (traced (fresh_world k clients servers disks blocks form))
    (begun (fresh_world k clients servers disks blocks form) (fresh_world k clients servers disks blocks form))
unfolding begun fresh_world owed_from
rows_begin k clients servers disks blocks form =
    record {
      met = met_begins k clients servers disks blocks form;
      asks = asks_begin k clients servers disks blocks form;
      wait = refl;
      over = over_begins k clients servers disks blocks form;
      late = late_begins k clients servers disks blocks form;
      once = once_begins k clients servers disks blocks form;
      rows =
          record {
            untold_ = λ d site b ino p x there runs i dirty n o f at is lat own. cc at;
            apart_ = λ n o f at is ch p r i same. cc at;
            rows_ = λ d n r i. absurd i;
          };
    }

pub known_in : (k : Config) (clients servers disks blocks form : ℕ) (es : List Event) → IsHead k clients servers disks blocks form →
    list_all (is_event (clients + servers)) es ≡ true → EveryRunIsSafe → InEveryRun PagesAfter →
    Throughout Known [] (steps es (traced (fresh_world k clients servers disks blocks form)))
known_in k clients servers disks blocks form es head events safe pages =
    let t : Traced = traced (fresh_world k clients servers disks blocks form) in
    let kept : IsSafeRun (fresh_world k clients servers disks blocks form) es = safe k clients servers disks blocks form es head events in
    throughout_both losses.Known
    (λ past x. (FatesHold x.after.world × PlacesHold x.after.world) × (HardFilesAreClean past x × (PagesAreOnce past x × LatePagesHaveFailed past x))) []
    (steps es t)
    (losses.known_in k clients servers disks blocks form es head kept (pages k clients servers disks blocks form es head events))
    (throughout_both (λ past x. FatesHold x.after.world × PlacesHold x.after.world)
    (λ past x. HardFilesAreClean past x × (PagesAreOnce past x × LatePagesHaveFailed past x)) [] (steps es t)
    (throughout_both (λ past x. FatesHold x.after.world) (λ past x. PlacesHold x.after.world) [] (steps es t) (fates_law k clients servers disks blocks form es)
    (places_law k clients servers disks blocks form es head))
    (throughout_both HardFilesAreClean (λ past x. PagesAreOnce past x × LatePagesHaveFailed past x) [] (steps es t)
    (hard_files_are_clean k clients servers disks blocks form es head events)
    (throughout_both PagesAreOnce LatePagesHaveFailed [] (steps es t) (pages_are_once k clients servers disks blocks form es head events)
    (late_pages_have_failed k clients servers disks blocks form es head events))))

names_all : (past : List Step) (x : Step) → Led RowsHold past x → OwedRowsNameEntries past x
names_all past x h =
    on_more (RowsStand (past ++ x ∷ []) x.after.world) (NameEntries (owed (past ++ x ∷ [])))
    (λ v k d n r i. row_names x.after.world x.after.world v d n r (k.rows_ d n r i)) (led_by (led_to past x) x).volume h.rows

pub rows_hold : EveryRunIsSafe → InEveryRun PagesAfter → InEveryRun (Led RowsHold)
rows_hold safe pages k clients servers disks blocks form es head events =
    carried Known RowsHold rows_kept es (traced (fresh_world k clients servers disks blocks form)) (rows_begin k clients servers disks blocks form)
    (known_in k clients servers disks blocks form es head events safe pages)

pub owed_rows_name_entries : EveryRunIsSafe → InEveryRun PagesAfter → InEveryRun OwedRowsNameEntries
owed_rows_name_entries safe pages k clients servers disks blocks form es head events =
    throughout_more (Led RowsHold) OwedRowsNameEntries names_all [] (steps es (traced (fresh_world k clients servers disks blocks form)))
    (rows_hold safe pages k clients servers disks blocks form es head events)

pub lost_answers_are_taken : EveryRunIsSafe → InEveryRun PagesAfter → InEveryRun (StepsAreTaken is_lost_answer)
unfolding RowsToo begun
lost_answers_are_taken safe pages k clients servers disks blocks form es head events =
    let t : Traced = traced (fresh_world k clients servers disks blocks form) in
    given_in Known RowsHold RowsToo rows_given es t (rows_begin k clients servers disks blocks form)
    (known_in k clients servers disks blocks form es head events safe pages)
