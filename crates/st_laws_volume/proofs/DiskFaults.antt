-- In every run the volume takes each answer `diskfault`: a command was just reported failed to its client, a write of the file of a sync, or a read of the
-- server's disks for a read or a patch.
use Rattle.std.proofs.Common.{◌≡◌, ℕ, zero, suc, Bool, true, false, not, ◌&&◌, ◌||◌, ◌==◌, List, [], ◌∷◌, ◌++◌, length, map, Option, Some, None, refl, sym, ap, ◌∙◌, subst, inl, inr, if◌then◌else◌}
use Rattle.std.specs.Prelude.{find, is_some, option_and_then, option_map, slice_get}
use Rattle.std.specs.List.{list_all, list_any}
use Rattle.std.proofs.lemmas.Bool.{eq-eqb, eqb-true}
use Rattle.st_base.specs.declared.disk.Tag.{Tag}
use Rattle.st_base.specs.declared.ids.ClientId.{ClientId}
use Rattle.st_base.specs.declared.ids.FileId.{FileId}
use Rattle.st_base.specs.declared.ids.PageNo.{PageNo}
use Rattle.st_base.specs.declared.ids.ServerId.{ServerId}
use Rattle.st_messages.specs.declared.answer.AppAnswer.{AppAnswer}
use Rattle.st_messages.specs.declared.answer.AppAnswer.TheVariants as answers
use Rattle.st_messages.specs.declared.ask.Ask.{Ask}
use Rattle.st_messages.specs.declared.ask.Ask.TheVariants as asks
use Rattle.st_messages.specs.declared.event.Event.{Event}
use Rattle.st_messages.specs.declared.event.Event.TheVariants as events
use Rattle.st_rules.specs.declared.client.ClientInput.{ClientInput}
use Rattle.st_rules.specs.declared.client.ClientInput.TheVariants as inputs
use Rattle.st_rules.specs.declared.log.Change.{Change}
use Rattle.st_rules.specs.declared.log.Change.TheVariants as changes
use Rattle.st_rules.specs.declared.log.LogEntry.{LogEntry}
use Rattle.st_rules.specs.declared.log.LogOwner.{LogOwner}
use Rattle.st_rules.specs.declared.world.Carried.{Carried}
use Rattle.st_rules.specs.declared.world.IssuedCommand.{IssuedCommand}
use Rattle.st_rules.specs.ClientState as cs
use Rattle.st_rules.specs.Events.{WorldTurn, is_same_instance}
use Rattle.st_rules.specs.History.{Traced, traced}
use Rattle.st_rules.specs.Keys.{same_server}
use Rattle.st_rules.specs.Safety.{AsksAreAnsweredOnce, Promise, Step, TheReportTellsTheLog, all_answered_once, all_followed, step, steps}
use Rattle.st_rules.specs.World as world
use Rattle.st_rules.specs.World.{World, WorldClient, fresh_world, issued_of, site_of}
use Rattle.st_lemmas.specs.Lists.{Has}
use Rattle.st_lemmas.proofs.Lookups.{if_true, or_right, some_is}
use Rattle.st_lemmas.proofs.Tables.{and_both, and_true, each_passes, found_at}
use Rattle.st_lemmas.proofs.Truth.{clash}
use Rattle.st_promises.specs.Safe.{EveryRunIsSafe, IsSafeRun}
use Rattle.st_laws_pages.specs.Asks.Law.{PlacesHold}
use Rattle.st_laws_pages.specs.Disks.Folds.{of_entry, owner_at}
use Rattle.st_laws_pages.specs.Disks.Obligations.{FatesHold}
use Rattle.st_laws_pages.specs.Disks.Runs.{PagesAfter}
use Rattle.st_laws_pages.specs.Disks.World.{PagesHold}
use Rattle.st_laws_pages.specs.Flush.Flush.{IsIts}
use Rattle.st_laws_pages.proofs.Asks.Law.{places_law}
use Rattle.st_laws_pages.proofs.Asks.World.{asks_of}
use Rattle.st_laws_pages.proofs.Causes.Law.{Stand, fresh_stand, one_step}
use Rattle.st_laws_pages.proofs.Disks.Whole.{fates_law}
use Rattle.st_laws_requests.specs.Replies.ServedRequests.{ReassertionsNew}
use Rattle.st_laws_extents.proofs.CutRequests.New.{reassertions_new}
use Rattle.st_laws_volume.specs.AnswerKinds.{ResultFits, is_disk_fault}
use Rattle.st_laws_volume.specs.Asks.{HasAsksOf, at_site}
use Rattle.st_laws_volume.specs.Logs.{InEveryRun, IsLogOf, ask_of}
use Rattle.st_laws_volume.specs.Options.{OnSome}
use Rattle.st_laws_volume.specs.Results.{may_have_result}
use Rattle.st_laws_volume.specs.Seen.{failure, failure_of, failure_told, of_event}
use Rattle.st_laws_volume.specs.StepKinds.{AreTaken, AtEachStep, StepsAreTaken}
use Rattle.st_laws_volume.specs.Witness.{Witness, of_lines, steps_of}
use Rattle.st_laws_volume.proofs.AnswerCauses.{Fits, IsFault, Says, Waits, all_say, input_tells}
use Rattle.st_laws_volume.proofs.AnswerLines.{AllAsked, AllFit, IsFineBy, LastsInside, NoneOf, Takes, at_two, comes_to, event_fine, event_none, lasting_at, none_served, takes_silent, taken_at}
use Rattle.st_laws_volume.proofs.AnswerResults.{lines_fit}
use Rattle.st_laws_volume.proofs.AnswerSteps.{OnlyAnswers}
use Rattle.st_laws_volume.proofs.AskedAsks.{AreOf}
use Rattle.st_laws_volume.proofs.AskEvents.{AllOpenFor}
use Rattle.st_laws_volume.proofs.Asks.{AsksHold, asks_begin, asks_kept}
use Rattle.st_laws_volume.proofs.AskSteps.{after_keeps, told_all}
use Rattle.st_laws_volume.proofs.Carried.{IsGiven, given_in}
use Rattle.st_laws_volume.proofs.CarriedEntries.{EntriesCarried, entries_kept}
use Rattle.st_laws_volume.proofs.ChangeLines.{on_both}
use Rattle.st_laws_volume.proofs.CommandServers.{AllServed, served_begins, served_on}
use Rattle.st_laws_volume.proofs.EventAnswers.{AnswersOf, ByAsk, ByMessage, ByReport, ByTick, GivesNone, Steps, TakesAt, event_answers}
use Rattle.st_laws_volume.proofs.FailedWrites.{fresh_carried}
use Rattle.st_laws_volume.proofs.KeptResults.{AllRight, ResultsHold, filtered, mapped, results_begin, results_kept, run_kept, taken}
use Rattle.st_laws_volume.proofs.LogEntries.{AtBoth, same_at}
use Rattle.st_laws_volume.proofs.LogLines.{numbered_suc}
use Rattle.st_laws_volume.proofs.Logs.{LogHolds, log_begins, log_kept}
use Rattle.st_laws_volume.proofs.OpenAnswers.{open_left}
use Rattle.st_laws_volume.proofs.Options.{on_all, on_if, on_map, on_more, on_then}
use Rattle.st_laws_volume.proofs.ReadPages.{throughout_both}
use Rattle.st_laws_volume.proofs.SessionEpochs.{EpochsRight, KnowsEpochs, knows_begin, knows_on}
use Rattle.st_laws_volume.proofs.StepKinds.{lines_inside}
use Rattle.st_laws_volume.proofs.ToldSteps.{Told, event_kept}
use Rattle.st_volume.specs.declared.step.Fate.{Fate}
use Rattle.st_volume.specs.declared.step.Fate.TheVariants as fates
use Rattle.st_volume.specs.declared.step.VolumeStep.{VolumeStep}
use Rattle.st_volume.specs.declared.step.VolumeStep.TheVariants as kinds
use Rattle.st_volume.specs.Pages.{Entry, is_cause, place_of}
use Rattle.st_volume.specs.Volume as volume
use Rattle.st_volume.specs.Volume.{Pending, Volume, acts, after_answer, answered, answers_so, closed, done, ends, failed, fails, is_ask, is_of_client, is_read_of, is_sync_of, noticing, resulting, run, with_changed, with_fate}

-- What open asks remember of a failed command stays within an event.
module _ (c : ClientId) (number : ℕ) (test : Ask → Bool) where
  abbrev HasFault : Pending → Bool
  HasFault a = not (is_of_client c a && test a.ask) || list_any (λ n. n == number) a.faults

  abbrev pub AllFaulted : Volume → Type 0
  AllFaulted v = list_all HasFault v.pending ≡ true

  fate_faulted : (v : Volume) (i : ℕ) (passes : Entry → Bool) (fate : Fate) → AllFaulted v → OnSome AllFaulted (with_fate v i passes fate)
  fate_faulted v i passes fate h =
      on_map AllFaulted (with_changed v i) (option_and_then (ends passes fate) (volume.numbered v.log i))
      (on_all (λ e. AllFaulted (with_changed v i e)) (λ e. h) (option_and_then (ends passes fate) (volume.numbered v.log i)))

  resulted : (a : Pending) (answer : AppAnswer) (b : Pending) → HasFault (resulting a answer b) ≡ HasFault b
  resulted a answer b = go (is_ask a.client a.op b)
    where
      go : (t : Bool) → HasFault (if t then record b { result = Some answer } else b) ≡ HasFault b
      go true = refl
      go false = refl

  pub faulted_last : LastsInside AllFaulted
  faulted_last (kinds.TakesEffect d op) v q h =
      taken AllFaulted v d op
      (λ a f y k. mapped HasFault (noticing (done a y)) (λ b. refl) (map (resulting a y.1) y.0.pending)
      ∙ (mapped HasFault (resulting a y.1) (resulted a y.1) y.0.pending ∙ (ap (list_all HasFault) k.pending ∙ h)))
  faulted_last (kinds.Joined i d what) v q h = on_if AllFaulted _ (Some (record v { lines = i })) h
  faulted_last (kinds.Answered d op answer) v q h =
      on_if AllFaulted (v.lines == length v.log) (acts v (kinds.Answered d op answer))
      (on_then AllFaulted (answered v answer) (find (is_ask d op) v.pending)
      (on_all (λ a. OnSome AllFaulted (answered v answer a))
      (λ a. on_if AllFaulted (answers_so v a answer a.result) (Some (closed a (after_answer v a answer)))
      (filtered HasFault (λ b. not (is_ask a.client a.op b)) (after_answer v a answer).pending (ap (list_all HasFault) (after_keeps v a answer).pending ∙ h)))
      (find (is_ask d op) v.pending)))
  faulted_last (kinds.Hardened i) v q h = on_if AllFaulted (v.lines == length v.log) (acts v (kinds.Hardened i)) (fate_faulted v i (λ e. true) fates.Hard h)
  faulted_last (kinds.Dropped i cause) v q h =
      on_if AllFaulted (v.lines == length v.log) (acts v (kinds.Dropped i cause)) (fate_faulted v i (is_cause cause) fates.Dropped h)
  faulted_last it v q h = cc q

  -- as the failure is told
  faulted_now : (xs : List Pending) → list_all HasFault (map (fails c number test) xs) ≡ true
  faulted_now [] = refl
  faulted_now (a ∷ xs) = and_both (HasFault (fails c number test a)) (list_all HasFault (map (fails c number test) xs))
      (one (is_of_client c a && test a.ask) refl) (faulted_now xs)
    where
      one : (t : Bool) → (is_of_client c a && test a.ask) ≡ t → HasFault (if t then record a { faults = number ∷ a.faults } else a) ≡ true
      one true e =
          or_right (not (is_of_client c a && test a.ask)) (list_any (λ n. n == number) (number ∷ a.faults))
          (ap (λ b. b || list_any (λ n. n == number) a.faults) (eq-eqb number number refl))
      one false e = ap (λ b. not b || list_any (λ n. n == number) a.faults) e

-- The page of a carried entry.
change_file : (f : FileId) (p : PageNo) (what : Change) (z : FileId × PageNo) → place_of (ask_of f p what) ≡ Some z → z.0 ≡ f
change_file f p (changes.Write bytes) z q = ap (λ (y : FileId × PageNo). y.0) (sym (some_is q))
change_file f p (changes.Patch at bytes) z q = ap (λ (y : FileId × PageNo). y.0) (sym (some_is q))
change_file f p changes.Cut z q = cc q

entry_file : (a : Option LogEntry) (b : Option Entry) → AtBoth a b → (o : LogOwner) → option_map of_entry a ≡ Some o → (z : FileId × PageNo) →
    option_and_then (λ (e : Entry). place_of e.what) b ≡ Some z → z.0 ≡ o.file
entry_file None b h o t z q = cc t
entry_file (Some x) None h o t z q = absurd h
entry_file (Some x) (Some e) h o t z q =
    change_file x.of.file x.of.page x.change z (sym (ap place_of h.what) ∙ q) ∙ ap (λ (y : LogOwner). y.file) (some_is t)

place_file : (w : World) (v : Volume) → IsLogOf w.log v → (i : ℕ) (o : LogOwner) → owner_at w.log i ≡ Some o → (z : FileId × PageNo) →
    option_and_then (λ (e : Entry). place_of e.what) (volume.numbered v.log i) ≡ Some z → z.0 ≡ o.file
place_file w v a zero o t z q = cc t
place_file w v a (suc n) o t z q =
    entry_file (slice_get w.log n) (slice_get v.log n) (same_at w.log v.log n a.entries) o t z
    (ap (option_and_then (λ (e : Entry). place_of e.what)) (sym (numbered_suc v.log n)) ∙ q)

-- What a failed command fails.
abbrev fault_test : IssuedCommand → Option Carried → Ask → Bool
fault_test x None = is_read_of x.server
fault_test x (Some y) = is_sync_of y.file

-- A failed command that an event reports to its client.
pub record Reported (t : World) (e : Event) : Type 0 where
  pub k : ℕ
  pub command : IssuedCommand
  pub is : e ≡ events.Report k false
  pub issued : issued_of t k ≡ Some command
  pub site : WorldClient
  pub at : site_of t command.client ≡ Some site
  pub same : is_same_instance command site ≡ true

abbrev Remembers : (t : World) (e : Event) → Reported t e → Volume → Type 0
Remembers t e r u = AllFaulted r.command.client r.command.number (fault_test r.command r.command.carries) u

abbrev AllRemember : World → Event → Volume → Type 0
AllRemember t e u = (r : Reported t e) → Remembers t e r u

on_pi : {A : Type 0} (B : A → Volume → Type 0) (o : Option Volume) → ((a : A) → OnSome (B a) o) → OnSome (λ u. (a : A) → B a u) o
on_pi B None h = tt
on_pi B (Some u) h = h

remember_last : (t : World) (e : Event) → LastsInside (AllRemember t e)
remember_last t e it u q h =
    on_pi (Remembers t e) (volume.step u it) (λ r. faulted_last r.command.client r.command.number (fault_test r.command r.command.carries) it u q (h r))

module _ (t : World) (v : Volume) (log : IsLogOf t.log v) (entries : EntriesCarried t) where
  abbrev ItsSyncs : (e : Event) → Reported t e → Carried → Volume → Type 0
  ItsSyncs e r y u = AllFaulted r.command.client r.command.number (is_sync_of y.file) u

  told_now : (e : Event) (r : Reported t e) (o : Option Carried) → r.command.carries ≡ o →
      OnSome (AllFaulted r.command.client r.command.number (fault_test r.command o)) (volume.step v (failure r.command o))
  told_now e r None carries =
      on_if (AllFaulted r.command.client r.command.number (is_read_of r.command.server)) (v.lines == length v.log)
      (acts v (kinds.ReadFailed r.command.client r.command.server r.command.number))
      (faulted_now r.command.client r.command.number (is_read_of r.command.server) v.pending)
  told_now e r (Some y) carries =
      on_if (ItsSyncs e r y) (v.lines == length v.log) (acts v (kinds.WriteFailed r.command.client r.command.number y.index))
      (on_map (ItsSyncs e r y) (failed v r.command.client r.command.number y.index)
      (option_and_then (λ (x : Entry). place_of x.what) (volume.numbered v.log y.index))
      (go (option_and_then (λ (x : Entry). place_of x.what) (volume.numbered v.log y.index)) refl))
    where
      go : (o : Option (FileId × PageNo)) → option_and_then (λ (x : Entry). place_of x.what) (volume.numbered v.log y.index) ≡ o →
          OnSome (λ z. ItsSyncs e r y (failed v r.command.client r.command.number y.index z)) o
      go None q = tt
      go (Some z) q =
          subst (λ f. list_all (HasFault r.command.client r.command.number (is_sync_of f))
          (map (fails r.command.client r.command.number (is_sync_of z.0)) v.pending) ≡ true)
          (place_file t v log y.index (world.owner_carried r.command y) (entries.owned r.k r.command r.issued y carries).0 z q)
          (faulted_now r.command.client r.command.number (is_sync_of z.0) v.pending)

  remembers_now : (e : Event) → OnSome (AllRemember t e) (run (of_event t e) v)
  unfolding of_event run
  remembers_now e = on_pi (Remembers t e) (run (of_event t e) v) (λ r. one r)
    where
      one : (r : Reported t e) → OnSome (Remembers t e r) (run (of_event t e) v)
      one r =
          subst (λ its. OnSome (Remembers t e r) (run its v))
          (sym
          (ap (of_event t) r.is
          ∙ (ap (failure_of t) r.issued
          ∙ (ap (failure_told r.command) r.at
          ∙ if_true (is_same_instance r.command r.site) (failure r.command r.command.carries ∷ []) [] r.same))))
          (on_then (Remembers t e r) (run []) (volume.step v (failure r.command r.command.carries)) (told_now e r r.command.carries refl))

-- the end of a command
abbrev done_number : ClientInput → ℕ
done_number (inputs.Done n r) = n
done_number i = 0

abbrev done_result : ClientInput → Option (Option (Tag × List ℕ))
done_result (inputs.Done n r) = r
done_result i = None

-- One answer.
only_faults : OnlyAnswers is_disk_fault
only_faults (kinds.Answered c op answer) q = cc
only_faults it q = refl

sync_words : (s : ServerId) (ino : ℕ) (ask : Ask) → (same_server (cs.server_of ask) s && cs.is_file ino (cs.file_of ask)) ≡ true → cs.is_sync ask ≡ true →
    is_sync_of (record { server = s; ino = ino }) ask ≡ true
sync_words s ino (asks.Sync f) e q =
    let z = and_true (f.server.0 == s.0) (f.ino == ino) e in
    and_both (s.0 == f.server.0) (ino == f.ino) (eq-eqb s.0 f.server.0 (sym (eqb-true f.server.0 s.0 z.0))) (eq-eqb ino f.ino (sym (eqb-true f.ino ino z.1)))
sync_words s ino (asks.Write f p bytes) e q = cc q
sync_words s ino (asks.Patch f p at bytes) e q = cc q
sync_words s ino (asks.Read f p) e q = cc q
sync_words s ino (asks.Cut f p) e q = cc q
sync_words s ino (asks.Name r ask) e q = cc q

-- a read or a patch, at the server of its file
read_words : (s : ServerId) (ino : ℕ) (p : PageNo) (ask : Ask) → cs.reads_page s ino p ask ≡ true → is_read_of s ask ≡ true
read_words s ino p (asks.Read f r) e = (and_true (f.server.0 == s.0) _ e).0
read_words s ino p (asks.Patch f r at bytes) e = (and_true (f.server.0 == s.0) _ e).0
read_words s ino p (asks.Sync f) e = cc e
read_words s ino p (asks.Write f r bytes) e = cc e
read_words s ino p (asks.Cut f r) e = cc e
read_words s ino p (asks.Name r ask) e = cc e

-- such an ask keeps no result
no_cut : (x : IssuedCommand) (o : Option Carried) (ask : Ask) → fault_test x o ask ≡ true → volume.is_cut_or_name ask ≡ false
no_cut x o (asks.Sync f) e = refl
no_cut x o (asks.Write f p bytes) e = refl
no_cut x o (asks.Patch f p at bytes) e = refl
no_cut x o (asks.Read f p) e = refl
no_cut x None (asks.Cut f p) e = cc e
no_cut x (Some y) (asks.Cut f p) e = cc e
no_cut x None (asks.Name s ask) e = cc e
no_cut x (Some y) (asks.Name s ask) e = cc e

fault_taken : (u : Volume) (c : ClientId) (op n : ℕ) (a : Pending) → Told u → find (is_ask c op) u.pending ≡ Some a → may_have_result a ≡ true →
    volume.is_cut_or_name a.ask ≡ false → list_any (λ m. m == n) a.faults ≡ true → is_some (volume.step u (kinds.Answered c op (answers.DiskFault n))) ≡ true
fault_taken u c op n a told q may plain fault =
    ap is_some (if_true (u.lines == length u.log) (acts u (kinds.Answered c op (answers.DiskFault n))) None (eq-eqb u.lines (length u.log) told))
    ∙ (ap (λ (o : Option Pending). is_some (option_and_then (answered u (answers.DiskFault n)) o)) q ∙ so a.result refl)
  where
    left : Option Volume
    left = Some (closed a (after_answer u a (answers.DiskFault n)))

    so : (o : Option AppAnswer) → a.result ≡ o → is_some (if answers_so u a (answers.DiskFault n) o then left else None) ≡ true
    so None e = ap is_some (if_true (list_any (λ m. m == n) a.faults) left None fault)
    so (Some result) e =
        clash (sym (ap (λ b. b || not (is_some a.result)) plain) ∙ may) (ap (λ o. not (is_some o)) e)

-- All steps of an event.
module _ (past : List Step) (t : Traced) (e : Event) (sc : WorldTurn) (v : Volume) (log : IsLogOf t.world.log v) (entries : EntriesCarried t.world)
    (stand : Stand past t) (right : EpochsRight t.world) (served : AllServed t.world) where
  abbrev Fact : VolumeStep → Volume → Type 0
  Fact it u = ResultFits it u × AllRemember t.world e u

  -- The failed command, from the client's answer.
  record IsReported (c : ClientId) (n : ℕ) (ask : Ask) : Type 0 where
    report : Reported t.world e
    client : report.command.client ≡ c
    number : report.command.number ≡ n
    fits : fault_test report.command report.command.carries ask ≡ true

  reported : (c : ClientId) (site : WorldClient) (input : ClientInput) (start : List (ℕ × Ask)) (op n : ℕ) → site_of t.world c ≡ Some site →
      TakesAt t.world e c site input → (f : IsFault t.world c start input site.node.state.associations op n) → IsReported c n f.ask
  reported c site input start op n at k f = by input k f.ends
    where
      by : (j : ClientInput) → TakesAt t.world e c site j → j ≡ inputs.Done n None → IsReported c n f.ask
      by _ (ByTick q) j = cc j
      by _ (ByAsk a q) j = cc j
      by _ (ByMessage i m q x z) j = cc j
      by _ (ByReport i ok x r q issued mine same d) j =
          record {
            report =
                record {
                  k = i;
                  command = x;
                  is = q ∙ ap (λ b. events.Report i b) (d (ap done_result j));
                  issued = issued;
                  site = site;
                  at = subst (λ z. site_of t.world z ≡ Some site) (sym mine) at;
                  same = same;
                };
            client = mine;
            number = ap done_number j;
            fits = waits f.waits;
          }
        where
          runs : (site.node.running ≡ true) × ((site.starts == x.starts) ≡ true)
          runs = and_true site.node.running (site.starts == x.starts) same

          its : IsIts c site.starts f.command.number x
          its =
              record {
                client = mine;
                instance_ = sym (eqb-true site.starts x.starts runs.1);
                number_is = ap done_number j ∙ sym f.numbered;
              }

          waits : Waits f.association.server f.command f.ask → fault_test x x.carries f.ask ≡ true
          waits (inl (kind, reads)) =
              let cared = (stand.both.flush.sites c site at runs.0).cared f.association f.among in
              subst (λ o. fault_test x o f.ask ≡ true) (sym (cared.reads f.command f.there kind i x issued its))
              (subst (λ s. is_read_of s f.ask ≡ true) (sym (served c site at runs.0 f.association f.among f.command f.there i x issued its))
              (read_words f.association.server f.command.ino f.command.page f.ask reads))
          waits (inr (v, (kind, (file, own)))) =
              let cared = (stand.both.flush.sites c site at runs.0).cared f.association f.among in
              let sent = (cared.writes f.command f.there v kind).world i x issued its in
              subst (λ o. fault_test x o f.ask ≡ true) (sym sent.carries) (sync_words f.association.server f.command.ino f.ask file own)

  second : (p q : Bool) → p ≡ true → (not p || q) ≡ true → q ≡ true
  second p q e h = sym (ap (λ b. not b || q) e) ∙ h

  answer_fine : (c : ClientId) (site : WorldClient) (input : ClientInput) (start : List (ℕ × Ask)) → site_of t.world c ≡ Some site →
      TakesAt t.world e c site input → (told_all c (of_event t.world e) (at_site (site_of t.world c))).pending ≡ start →
      AllAsked t.world e (asks_of (past ++ step t e sc ∷ [])) →
      IsFineBy (Takes is_disk_fault) Fact (Fits t.world c start input site.node.state.associations) (asks_of (past ++ step t e sc ∷ []))
  answer_fine c site input start at k is all u g a told fact found asked fits = by g.answer fits.1 fact.0
    where
      by : (answer : AppAnswer) → Says t.world c start input site.node.state.associations g.op answer → ResultFits (kinds.Answered g.client g.op answer) u →
          Takes is_disk_fault (kinds.Answered g.client g.op answer) u
      by (answers.DiskFault n) s f = λ which.
          let words : a.ask ≡ s.ask =
          some_is
          (sym asked
          ∙ (ap (λ d. world.numbered (asks_of (past ++ step t e sc ∷ []) d) g.op) fits.0
          ∙ all c (g.op, s.ask) (subst (Has (g.op, s.ask)) (sym is) s.known))) in
          let z : IsReported c n s.ask = reported c site input start g.op n at k s in
          let there = found_at (is_ask g.client g.op) u.pending a found in
          let test : Ask → Bool = fault_test z.report.command z.report.command.carries in
          let mine : is_of_client z.report.command.client a ≡ true =
          ap (λ d. is_of_client d a) (z.client ∙ sym fits.0) ∙ (and_true (is_of_client g.client a) (a.op == g.op) there.0).0 in
          let own : test a.ask ≡ true = ap test words ∙ z.fits in
          let fault : list_any (λ m. m == z.report.command.number) a.faults ≡ true =
          second (is_of_client z.report.command.client a && test a.ask) (list_any (λ m. m == z.report.command.number) a.faults)
          (and_both (is_of_client z.report.command.client a) (test a.ask) mine own)
          (each_passes (HasFault z.report.command.client z.report.command.number test) u.pending (fact.1 z.report) a there.1) in
          fault_taken u g.client g.op n a told found (f a found) (no_cut z.report.command z.report.command.carries a.ask own)
          (ap (λ k. list_any (λ m. m == k) a.faults) (sym z.number) ∙ fault)
      by answer s f = λ which. cc which

  event_faults : (it : Witness) → HasAsksOf t.world v → AreOf (asks_of past) v → AllRight None v → all_followed sc.seen ≡ true →
      ((c : ClientId) → AllOpenFor t.world c sc.seen (told_all c (of_event t.world e) (at_site (site_of t.world c)))) → AnswersOf t.world e sc →
      AreTaken is_disk_fault (steps_of it v (step t e sc)) v
  event_faults it agree asked results followed opened (GivesNone q) =
      event_none is_disk_fault only_faults t.world it v sc.seen e (subst (NoneOf is_disk_fault) (sym q) tt)
  event_faults it agree asked results followed opened (Steps r) =
      taken_at is_disk_fault (steps_of it v (step t e sc)) v
      (event_fine (Takes is_disk_fault) (takes_silent is_disk_fault only_faults) Fact (Fits t.world r.client start r.input r.site.node.state.associations) past
      (step t e sc)
      (answer_fine r.client r.site r.input start r.at r.takes refl) it v
      (none_served it.behind v t.world e r.client r.site r.input r.takes) log.lines asked agree opened
      (on_more (λ u. AllRight None u × AllRemember t.world e u) (AtEachStep Fact (of_lines t.world sc.seen))
      (λ u k. at_two ResultFits (λ it z. AllRemember t.world e z) (of_lines t.world sc.seen) u (lines_fit t.world sc.seen u followed k.0)
      (lasting_at (AllRemember t.world e) (remember_last t.world e) (of_lines t.world sc.seen) u (lines_inside t.world sc.seen) k.1))
      (run (of_event t.world e) v)
      (on_both (AllRight None) (AllRemember t.world e) (run (of_event t.world e) v)
      (run_kept None (of_event t.world e) v (event_kept t.world e) results) (remembers_now t.world v log entries e)))
      (subst (AllFit (Fits t.world r.client start r.input r.site.node.state.associations)) (sym r.gives)
      (all_say t.world r.client start r.input r.site.node.state.associations r.site.node.state r.now right r.site r.at refl refl
      (ap (λ o. (told_all r.client (of_event t.world e) (at_site o)).pending) r.at ∙ comes_to t.world e r.client r.site r.input r.takes)
      (input_tells t.world e right r.client r.site r.input r.takes))))
    where
      start : List (ℕ × Ask)
      start = (told_all r.client (of_event t.world e) (at_site (site_of t.world r.client))).pending

-- In every run.
FaultsToo : List Step → Step → Witness → Type 0
FaultsToo past x it = OnSome (λ v. AreTaken is_disk_fault (steps_of it v x) v) it.volume

record FaultsHold (past : List Step) (t : Traced) (it : Witness) : Type 0 where
  asks : AsksHold past t it
  results : ResultsHold past t it
  log : LogHolds past t it
  knows : KnowsEpochs past t
  stand : Stand past t
  entries : EntriesCarried t.world
  served : AllServed t.world

abbrev Known : Promise
Known past x =
    AsksAreAnsweredOnce past x
    × (TheReportTellsTheLog past x × (ReassertionsNew past x × (PagesHold x.after.world × (FatesHold x.after.world × PlacesHold x.after.world))))

faults_on : IsGiven Known FaultsHold FaultsToo
unfolding FaultsToo
faults_on past t e sc it f g h =
    let x : Step = step t e sc in
    let left = one_step past t e sc f h.asks.places h.stand in (
      on_more (λ v. IsLogOf t.world.log v × (HasAsksOf t.world v × (AreOf (asks_of past) v × AllRight None v)))
          (λ v. AreTaken is_disk_fault (steps_of it v x) v)
          (λ v k. event_faults past t e sc v k.0 h.entries h.stand h.knows.right h.served it k.1.0 k.1.1.0 k.1.1.1
          (and_true (all_answered_once past x [] x.seen) (all_followed x.seen) g.0).1 (open_left past t e sc it f h.asks) (event_answers t.world e sc f))
          it.volume
          (on_both (IsLogOf t.world.log) (λ v. HasAsksOf t.world v × (AreOf (asks_of past) v × AllRight None v)) it.volume h.log
          (on_both (HasAsksOf t.world) (λ v. AreOf (asks_of past) v × AllRight None v) it.volume h.asks.agree
          (on_both (AreOf (asks_of past)) (AllRight None) it.volume h.results.asks h.results.results))),
      record {
        asks = asks_kept past t e sc it f g.1.1.1.1 h.asks;
        results = results_kept past t e sc it f g.0 h.results;
        log = log_kept past t e sc it f g.1.0 h.log;
        knows = knows_on past t e sc f g.1.1.0 h.knows;
        stand = left.stand;
        entries = entries_kept t.world e sc f g.1.0 h.stand.fates.lives left.stand.fates.lives g.1.1.1.0 h.entries;
        served = served_on past t e sc f h.asks.places h.stand h.served;
      },
    )

pub disk_faults_are_taken : EveryRunIsSafe → InEveryRun PagesAfter → InEveryRun (StepsAreTaken is_disk_fault)
unfolding FaultsToo
disk_faults_are_taken safe pages k clients servers disks blocks form es head events =
    let t : Traced = traced (fresh_world k clients servers disks blocks form) in
    let kept : IsSafeRun (fresh_world k clients servers disks blocks form) es = safe k clients servers disks blocks form es head events in
    given_in Known FaultsHold FaultsToo faults_on es t
    (record {
      asks = asks_begin k clients servers disks blocks form;
      results = results_begin k clients servers disks blocks form;
      log = log_begins k clients servers disks blocks form;
      knows = knows_begin k clients servers disks blocks form head;
      stand = fresh_stand k clients servers disks blocks form;
      entries = fresh_carried k clients servers disks blocks form;
      served = served_begins k clients servers disks blocks form;
    })
    (throughout_both AsksAreAnsweredOnce
    (λ past x. TheReportTellsTheLog past x × (ReassertionsNew past x × (PagesHold x.after.world × (FatesHold x.after.world × PlacesHold x.after.world)))) []
    (steps es t) kept.once
    (throughout_both TheReportTellsTheLog
    (λ past x. ReassertionsNew past x × (PagesHold x.after.world × (FatesHold x.after.world × PlacesHold x.after.world))) [] (steps es t) kept.told
    (throughout_both ReassertionsNew (λ past x. PagesHold x.after.world × (FatesHold x.after.world × PlacesHold x.after.world)) [] (steps es t)
    (reassertions_new k clients servers disks blocks form es head events)
    (throughout_both PagesAfter (λ past x. FatesHold x.after.world × PlacesHold x.after.world) [] (steps es t)
    (pages k clients servers disks blocks form es head events)
    (throughout_both (λ past x. FatesHold x.after.world) (λ past x. PlacesHold x.after.world) [] (steps es t)
    (fates_law k clients servers disks blocks form es) (places_law k clients servers disks blocks form es head))))))
