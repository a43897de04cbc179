-- In every run each read is answered with the bytes that its page contains in the volume.
use Rattle.std.proofs.Common.{◌≡◌, ℕ, ◌+◌, ◌==◌, true, List, [], ◌∷◌, ◌++◌, Option, Some, None, refl, sym, ap, ◌∙◌, subst, append_assoc}
use Rattle.std.specs.Prelude.{find}
use Rattle.std.specs.List.{list_all}
use Rattle.std.proofs.lemmas.Bool.{eqb-true}
use Rattle.st_base.specs.declared.ids.ClientId.{ClientId}
use Rattle.st_messages.specs.declared.answer.AppAnswer.{AppAnswer}
use Rattle.st_messages.specs.declared.answer.AppAnswer.TheVariants as answers
use Rattle.st_messages.specs.declared.ask.Ask.{Ask}
use Rattle.st_messages.specs.declared.ask.Ask.TheVariants as asks
use Rattle.st_rules.specs.declared.log.LogEntry.{LogEntry}
use Rattle.st_rules.specs.declared.observation.Observation.{Observation}
use Rattle.st_rules.specs.declared.observation.Observation.TheVariants as seen
use Rattle.st_rules.specs.History.{Traced, traced}
use Rattle.st_rules.specs.Lines as lines
use Rattle.st_rules.specs.Safety.{AnswersAreLogged, AreLogged, AsksAreAnsweredOnce, IsLast, IsLastRead, Promise, ReadsReturnLastWrites, Step, TheReportTellsTheLog, all_answered_once, all_followed, ask_of, is_followed, step, steps}
use Rattle.st_rules.specs.World as world
use Rattle.st_rules.specs.World.{World, fresh_world}
use Rattle.st_lemmas.proofs.Tables.{and_true, found_at}
use Rattle.st_lemmas.proofs.Tests.{all_last}
use Rattle.st_lemmas.proofs.Truth.{client_is}
use Rattle.st_promises.specs.Safe.{EveryRunIsSafe, IsSafeRun}
use Rattle.st_laws_pages.proofs.Asks.World.{asks_more, asks_of}
use Rattle.st_laws_volume.specs.StepKinds.{AtEachStep}
use Rattle.st_laws_volume.specs.Logs.{InEveryRun, IsLogOf}
use Rattle.st_laws_volume.specs.Options.{OnSome}
use Rattle.st_laws_volume.specs.Reads.{HasBytes, IsRightRead, ReadsGiveThePages}
use Rattle.st_laws_volume.specs.Seen.{cause_of, of_event, of_line}
use Rattle.st_laws_volume.specs.Witness.{Witness, before_line, next_op, of_delivery, of_lines, steps_of}
use Rattle.st_laws_volume.proofs.AnswerSteps.{delivery_silent, event_silent}
use Rattle.st_laws_volume.proofs.AskedAsks.{AreOf, Asked, IsOf, RightHold, all_has, asked_after, event_right, moved, right_begins, right_kept, run_right}
use Rattle.st_laws_volume.proofs.AsksTaken.{all_other}
use Rattle.st_laws_volume.proofs.Carried.{IsGiven, given_in}
use Rattle.st_laws_volume.proofs.ChangeLines.{block_other, on_both}
use Rattle.st_laws_volume.proofs.LogEntries.{first_all}
use Rattle.st_laws_volume.proofs.LogLines.{delivery_quiet, event_quiet, line_told, run_then}
use Rattle.st_laws_volume.proofs.LogSteps.{IsTold, quiet_run}
use Rattle.st_laws_volume.proofs.Logs.{log_begins, told_of}
use Rattle.st_laws_volume.proofs.OpenAnswers.{OfAnswers, at_both, at_one, at_silent}
use Rattle.st_laws_volume.proofs.Options.{on_more}
use Rattle.st_laws_volume.proofs.ReadContents.{fits_page, pages_same}
use Rattle.st_laws_volume.proofs.ReadPages.{Given, InRange, PagesHold, all_in_range, pages_kept, throughout_both}
use Rattle.st_laws_volume.proofs.ReadRanges.{behind_fits, is_in_range, line_fits}
use Rattle.st_laws_volume.proofs.StepKinds.{delivery_inside}
use Rattle.st_volume.specs.declared.step.VolumeStep.{VolumeStep}
use Rattle.st_volume.specs.declared.step.VolumeStep.TheVariants as kinds
use Rattle.st_volume.specs.Volume as volume
use Rattle.st_volume.specs.Volume.{Pending, Volume, is_ask, run}

read_silent : OfAnswers IsRightRead
read_silent (kinds.Answered c op answer) v q = cc
read_silent it v q = tt

module _ (n : ℕ) (past : List Step) (x : Step) (ranged : list_all (is_in_range n) (past ++ x ∷ []) ≡ true) (w f : World) where
  abbrev as_ : Asked
  as_ = asks_of (past ++ x ∷ [])

  abbrev Fit : List LogEntry → Type 0
  Fit es = list_all fits_page es ≡ true

  -- one answer
  right_read : (es : List LogEntry) (u : Volume) (c : ClientId) (op : ℕ) (bytes : List ℕ) → IsTold es u → AreOf as_ u → Fit es →
      IsLastRead (ask_of past x c op) es bytes → IsRightRead (kinds.Answered c op (answers.Read bytes)) u
  right_read es u c op bytes h r fit l m = go (find (is_ask c op) u.pending) refl
    where
      has : (ask : Ask) → IsLastRead (Some ask) es bytes → HasBytes bytes u ask
      has (asks.Read g p) i = i ∙ sym (pages_same es u (first_all es u.log (sym m ∙ h.lines) h.first) fit g p)
      has (asks.Write g p bs) i = absurd i
      has (asks.Patch g p at bs) i = absurd i
      has (asks.Sync g) i = absurd i
      has (asks.Cut g p) i = absurd i
      has (asks.Name s ask) i = absurd i

      go : (o : Option Pending) → find (is_ask c op) u.pending ≡ o → OnSome (λ a. HasBytes bytes u a.ask) o
      go None q = tt
      go (Some a) q =
          let b = found_at (is_ask c op) u.pending a q in
          let k = and_true (volume.is_of_client c a) (a.op == op) b.0 in
          let own : IsOf as_ a = all_has as_ u.pending a r.pending b.1 in
          let asked : ask_of past x c op ≡ Some a.ask =
          sym (ap (λ d. world.numbered (as_ d) a.op) (client_is a.client c k.0) ∙ ap (λ i. world.numbered (as_ c) i) (eqb-true a.op op k.1)) ∙ own in
          has a.ask (subst (λ o. IsLastRead o es bytes) asked l)

  right_answer : (es : List LogEntry) (u : Volume) (c : ClientId) (op : ℕ) (answer : AppAnswer) → IsTold es u → AreOf as_ u → Fit es →
      IsLast past x es (seen.Answered c op answer) → IsRightRead (kinds.Answered c op answer) u
  right_answer es u c op (answers.Read bytes) h r fit l = right_read es u c op bytes h r fit l
  right_answer es u c op answer h r fit l = tt

  block_right : (es : List LogEntry) (o : Observation) (os : List Observation) (u : Volume) → IsTold es u → AreOf as_ u → Fit es → IsLast past x es o →
      AtEachStep IsRightRead (before_line o os ++ of_line w o) u
  unfolding before_line of_line AtEachStep
  block_right es (seen.Answered c op answer) os u h r fit l = at_one IsRightRead (kinds.Answered c op answer) u (right_answer es u c op answer h r fit l)
  block_right es (seen.Wrote i c g p bytes) os u h r fit l =
      at_silent IsRightRead read_silent (kinds.TakesEffect c (next_op os) ∷ kinds.Joined i (Some c) (asks.Write g p bytes) ∷ []) u refl
  block_right es (seen.Patched i c g p at bytes) os u h r fit l =
      at_silent IsRightRead read_silent (kinds.TakesEffect c (next_op os) ∷ kinds.Joined i (Some c) (asks.Patch g p at bytes) ∷ []) u refl
  block_right es (seen.CutAt i g p) os u h r fit l = at_silent IsRightRead read_silent (kinds.Joined i None (asks.Cut g p) ∷ []) u refl
  block_right es (seen.Hardened i) os u h r fit l = at_silent IsRightRead read_silent (kinds.Hardened i ∷ []) u refl
  block_right es (seen.Dropped i cause) os u h r fit l = at_silent IsRightRead read_silent (kinds.Dropped i (cause_of w cause) ∷ []) u refl
  block_right es (seen.Sent k m) os u h r fit l = tt
  block_right es (seen.Submitted k c number what) os u h r fit l = tt
  block_right es (seen.Leased c s end) os u h r fit l = tt
  block_right es (seen.Lost c s life) os u h r fit l = tt
  block_right es (seen.Suspected s c start) os u h r fit l = tt
  block_right es (seen.Stolen s c life) os u h r fit l = tt

  abbrev Told : List LogEntry → Volume → Type 0
  Told es u = IsTold es u × AreOf as_ u

  lines_right : (es : List LogEntry) (line : Option Observation) (os : List Observation) (u : Volume) → lines.AtEach (IsLast past x) f es os →
      AreLogged past x line os → all_followed os ≡ true → Fit es → Told es u → AtEachStep IsRightRead (of_lines w os) u
  unfolding of_lines AtEachStep lines.AtEach AreLogged all_followed
  lines_right es line [] u a l b fit k = tt
  lines_right es line (o ∷ os) u a l b fit k =
      let g = and_true (is_followed o os) (all_followed os) b in
      let block : List VolumeStep = before_line o os ++ of_line w o in
      subst (λ its. AtEachStep IsRightRead its u) (append_assoc (before_line o os) (of_line w o) (of_lines w os))
      (at_both IsRightRead block (of_lines w os) u (block_right es o os u k.0 k.1 fit a.0)
      (on_more (Told (lines.log_behind f es o)) (AtEachStep IsRightRead (of_lines w os))
      (λ z j. lines_right (lines.log_behind f es o) (Some o) os z a.1 l.1 g.1
      (behind_fits n past x ranged f es o (line_fits n past x ranged o os g.0 l.1) fit) j)
      (run block u)
      (on_both (IsTold (lines.log_behind f es o)) (AreOf as_) (run block u)
      (run_then (IsTold (lines.log_behind f es o)) (before_line o os) (of_line w o) u (line_told w f es o os u k.0))
      (run_right as_ block u (block_other w o os) k.1))))

-- All steps of an event.
event_reads : (n : ℕ) (past : List Step) (x : Step) → list_all (is_in_range n) (past ++ x ∷ []) ≡ true → (it : Witness) (v : Volume) →
    ReadsReturnLastWrites past x → all_followed x.seen ≡ true → AnswersAreLogged past x → list_all fits_page x.before.world.log ≡ true →
    IsLogOf x.before.world.log v → AreOf (asks_of past) v → AtEachStep IsRightRead (steps_of it v x) v
event_reads n past x ranged it v reads b l fit a r =
    let w : World = x.before.world in
    let bs : Asked = asks_of (past ++ x ∷ []) in
    let first : List VolumeStep = of_event w x.event in
    let served : List VolumeStep = of_delivery it.behind v w x.event in
    let all : List VolumeStep = of_lines w x.seen in
    at_both IsRightRead first (served ++ all) v (at_silent IsRightRead read_silent first v (event_silent w x.event))
    (on_more (λ y. IsTold w.log y × AreOf bs y) (AtEachStep IsRightRead (served ++ all))
    (λ y k. at_both IsRightRead served all y (at_silent IsRightRead read_silent served y (delivery_silent it.behind v w x.event))
    (on_more (λ z. IsTold w.log z × AreOf bs z) (AtEachStep IsRightRead all)
    (λ z j. lines_right n past x ranged w x.after.world w.log None x.seen z reads l b fit j) (run served y)
    (on_both (IsTold w.log) (AreOf bs) (run served y) (quiet_run w.log served y (delivery_quiet it.behind v w x.event) k.0)
    (run_right bs served y (all_other served (delivery_inside it.behind v w x.event)) k.1))))
    (run first v)
    (on_both (IsTold w.log) (AreOf bs) (run first v) (quiet_run w.log first v (event_quiet w x.event) (told_of w.log v a))
    (on_more (AreOf (asked_after (asks_of past) x.event)) (AreOf bs) (λ y k. moved (asked_after (asks_of past) x.event) bs (λ c. asks_more past x c) y k)
    (run first v)
    (event_right (asks_of past) w x.event v r))))

-- In every run.
ReadToo : List Step → Step → Witness → Type 0
ReadToo past x it = OnSome (λ v. AtEachStep IsRightRead (steps_of it v x) v) it.volume

record ReadsHold (n : ℕ) (past : List Step) (t : Traced) (it : Witness) : Type 0 where
  pages : PagesHold n past t it
  right : RightHold past t it

abbrev Known : ℕ → Promise
Known n past x = ReadsReturnLastWrites past x × Given n past x

reads_on : (n : ℕ) → IsGiven (Known n) (ReadsHold n) ReadToo
unfolding ReadToo
reads_on n past t e sc it f g h =
    let x : Step = step t e sc in (
      on_more (λ v. IsLogOf t.world.log v × AreOf (asks_of past) v) (λ v. AtEachStep IsRightRead (steps_of it v x) v)
          (λ v k. event_reads n past x (all_last (is_in_range n) past x h.pages.ranged g.1.1.0) it v g.0
          (and_true (all_answered_once past x [] x.seen) (all_followed x.seen) g.1.1.1.0).1 g.1.1.1.1 h.pages.fit k.0 k.1)
          it.volume
          (on_both (IsLogOf t.world.log) (AreOf (asks_of past)) it.volume h.pages.agree h.right),
      record { pages = pages_kept n past t e sc it f g.1 h.pages; right = right_kept past t e sc it f tt h.right },
    )

pub reads_give_the_pages : EveryRunIsSafe → InEveryRun ReadsGiveThePages
unfolding ReadToo fresh_world
reads_give_the_pages safe k clients servers disks blocks form es head events =
    let n = clients + servers in
    let t : Traced = traced (fresh_world k clients servers disks blocks form) in
    let kept : IsSafeRun (fresh_world k clients servers disks blocks form) es = safe k clients servers disks blocks form es head events in
    given_in (Known n) (ReadsHold n) ReadToo (reads_on n) es t
    (record {
      pages = record { ranged = refl; fit = refl; agree = log_begins k clients servers disks blocks form };
      right = right_begins k clients servers disks blocks form;
    })
    (throughout_both ReadsReturnLastWrites (Given n) [] (steps es t) kept.reads
    (throughout_both TheReportTellsTheLog (λ past x. InRange n past x × (AsksAreAnsweredOnce past x × AnswersAreLogged past x)) [] (steps es t) kept.told
    (throughout_both (InRange n) (λ past x. AsksAreAnsweredOnce past x × AnswersAreLogged past x) [] (steps es t) (all_in_range n es [] t events)
    (throughout_both AsksAreAnsweredOnce AnswersAreLogged [] (steps es t) kept.once kept.logged))))
