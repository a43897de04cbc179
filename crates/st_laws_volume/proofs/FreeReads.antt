-- In every run the file of each read that is answered is free in the volume: it exists, and nothing of it is open of another client.
use Rattle.st_lemmas.proofs.Words
use Words.{◌≡◌, ◌⊎◌, ℕ, ◌+◌, ◌==◌, Bool, true, List, [], ◌∷◌, ◌++◌, Some, None, refl, sym, ap, ◌∙◌, subst, inl, inr, length}
use Words.{append_assoc, eqb-true, list_all, AppAnswer, ClientId, LogEntry, Observation}
use Words.answers
use Words.asks
use Words.seen
use Words.FlatLog as log
use Words.History.{Traced, traced}
use Words.Lines as lines
use Words.Lists.{Has}
use Words.Numbers.{numbered_has}
use Words.Safety.{Promise, Step, TheReportTellsTheLog, ask_of, step, steps}
use Words.Tables.{and_both, and_true, found_at, has_append}
use Words.Truth.{client_is}
use Words.World as world
use Words.World.{World, fresh_world}
use Rattle.st_promises.specs.Safe.{EveryRunIsSafe, IsSafeRun}
use Rattle.st_laws_pages.proofs.Asks.World.{asks_more, asks_of}
use Rattle.st_laws_volume.specs.AnswerKinds.{AnswersFollowLines, IsAfterLines}
use Rattle.st_laws_volume.specs.Logs.{InEveryRun, IsLogOf}
use Rattle.st_laws_volume.specs.Options.{OnSome}
use Rattle.st_laws_volume.specs.ReadFiles.{FindsRead, IsOfFree, ReadsAreOfFiles, ReadsFindTheirFiles, is_line_of}
use Rattle.st_laws_volume.specs.Seen.{cause_of, of_event, of_line}
use Rattle.st_laws_volume.specs.StepKinds.{AtEachStep}
use Rattle.st_laws_volume.specs.Trees.{HasTreesOf}
use Rattle.st_laws_volume.specs.Witness.{Witness, before_line, led_to, next_op, of_delivery, of_lines, steps_of}
use Rattle.st_laws_volume.proofs.AnswerLines.{none_served}
use Rattle.st_laws_volume.proofs.AnswerSteps.{delivery_silent, event_silent}
use Rattle.st_laws_volume.proofs.AnswersTold.{answers_follow_lines}
use Rattle.st_laws_volume.proofs.AskedAsks.{AreOf, Asked, IsOf, RightHold, all_has, asked_after, event_right, moved, right_begins, right_kept, run_right}
use Rattle.st_laws_volume.proofs.AsksTaken.{all_other}
use Rattle.st_laws_volume.proofs.Carried.{IsGiven, given_in}
use Rattle.st_laws_volume.proofs.ChangeEffects.{all_clear}
use Rattle.st_laws_volume.proofs.ChangeLines.{block_other, on_both}
use Rattle.st_laws_volume.proofs.EventAnswers.{AnswersOf, Given, GivesNone, Steps, event_answers, given_in_lines}
use Rattle.st_laws_volume.proofs.LastingSessions.{in_lines}
use Rattle.st_laws_volume.proofs.LogEntries.{first_all}
use Rattle.st_laws_volume.proofs.LogLines.{delivery_quiet, event_quiet, line_told, run_then}
use Rattle.st_laws_volume.proofs.Logs.{LogHolds, log_begins, log_kept, told_of}
use Rattle.st_laws_volume.proofs.LogSteps.{IsTold, quiet_run}
use Rattle.st_laws_volume.proofs.OpenAnswers.{OfAnswers, at_both, at_one, at_silent}
use Rattle.st_laws_volume.proofs.Options.{on_more}
use Rattle.st_laws_volume.proofs.ReadFiles.{reads_are_of_files}
use Rattle.st_laws_volume.proofs.ReadPages.{throughout_both, throughout_more}
use Rattle.st_laws_volume.proofs.StepKinds.{delivery_inside}
use Rattle.st_laws_volume.proofs.TreeKinds.{kind_is}
use Rattle.st_laws_volume.proofs.Trees.{TreesHold, event_is, trees_begin, trees_kept}
use Rattle.st_laws_volume.proofs.TreeSteps.{SameTrees, all_same, line_same}
use Rattle.st_laws_volume.proofs.TreeWorld.{AllSound, tree_there}
use Rattle.st_volume.specs.declared.step.VolumeStep.{VolumeStep}
use Rattle.st_volume.specs.declared.step.VolumeStep.TheVariants as kinds
use Rattle.st_volume.specs.Pages.{is_any, is_clear}
use Rattle.st_volume.specs.Trees as trees
use Rattle.st_volume.specs.Volume as volume
use Rattle.st_volume.specs.Volume.{Volume, exists, is_ask, is_free, run}

-- a read's file is free, if each entry has had its line
abbrev IsFreeIf : VolumeStep → Volume → Type 0
IsFreeIf (kinds.Answered c op (answers.Read bytes)) v = v.lines ≡ length v.log → IsOfFree (kinds.Answered c op (answers.Read bytes)) v
IsFreeIf it v = Unit {0}

free_silent : OfAnswers IsFreeIf
free_silent (kinds.Answered c op answer) v q = cc q
free_silent it v q = tt

both_all : {A : Type 0} (p : A → Bool) (xs ys : List A) → list_all p (xs ++ ys) ≡ true → (list_all p xs ≡ true) × (list_all p ys ≡ true)
both_all p [] ys h = (refl, h)
both_all p (x ∷ xs) ys h =
    let b = and_true (p x) (list_all p (xs ++ ys)) h in
    let z = both_all p xs ys b.1 in (and_both (p x) (list_all p xs) b.0 z.0, z.1)

-- An entry of a line of this client is its own.
grown_one : (f : World) (c : ClientId) (es : List LogEntry) (o : Observation) → is_line_of c o ≡ true → (e : LogEntry) → Has e (lines.log_behind f es o) →
    Has e es ⊎ (e.of.client ≡ c)
unfolding lines.log_behind log.accept log.patch
grown_one f c es (seen.Wrote i d g p bytes) q e h = go (has_append es _ e h)
  where
    go : Has e es ⊎ Has e (log.pending (log.owner d (Rattle.st_rules.specs.Events.present_life f d g.server) g p) (Words.changes.Write bytes) ∷ []) →
        Has e es ⊎ (e.of.client ≡ c)
    go (inl i) = inl i
    go (inr (inl z)) = inr (ap (λ (y : LogEntry). y.of.client) z ∙ client_is d c q)
    go (inr (inr z)) = absurd z
grown_one f c es (seen.Patched i d g p at bytes) q e h = go (has_append es _ e h)
  where
    go : Has e es ⊎ Has e (log.pending (log.owner d (Rattle.st_rules.specs.Events.present_life f d g.server) g p) (Words.changes.Patch at bytes) ∷ []) →
        Has e es ⊎ (e.of.client ≡ c)
    go (inl i) = inl i
    go (inr (inl z)) = inr (ap (λ (y : LogEntry). y.of.client) z ∙ client_is d c q)
    go (inr (inr z)) = absurd z
grown_one f c es (seen.CutAt i g p) q e h = cc q
grown_one f c es (seen.Hardened i) q e h = cc q
grown_one f c es (seen.Dropped i cause) q e h = cc q
grown_one f c es (seen.Answered d op answer) q e h = inl h
grown_one f c es (seen.Sent k m) q e h = inl h
grown_one f c es (seen.Submitted k d number what) q e h = inl h
grown_one f c es (seen.Leased d s end) q e h = inl h
grown_one f c es (seen.Lost d s life) q e h = inl h
grown_one f c es (seen.Suspected s d start) q e h = inl h
grown_one f c es (seen.Stolen s d life) q e h = inl h

module _ (past : List Step) (x : Step) (sound : AllSound x.before.world) (reads : ReadsAreOfFiles past x) where
  abbrev w : World
  w = x.before.world

  abbrev f : World
  f = x.after.world

  abbrev as_ : Asked
  as_ = asks_of (past ++ x ∷ [])

  -- the trees are those before the event, if it answers something
  abbrev Trees : Volume → Type 0
  Trees u = HasTreesOf w u ⊎ (given_in_lines x.seen ≡ [])

  -- the entries so far: those before the event, and those of the only client that changes the log in it
  abbrev Grown : List Observation → List LogEntry → Type 0
  Grown done es = (c : ClientId) → list_all (is_line_of c) done ≡ true → (e : LogEntry) → Has e es → Has e w.log ⊎ (e.of.client ≡ c)

  grown_more : (done : List Observation) (o : Observation) (es : List LogEntry) → Grown done es → Grown (done ++ o ∷ []) (lines.log_behind f es o)
  grown_more done o es g c q e h =
      let b = both_all (is_line_of c) done (o ∷ []) q in
      go b.0 (grown_one f c es o (and_true (is_line_of c o) true b.1).0 e h)
    where
      go : list_all (is_line_of c) done ≡ true → Has e es ⊎ (e.of.client ≡ c) → Has e w.log ⊎ (e.of.client ≡ c)
      go a (inl i) = g c a e i
      go a (inr i) = inr i

  -- One answer.
  module _ (done os : List Observation) (es : List LogEntry) (u : Volume) (c : ClientId) (op : ℕ) (bytes : List ℕ) (told : IsTold es u) (right : AreOf as_ u)
      (trees_ : Trees u) (grown : Grown done es) (is : done ++ seen.Answered c op (answers.Read bytes) ∷ os ≡ x.seen) where
    among : (ds : List Observation) → Has (seen.Answered c op (answers.Read bytes)) (ds ++ seen.Answered c op (answers.Read bytes) ∷ os)
    among [] = inl refl
    among (d ∷ ds) = inr (among ds)

    line : Has (seen.Answered c op (answers.Read bytes)) x.seen
    line = subst (Has (seen.Answered c op (answers.Read bytes))) is (among done)

    trees_there : HasTreesOf w u
    trees_there = go trees_
      where
        go : Trees u → HasTreesOf w u
        go (inl h) = h
        go (inr n) =
            absurd (subst (Has {A = Given} (record { client = c; op = op; answer = answers.Read bytes })) n (in_lines x.seen c op (answers.Read bytes) line))

    free_answer : IsFreeIf (kinds.Answered c op (answers.Read bytes)) u
    free_answer m a q g p e = subst (λ (d : ClientId). is_free u d g ≡ true) (sym mine) free
      where
        z : (is_ask c op a ≡ true) × Has a u.pending
        z = found_at (is_ask c op) u.pending a q

        k : (volume.is_of_client c a ≡ true) × ((a.op == op) ≡ true)
        k = and_true (volume.is_of_client c a) (a.op == op) z.0

        mine : a.client ≡ c
        mine = client_is a.client c k.0

        own : IsOf as_ a
        own = all_has as_ u.pending a right.pending z.1

        asked : ask_of past x c op ≡ Some (asks.Read g p)
        asked =
            sym (ap (λ d. world.numbered (as_ d) a.op) mine ∙ ap (λ i. world.numbered (as_ c) i) (eqb-true a.op op k.1))
            ∙ (own ∙ ap (λ y. Some y) e)

        finds : FindsRead x c g
        finds = reads (seen.Answered c op (answers.Read bytes)) line g p asked

        there : exists u g ≡ true
        there =
            let has : Has finds.finds.node w.servers = numbered_has w.servers g.server.0 finds.finds.node finds.finds.there in
            ap (is_any (trees.is_file g.ino)) (tree_there w sound [] u trees_there g.server finds.finds.node finds.finds.there)
            ∙ ((kind_is finds.finds.node.state.stable.names (sound finds.finds.node has) g.ino).file ∙ finds.finds.file)

        before : list_all (is_line_of c) done ≡ true
        before =
            (both_all (is_line_of c) done (seen.Answered c op (answers.Read bytes) ∷ os)
            (ap (list_all (is_line_of c)) is ∙ finds.alone)).0

        clear : list_all (is_clear c g) u.log ≡ true
        clear = all_clear c g es u.log (first_all es u.log (sym m ∙ told.lines) told.first) (λ y i pending same. its y pending same (grown c before y i))
          where
            its : (y : LogEntry) → log.is_pending y.fate ≡ true → y.of.file ≡ g → Has y w.log ⊎ (y.of.client ≡ c) → y.of.client ≡ c
            its y pending same (inl i) = finds.finds.own y i pending same
            its y pending same (inr i) = i

        free : is_free u c g ≡ true
        free = and_both (exists u g) (list_all (is_clear c g) u.log) there clear

  -- A line.
  record State (done : List Observation) (es : List LogEntry) (u : Volume) : Type 0 where
    told : IsTold es u
    right : AreOf as_ u
    trees_ : Trees u
    grown : Grown done es

  answer_free : (done os : List Observation) (es : List LogEntry) (u : Volume) (c : ClientId) (op : ℕ) (answer : AppAnswer) → State done es u →
      done ++ seen.Answered c op answer ∷ os ≡ x.seen → IsFreeIf (kinds.Answered c op answer) u
  answer_free done os es u c op (answers.Read bytes) s is = free_answer done os es u c op bytes s.told s.right s.trees_ s.grown is
  answer_free done os es u c op answer s is = tt

  block_free : (done : List Observation) (o : Observation) (os : List Observation) (es : List LogEntry) (u : Volume) → State done es u →
      done ++ o ∷ os ≡ x.seen → AtEachStep IsFreeIf (before_line o os ++ of_line w o) u
  unfolding before_line of_line AtEachStep
  block_free done (seen.Answered c op answer) os es u s is = at_one IsFreeIf (kinds.Answered c op answer) u (answer_free done os es u c op answer s is)
  block_free done (seen.Wrote i c g p bytes) os es u s is =
      at_silent IsFreeIf free_silent (kinds.TakesEffect c (next_op os) ∷ kinds.Joined i (Some c) (asks.Write g p bytes) ∷ []) u refl
  block_free done (seen.Patched i c g p at bytes) os es u s is =
      at_silent IsFreeIf free_silent (kinds.TakesEffect c (next_op os) ∷ kinds.Joined i (Some c) (asks.Patch g p at bytes) ∷ []) u refl
  block_free done (seen.CutAt i g p) os es u s is = at_silent IsFreeIf free_silent (kinds.Joined i None (asks.Cut g p) ∷ []) u refl
  block_free done (seen.Hardened i) os es u s is = at_silent IsFreeIf free_silent (kinds.Hardened i ∷ []) u refl
  block_free done (seen.Dropped i cause) os es u s is = at_silent IsFreeIf free_silent (kinds.Dropped i (cause_of w cause) ∷ []) u refl
  block_free done (seen.Sent k m) os es u s is = tt
  block_free done (seen.Submitted k c number what) os es u s is = tt
  block_free done (seen.Leased c s2 end) os es u s is = tt
  block_free done (seen.Lost c s2 life) os es u s is = tt
  block_free done (seen.Suspected s2 c start) os es u s is = tt
  block_free done (seen.Stolen s2 c life) os es u s is = tt

  block_trees : (o : Observation) (os : List Observation) (u : Volume) → Trees u → OnSome Trees (run (before_line o os ++ of_line w o) u)
  block_trees o os u (inr n) = Rattle.st_laws_volume.proofs.Options.on_all Trees (λ z. inr n) (run (before_line o os ++ of_line w o) u)
  block_trees o os u (inl h) =
      run_then Trees (before_line o os) (of_line w o) u
      (on_more (λ z. OnSome (SameTrees u) (run (of_line w o) z)) (λ z. OnSome Trees (run (of_line w o) z))
      (λ z k. on_more (SameTrees u) Trees (λ y j. inl (j ∙ h)) (run (of_line w o) z) k) (run (before_line o os) u) (line_same w o os u))

  lines_free : (done os : List Observation) (es : List LogEntry) (u : Volume) → State done es u → done ++ os ≡ x.seen → AtEachStep IsFreeIf (of_lines w os) u
  unfolding of_lines AtEachStep
  lines_free done [] es u s is = tt
  lines_free done (o ∷ os) es u s is =
      subst (λ its. AtEachStep IsFreeIf its u) (append_assoc (before_line o os) (of_line w o) (of_lines w os))
      (at_both IsFreeIf (before_line o os ++ of_line w o) (of_lines w os) u (block_free done o os es u s is)
      (on_more (λ z. IsTold (lines.log_behind f es o) z × (AreOf as_ z × Trees z)) (AtEachStep IsFreeIf (of_lines w os))
      (λ z k. lines_free (done ++ o ∷ []) os (lines.log_behind f es o) z
      (record { told = k.0; right = k.1.0; trees_ = k.1.1; grown = grown_more done o es s.grown }) (append_assoc done (o ∷ []) os ∙ is))
      (run (before_line o os ++ of_line w o) u)
      (on_both (IsTold (lines.log_behind f es o)) (λ z. AreOf as_ z × Trees z) (run (before_line o os ++ of_line w o) u)
      (run_then (IsTold (lines.log_behind f es o)) (before_line o os) (of_line w o) u (line_told w f es o os u s.told))
      (on_both (AreOf as_) Trees (run (before_line o os ++ of_line w o) u)
      (run_right as_ (before_line o os ++ of_line w o) u (block_other w o os) s.right) (block_trees o os u s.trees_)))))

  -- All steps of the event.
  event_free : (it : Witness) (v : Volume) → IsLogOf w.log v → AreOf (asks_of past) v → HasTreesOf w v →
      (of_delivery it.behind v w x.event ≡ []) ⊎ (given_in_lines x.seen ≡ []) → AtEachStep IsFreeIf (steps_of it v x) v
  unfolding run
  event_free it v a r t n =
      at_both IsFreeIf before (served ++ all) v (at_silent IsFreeIf free_silent before v (event_silent w x.event))
      (on_more (λ y. IsTold w.log y × (AreOf as_ y × Trees y)) (AtEachStep IsFreeIf (served ++ all))
      (λ y k. at_both IsFreeIf served all y (at_silent IsFreeIf free_silent served y (delivery_silent it.behind v w x.event))
      (on_more (λ z. IsTold w.log z × (AreOf as_ z × Trees z)) (AtEachStep IsFreeIf all)
      (λ z j. lines_free [] x.seen w.log z (record { told = j.0; right = j.1.0; trees_ = j.1.1; grown = λ c q e h. inl h }) refl) (run served y)
      (on_both (IsTold w.log) (λ z. AreOf as_ z × Trees z) (run served y)
      (quiet_run w.log served y (delivery_quiet it.behind v w x.event) k.0)
      (on_both (AreOf as_) Trees (run served y) (run_right as_ served y (all_other served (delivery_inside it.behind v w x.event)) k.1.0)
      (trees_served y n k.1.1)))))
      (run before v)
      (on_both (IsTold w.log) (λ y. AreOf as_ y × Trees y) (run before v) (quiet_run w.log before v (event_quiet w x.event) (told_of w.log v a))
      (on_both (AreOf as_) Trees (run before v)
      (on_more (AreOf (asked_after (asks_of past) x.event)) (AreOf as_)
      (λ y k. moved (asked_after (asks_of past) x.event) as_ (λ c. asks_more past x c) y k) (run before v) (event_right (asks_of past) w x.event v r))
      (on_more (SameTrees v) Trees (λ y k. inl (k ∙ t)) (run before v) (all_same before v (event_is w x.event))))))
    where
      before : List VolumeStep
      before = of_event w x.event

      served : List VolumeStep
      served = of_delivery it.behind v w x.event

      all : List VolumeStep
      all = of_lines w x.seen

      trees_served : (y : Volume) → (served ≡ []) ⊎ (given_in_lines x.seen ≡ []) → Trees y → OnSome Trees (run served y)
      trees_served y (inr g) k = Rattle.st_laws_volume.proofs.Options.on_all Trees (λ z. inr g) (run served y)
      trees_served y (inl g) k = subst (λ its. OnSome Trees (run its y)) (sym g) k

-- In every run.
FreeToo : List Step → Step → Witness → Type 0
FreeToo past x it = OnSome (λ v. AtEachStep IsFreeIf (steps_of it v x) v) it.volume

record FreeHold (past : List Step) (t : Traced) (it : Witness) : Type 0 where
  log_ : LogHolds past t it
  right : RightHold past t it
  trees_ : TreesHold past t it

abbrev Known : Promise
Known past x = TheReportTellsTheLog past x × ReadsAreOfFiles past x

free_on : IsGiven Known FreeHold FreeToo
unfolding FreeToo
free_on past t e sc it q g h =
    let x : Step = step t e sc in (
      on_more (λ v. IsLogOf t.world.log v × (AreOf (asks_of past) v × HasTreesOf t.world v)) (λ v. AtEachStep IsFreeIf (steps_of it v x) v)
          (λ v k. event_free past x h.trees_.sound g.1 it v k.0 k.1.0 k.1.1 (which v (event_answers t.world e sc q)))
          it.volume
          (on_both (IsLogOf t.world.log) (λ v. AreOf (asks_of past) v × HasTreesOf t.world v) it.volume h.log_
          (on_both (AreOf (asks_of past)) (HasTreesOf t.world) it.volume h.right h.trees_.agree)),
      record {
        log_ = log_kept past t e sc it q g.0 h.log_;
        right = right_kept past t e sc it q tt h.right;
        trees_ = trees_kept past t e sc it q tt h.trees_;
      },
    )
  where
    which : (v : Volume) → AnswersOf t.world e sc → (of_delivery it.behind v t.world e ≡ []) ⊎ (given_in_lines sc.seen ≡ [])
    which v (GivesNone n) = inr n
    which v (Steps r) = inl (none_served it.behind v t.world e r.client r.site r.input r.takes)

-- with the lines before each answer
answer_settled : (it : VolumeStep) (u : Volume) → IsAfterLines it u → IsFreeIf it u → IsOfFree it u
answer_settled (kinds.Answered c op answer) u m h = by answer h
  where
    by : (answer : AppAnswer) → IsFreeIf (kinds.Answered c op answer) u → IsOfFree (kinds.Answered c op answer) u
    by (answers.Read bytes) h = h m
    by answer h = tt
answer_settled it u m h = tt

settled : (its : List VolumeStep) (u : Volume) → AtEachStep IsAfterLines its u → AtEachStep IsFreeIf its u → AtEachStep IsOfFree its u
unfolding AtEachStep
settled [] u a b = tt
settled (it ∷ its) u a b = (
  answer_settled it u a.0 b.0,
  on_more (λ v. AtEachStep IsAfterLines its v × AtEachStep IsFreeIf its v) (AtEachStep IsOfFree its) (λ v k. settled its v k.0 k.1) (volume.step u it)
      (on_both (AtEachStep IsAfterLines its) (AtEachStep IsFreeIf its) (volume.step u it) a.1 b.1),
)

abbrev FreeAt : Promise
FreeAt past x = FreeToo past x (led_to past x)

all_settled : (past : List Step) (x : Step) → AnswersFollowLines past x × FreeAt past x → ReadsFindTheirFiles past x
unfolding FreeToo
all_settled past x h =
    on_more
    (λ v. AtEachStep IsAfterLines (steps_of (led_to past x) v x) v × AtEachStep IsFreeIf (steps_of (led_to past x) v x) v)
    (λ v. AtEachStep IsOfFree (steps_of (led_to past x) v x) v) (λ v k. settled (steps_of (led_to past x) v x) v k.0 k.1) (led_to past x).volume
    (on_both (λ v. AtEachStep IsAfterLines (steps_of (led_to past x) v x) v) (λ v. AtEachStep IsFreeIf (steps_of (led_to past x) v x) v)
    (led_to past x).volume h.0 h.1)

pub reads_find_their_files : EveryRunIsSafe → InEveryRun ReadsFindTheirFiles
unfolding FreeToo fresh_world
reads_find_their_files safe k clients servers disks blocks form es head events =
    let t : Traced = traced (fresh_world k clients servers disks blocks form) in
    let kept : IsSafeRun (fresh_world k clients servers disks blocks form) es = safe k clients servers disks blocks form es head events in
    throughout_more (λ past x. AnswersFollowLines past x × FreeAt past x) ReadsFindTheirFiles all_settled [] (steps es t)
    (throughout_both AnswersFollowLines FreeAt [] (steps es t) (answers_follow_lines safe k clients servers disks blocks form es head events)
    (given_in Known FreeHold FreeToo free_on es t
    (record {
      log_ = log_begins k clients servers disks blocks form;
      right = right_begins k clients servers disks blocks form;
      trees_ = trees_begin k clients servers disks blocks form;
    })
    (throughout_both TheReportTellsTheLog ReadsAreOfFiles [] (steps es t) kept.told (reads_are_of_files k clients servers disks blocks form es head events))))
