-- In every run the volume takes each answer `quiesced`: it goes to a sync that has nothing left to wait for, or to another ask, which has no result.
use Rattle.st_lemmas.proofs.Words
use Words.{◌≡◌, ◌≤◌, ℕ, ◌+◌, ◌⊎◌, Bool, true, false, not, ◌&&◌, ◌||◌, ◌==◌, List, [], ◌∷◌, ◌++◌, Option, Some, None, Ok, refl, sym, ap, ◌∙◌, subst, inl, inr, arith}
use Words.{append-nil, append_assoc, eq-eqb, eqb-true, find, if◌then◌else◌, is_some, length, list_all, list_any, map, option_and_then, slice_get, ClientId, Event, FileId}
use Words.{ServerId, AppAnswer, Ask, LogEntry, Observation, Operation, ClientInput}
use Words.answers
use Words.asks
use Words.events
use Words.fates
use Words.inputs
use Words.nodes
use Words.seen
use Words.ClientState as cs
use Words.ClientState.{Association, ClientState, is_at}
use Words.Events.{WorldTurn, world_step}
use Words.FlatLog as log
use Words.Lines as lines
use Words.Lines.{IsLogTold}
use Words.Lists.{Has}
use Words.Lookups.{if_true, or_left, some_is}
use Words.Members.{has_left}
use Words.Numbers.{get_has}
use Words.Safety.{IsHead, Promise, Step, all_answered_once, all_followed, ask_of, step, steps}
use Words.Tables.{and_both, and_true, found_at, has_map_in}
use Words.Truth.{clash, client_is, file_is}
use Words.World as world
use Words.World.{World, WorldClient, clock_of, fresh_world, site_of}
use Rattle.st_base.specs.declared.rows.LostRow.{LostRow}
use Rattle.st_rules.specs.History.{Traced, traced}
use Rattle.st_promises.specs.Losses.{AreLossesTold, IsLossTold, IsToldBy, IsToldTo, is_of_file, owed, owed_of_file, owes}
use Rattle.st_promises.specs.Safe.{EveryRunIsSafe, IsSafeRun}
use Rattle.st_protocol.specs.Assoc as net
use Rattle.st_laws_steps.specs.Client.Losses.{is_ended}
use Rattle.st_laws_steps.proofs.Lives.Associations.{own_found}
use Rattle.st_laws_pages.specs.Asks.Law.{PlacesHold}
use Rattle.st_laws_pages.specs.Disks.Obligations.{FatesHold}
use Rattle.st_laws_pages.specs.Disks.Runs.{PagesAfter}
use Rattle.st_laws_pages.proofs.Asks.Client.{key}
use Rattle.st_laws_pages.proofs.Asks.Law.{places_law}
use Rattle.st_laws_pages.proofs.Asks.World.{asks_of}
use Rattle.st_laws_pages.proofs.Disks.Whole.{fates_law}
use Rattle.st_laws_refine.specs.Server.Pair.{terms_of}
use Rattle.st_laws_requests.specs.Cuts.Cuts.{ClientOk}
use Rattle.st_laws_requests.specs.Cuts.Cuts as cuts
use Rattle.st_laws_names.specs.OutstandingKeys.{KeysHaveOneOperation}
use Rattle.st_laws_names.proofs.Facts.{FactsHold, operations_law}
use Rattle.st_laws_names.proofs.Keys.{IsRequested, Place}
use Rattle.st_laws_names.proofs.World as names
use Rattle.st_laws_volume.specs.AnswerKinds.{is_quiesced}
use Rattle.st_laws_volume.specs.Asks.{HasAsksOf, at_site, in_volume}
use Rattle.st_laws_volume.specs.FateMarks.{is_crashed_life}
use Rattle.st_laws_volume.specs.Logs.{InEveryRun, IsLogOf, IsSame}
use Rattle.st_laws_volume.specs.LossMarks.{AreMet, IsLate}
use Rattle.st_laws_volume.specs.Options.{OnSome}
use Rattle.st_laws_volume.specs.Seen.{of_event}
use Rattle.st_laws_volume.specs.StepKinds.{AreTaken, AtEachStep, StepsAreTaken}
use Rattle.st_laws_volume.specs.Witness.{Witness, begun, led_by, of_lines, steps_of}
use Rattle.st_laws_volume.proofs.AnswerLines.{AllAsked, AllFit, IsFineBy, NoneOf, Takes, at_two, block_by, comes_to, event_fine, event_none, none_served, taken_at, takes_silent}
use Rattle.st_laws_volume.proofs.AnswerSteps.{OnlyAnswers}
use Rattle.st_laws_volume.proofs.AskClient.{coming}
use Rattle.st_laws_volume.proofs.AskedAsks.{AreOf, Asked}
use Rattle.st_laws_volume.proofs.AskEvents.{AllOpenFor}
use Rattle.st_laws_volume.proofs.Asks.{AsksHold, asks_begin, asks_kept}
use Rattle.st_laws_volume.proofs.AskSteps.{told_all}
use Rattle.st_laws_volume.proofs.Carried.{IsGiven, given_in}
use Rattle.st_laws_volume.proofs.ChangeLines.{on_both}
use Rattle.st_laws_volume.proofs.EventAnswers.{AnswersOf, ByAsk, ByMessage, ByReport, ByTick, GivesNone, Given, Stepping, Steps, TakesAt, event_answers, given_in_lines}
use Rattle.st_laws_volume.proofs.FailureEntries.{kept_at}
use Rattle.st_laws_volume.proofs.FailureLives.{lasts}
use Rattle.st_laws_volume.proofs.FateCrashes.{MarksOf}
use Rattle.st_laws_volume.proofs.FateEnds.{marked_at}
use Rattle.st_laws_volume.proofs.FateKeeps.{Keeps}
use Rattle.st_laws_volume.proofs.FateSeen.{gives_fates}
use Rattle.st_laws_volume.proofs.HardAnswers as hard
use Rattle.st_laws_volume.proofs.HardAnswers.{after_wait, each_line}
use Rattle.st_laws_volume.proofs.LogEntries.{same_first}
use Rattle.st_laws_volume.proofs.LossesMet as losses
use Rattle.st_laws_volume.proofs.LossesMet.{MetHold, met_begins, met_kept}
use Rattle.st_laws_volume.proofs.LossLines.{LateAt, RowsAt, first_at, is_loss_of}
use Rattle.st_laws_volume.proofs.LossOrder.{AfterLoss, InOrder, IsFree, LaterLine, LaterLines, OneLine, Ordered, Unsent, ordered}
use Rattle.st_laws_volume.proofs.OpenAnswers.{OfAnswers, block, open_left}
use Rattle.st_laws_volume.proofs.OpenResults.{AllFine, run_fine}
use Rattle.st_laws_volume.proofs.Options.{on_more}
use Rattle.st_laws_volume.proofs.ReadPages.{all_in_range, InRange, throughout_both}
use Rattle.st_laws_volume.proofs.ResultsAtAnswers.{FineAt, lines_fine_at}
use Rattle.st_laws_volume.proofs.SyncsSettled.{IsOn, all_settled}
use Rattle.st_laws_volume.proofs.SyncsWait.{AllWait}
use Rattle.st_laws_volume.proofs.ToldSteps.{Told, event_kept}
use Rattle.st_laws_volume.proofs.UnservedAsks as none
use Rattle.st_laws_volume.proofs.UnservedAsks.{NoneHold, WasServed, none_begins, none_on}
use Rattle.st_volume.specs.declared.step.VolumeStep.{VolumeStep}
use Rattle.st_volume.specs.declared.step.VolumeStep.TheVariants as kinds
use Rattle.st_volume.specs.Pages.{Entry, is_by_on, is_settled}
use Rattle.st_volume.specs.Volume as volume
use Rattle.st_volume.specs.Volume.{Pending, Volume, acts, answered, is_ask, is_hard, run}

only_quiesced : OnlyAnswers is_quiesced
only_quiesced (kinds.Answered c op answer) q = cc q
only_quiesced (kinds.Asked c ask) q = refl
only_quiesced (kinds.TakesEffect c op) q = refl
only_quiesced (kinds.Joined i c what) q = refl
only_quiesced (kinds.Hardened i) q = refl
only_quiesced (kinds.Dropped i cause) q = refl
only_quiesced (kinds.Crashed c) q = refl
only_quiesced (kinds.Restarted s) q = refl
only_quiesced (kinds.WriteFailed c number i) q = refl
only_quiesced (kinds.ReadFailed c s number) q = refl

-- A line of a step is one of its first lines, or of the others.
abbrev pub InFirst : List Observation → List Observation → Observation → Type 0
InFirst first done x = (post : List Observation) × (first ≡ done ++ x ∷ post)

abbrev pub InRest : List Observation → List Observation → List Observation → Observation → List Observation → Type 0
InRest first rest done x more = (pre : List Observation) × (done ≡ first ++ pre) × (rest ≡ pre ++ x ∷ more)

pub where_is : (first rest done : List Observation) (x : Observation) (more : List Observation) → done ++ x ∷ more ≡ first ++ rest →
    InFirst first done x ⊎ InRest first rest done x more
where_is [] rest done x more e = inr (done, refl, sym e)
where_is (y ∷ first) rest [] x more e = inl (first, ap (λ z. z ∷ first) (head e))
  where
    head : x ∷ more ≡ y ∷ (first ++ rest) → y ≡ x
    head q = cc
where_is (y ∷ first) rest (z ∷ done) x more e = go (where_is first rest done x more (tail e))
  where
    head : z ∷ (done ++ x ∷ more) ≡ y ∷ (first ++ rest) → y ≡ z
    head q = cc

    tail : z ∷ (done ++ x ∷ more) ≡ y ∷ (first ++ rest) → done ++ x ∷ more ≡ first ++ rest
    tail q = cc

    go : InFirst first done x ⊎ InRest first rest done x more → InFirst (y ∷ first) (z ∷ done) x ⊎ InRest (y ∷ first) rest (z ∷ done) x more
    go (inl (post, q)) = inl (post, ap (λ k. k ∷ first) (head e) ∙ ap (λ xs. z ∷ xs) q)
    go (inr (pre, p, q)) = inr (pre, ap (λ k. k ∷ done) (sym (head e)) ∙ ap (λ xs. y ∷ xs) p, q)

-- what holds of such a line
pub order_at : (w : World) (c : ClientId) (pre done post : List Observation) (x : Observation) → InOrder w c pre (done ++ x ∷ post) →
    OneLine w c (pre ++ done) x
order_at w c pre [] post x h = subst (λ xs. OneLine w c xs x) (sym (append-nil pre)) h.0
order_at w c pre (y ∷ done) post x h =
    subst (λ xs. OneLine w c xs x) (append_assoc pre (y ∷ []) done) (order_at w c (pre ++ y ∷ []) done post x h.1)

pub later_at : (c : ClientId) (s : ClientState) (input : ClientInput) (start : List (ℕ × Ask)) (pre more : List Observation) (x : Observation) →
    LaterLines c s input start (pre ++ x ∷ more) → LaterLine c s input start x
later_at c s input start [] more x h = h.0
later_at c s input start (y ∷ pre) more x h = later_at c s input start pre more x h.1

-- losses and answers leave the log
pub level : (f : World) (w : World) (c : ClientId) (es : List LogEntry) (pre done post : List Observation) → InOrder w c pre (done ++ post) →
    lines.log_told f es done ≡ es
unfolding lines.log_told lines.log_behind
level f w c es pre [] post h = refl
level f w c es pre (seen.Answered d op a ∷ done) post h = level f w c es (pre ++ seen.Answered d op a ∷ []) done post h.1
level f w c es pre (seen.Lost d s life ∷ done) post h = level f w c es (pre ++ seen.Lost d s life ∷ []) done post h.1
level f w c es pre (y ∷ done) post h = absurd h.0

unowed : (b : Bool) (rows : List LostRow) → IsToldBy b rows answers.Quiesced → b ≡ false
unowed true rows k = absurd k
unowed false rows k = refl

-- the number of an ask that comes
new_number : (t : World) (e : Event) (c : ClientId) (site : WorldClient) (i : ClientInput) → TakesAt t e c site i → (op : ℕ) (ask : Ask) →
    i ≡ inputs.App op ask → op ≡ site.asks + 1
new_number t e c site _ (ByTick f) op ask q = cc q
new_number t e c site _ (ByAsk asked f) op ask q = its q
  where
    its : inputs.App (site.asks + 1) asked ≡ inputs.App op ask → op ≡ site.asks + 1
    its z = cc
new_number t e c site _ (ByMessage k m f p z) op ask q = cc q
new_number t e c site _ (ByReport k ok y r f p a s d) op ask q = cc q

pub step_calm : (t : World) (e : Event) (c : ClientId) (site : WorldClient) (i : ClientInput) → TakesAt t e c site i → gives_fates e ≡ false
step_calm t e c site _ (ByTick f) = ap gives_fates f
step_calm t e c site _ (ByAsk asked f) = ap gives_fates f
step_calm t e c site _ (ByMessage k m f p z) = ap gives_fates f
step_calm t e c site _ (ByReport k ok y r f p a s d) = ap gives_fates f

-- What holds of any answers
abbrev pub Always : Given → Type 0
Always g = Unit {0}

pub always_fit : (gs : List Given) → AllFit Always gs
always_fit [] = tt
always_fit (g ∷ gs) = (tt, always_fit gs)

-- An event in which a client takes a step.
module _ (k : net.Config) (count : ℕ) (past : List Step) (t : Traced) (e : Event) (sc : WorldTurn) (happened : world_step t.world e ≡ Ok sc) (it : Witness)
    (facts : FactsHold k count past t) (held : MetHold past t it) (later : FatesHold sc.world) (v : Volume) (a : IsLogOf t.world.log v)
    (right : AreOf (asks_of past) v) (marked : MarksOf t.world v) (met : AreMet (owed past) (IsLate t.world) t.world.log v) (wait : AllWait v)
    (whole : IsLogTold sc.world t.world.log sc.seen) (r : Stepping t.world e sc) where
  abbrev w : World
  w = t.world

  abbrev x' : Step
  x' = step t e sc

  abbrev as_ : Asked
  as_ = asks_of (past ++ x' ∷ [])

  abbrev c : ClientId
  c = r.client

  abbrev s : ClientState
  s = r.site.node.state

  abbrev start : List (ℕ × Ask)
  start = map key s.operations ++ coming r.input

  calm : gives_fates e ≡ false
  calm = step_calm w e c r.site r.input r.takes

  abbrev State : List Observation → List Observation → List LogEntry → Volume → Type 0
  State = hard.State past t e sc happened it held later v a right marked met wait calm whole

  order : Ordered w c s r.input start sc.seen
  order = ordered w e sc r (held.failures.stand.stand.fates.lives.lives.sites c r.site r.at).fit start refl

  starts : AllAsked w e as_ → (j : ℕ × Ask) → Has j start → world.numbered (as_ c) j.0 ≡ Some j.1
  starts all j i =
      all c j
      (subst (Has j) (sym (ap (λ o. (told_all c (of_event w e) (at_site o)).pending) r.at ∙ comes_to w e c r.site r.input r.takes)) i)

  abbrev Settled : FileId → Volume → Type 0
  Settled f u = list_all (λ (z : Entry). is_settled z || not (is_by_on c f z)) u.log ≡ true

  -- what holds of such an answer
  record Quiet (d : ClientId) (op : ℕ) (u : Volume) : Type 0 where
    client : d ≡ c
    unsent : Unsent s r.input start op
    settled : (f : FileId) → world.numbered (as_ c) op ≡ Some (asks.Sync f) → Settled f u

  abbrev QuietAt : VolumeStep → Volume → Type 0
  QuietAt (kinds.Answered d op answers.Quiesced) u = AllAsked w e as_ → Quiet d op u
  QuietAt (kinds.Answered d op answer) u = Unit {0}
  QuietAt it u = Unit {0}

  quiet_silent : OfAnswers QuietAt
  quiet_silent (kinds.Answered d op answer) u q = cc
  quiet_silent it u q = tt

  -- One such answer, which the losses gave.
  module _ (done os : List Observation) (es : List LogEntry) (u : Volume) (op : ℕ) (z : AfterLoss w c done op answers.Quiesced)
      (same_log : es ≡ w.log) (st : State done (seen.Answered c op answers.Quiesced ∷ os) es u)
      (told : IsToldTo (ask_of past x' c op) (RowsAt past x' done c) answers.Quiesced) (all : AllAsked w e as_) where
    site_is : z.site ≡ r.site
    site_is = some_is (sym z.at ∙ r.at)

    among : Has z.operation s.operations
    among = subst (λ (y : WorldClient). Has z.operation y.node.state.operations) site_is z.among

    unsent_is : Unsent s r.input start op
    unsent_is = inl (z.operation, (among, (z.is, z.unsent refl)))

    -- of a file
    module _ (f : FileId) (is : world.numbered (as_ c) op ≡ Some (asks.Sync f)) where
      words : z.operation.ask ≡ asks.Sync f
      words =
          some_is
          (sym (starts all (key z.operation)
          (has_left (map key s.operations) (coming r.input) (key z.operation) (has_map_in key s.operations z.operation among)))
          ∙ (ap (world.numbered (as_ c)) z.is ∙ is))

      server : z.a.server ≡ f.server
      server =
          ap (λ n. record { 0 = n }) (sym (eqb-true (cs.server_of z.operation.ask).0 z.a.server.0 z.own)) ∙ ap cs.server_of words

      none_owed : list_any (is_of_file f.ino) (RowsAt past x' done c f.server) ≡ false
      none_owed =
          unowed (owes (RowsAt past x' done c f.server) f.ino) (owed_of_file (RowsAt past x' done c f.server) f.ino)
          (subst (λ o. IsToldTo o (RowsAt past x' done c) answers.Quiesced) is told)

      late : (o : LogEntry) → IsOn c f o → LateAt past x' done o.of → ⊥
      late o k l =
          clash
          (subst (λ d. list_any (is_loss_of d o.of.file.server) done ≡ true) k.client
          (subst (λ (y : ServerId). list_any (is_loss_of c y) done ≡ true) (server ∙ ap (λ (y : FileId). y.server) k.its_file) z.told))
          l.1

      pending : (n : ℕ) (o : LogEntry) (g : Entry) → slice_get es n ≡ Some o → slice_get u.log n ≡ Some g → IsOn c f o → o.fate ≡ fates.Pending →
          g.crashed ≡ true
      pending n o g i j k p = go (is_crashed_life w.ended o.of) refl
        where
          old : slice_get w.log n ≡ Some o
          old = subst (λ xs. slice_get xs n ≡ Some o) same_log i

          y : (y : Entry) × (slice_get v.log n ≡ Some y) × IsSame o y
          y = first_at w.log v.log (same_first w.log v.log a.entries) n o old

          m : (x : Entry) × (slice_get u.log n ≡ Some x) × Keeps ⊥ y.0 x
          m = kept_at ⊥ v.log u.log st.keeps n y.0 y.1

          place : find (is_at o.of.file.server) z.site.node.state.associations ≡ Some z.a
          place =
              subst (λ (q : ServerId). find (is_at q) z.site.node.state.associations ≡ Some z.a) (server ∙ ap (λ (q : FileId). q.server) k.its_file)
              (own_found z.site.node.state.associations (held.failures.stand.stand.fates.lives.lives.sites c z.site z.at).once z.a z.has)

          go : (b : Bool) → is_crashed_life w.ended o.of ≡ b → g.crashed ≡ true
          go true q =
              ap (λ (x : Entry). x.crashed) (some_is (sym j ∙ m.1))
              ∙ m.2.crashed (marked_at w.ended w.log v.log marked n o y.0 old y.1 k.change q)
          go false q =
              absurd
              (lasts w held.failures.stand.stand.fates o (get_has w.log n o old) p q z.site (ap (site_of w) (sym k.client) ∙ z.at) z.a place
              (ap (λ d. is_ended z.site.node.state.config (clock_of w (nodes.Client d)) z.a.session) (sym k.client) ∙ z.over))

      file_settled : Settled f u
      file_settled =
          all_settled past x' done es u st.told.first (let l = st.told.lines in let n = st.lined in omega (arith, l, n)) st.met_ c f none_owed pending late

  quiet_now : (done os : List Observation) (es : List LogEntry) (u : Volume) (d : ClientId) (op : ℕ) →
      done ++ seen.Answered d op answers.Quiesced ∷ os ≡ sc.seen → lines.log_told sc.world w.log done ≡ es →
      IsLossTold past x' done (seen.Answered d op answers.Quiesced) → State done (seen.Answered d op answers.Quiesced ∷ os) es u → AllAsked w e as_ →
      Quiet d op u
  quiet_now done os es u d op q g l st all = go (where_is order.first order.rest done (seen.Answered d op answers.Quiesced) os (q ∙ order.is))
    where
      go : InFirst order.first done (seen.Answered d op answers.Quiesced) ⊎ InRest order.first order.rest done (seen.Answered d op answers.Quiesced) os →
          Quiet d op u
      go (inl (post, i)) =
          let h : InOrder w c [] (done ++ seen.Answered d op answers.Quiesced ∷ post) = subst (InOrder w c []) i order.order in
          let z = order_at w c [] done post (seen.Answered d op answers.Quiesced) h in
          let same : es ≡ w.log = sym g ∙ level sc.world w c w.log [] done (seen.Answered d op answers.Quiesced ∷ post) h in
          let own : State done (seen.Answered c op answers.Quiesced ∷ os) es u =
          subst (λ b. State done (seen.Answered b op answers.Quiesced ∷ os) es u) z.0 st in
          let told : IsToldTo (ask_of past x' c op) (RowsAt past x' done c) answers.Quiesced =
          subst (λ b. IsToldTo (ask_of past x' b op) (RowsAt past x' done b) answers.Quiesced) z.0 l in
          record {
            client = z.0;
            unsent = unsent_is done os es u op z.1 same own told all;
            settled = λ f is. file_settled done os es u op z.1 same own told all f is;
          }
      go (inr (pre, i, j)) =
          let z = later_at c s r.input start pre os (seen.Answered d op answers.Quiesced) (subst (LaterLines c s r.input start) j order.later) in
          record {
            client = z.0;
            unsent = z.1.unsent;
            settled = λ f is. absurd (clash (ap cs.is_sync (some_is (sym (starts all (op, z.1.ask) z.1.known) ∙ is))) z.1.other);
          }

  at_answer : (answer : AppAnswer) (done os : List Observation) (es : List LogEntry) (u : Volume) (d : ClientId) (op : ℕ) →
      done ++ seen.Answered d op answer ∷ os ≡ sc.seen → lines.log_told sc.world w.log done ≡ es → IsLossTold past x' done (seen.Answered d op answer) →
      State done (seen.Answered d op answer ∷ os) es u → QuietAt (kinds.Answered d op answer) u
  at_answer answers.Quiesced done os es u d op q g l st = λ all. quiet_now done os es u d op q g l st all
  at_answer answer done os es u d op q g l st = tt

  one_line : (done : List Observation) (o : Observation) (os : List Observation) (es : List LogEntry) (u : Volume) → done ++ o ∷ os ≡ sc.seen →
      lines.log_told sc.world w.log done ≡ es → IsLossTold past x' done o → State done (o ∷ os) es u → AtEachStep QuietAt (block w o os) u
  one_line done o os es u q g l st =
      block_by QuietAt quiet_silent w o os u
      (λ d op answer i. at_answer answer done os es u d op (subst (λ y. done ++ y ∷ os ≡ sc.seen) i q) g (subst (IsLossTold past x' done) i l)
      (subst (λ y. State done (y ∷ os) es u) i st))

  -- An operation whose request was served was sent.
  sent_of : (op : ℕ) → WasServed past w c op → (o : Operation) → Has o s.operations → o.op ≡ op → cs.is_sent o ≡ true
  sent_of op z o i q = (facts.changes_.names_.once.sites c p.site p.at).sent p.association p.among o here one own
    where
      one : names.Asked past w c o.op
      one = subst (names.Asked past w c) (sym q) z.k

      p : Place w c one.server
      p = facts.keys.places c o.op one

      b : IsRequested past w c o.op one.server one.life_ one.epoch_ one.number_
      b = facts.keys.requested c o.op one

      here : Has o p.site.node.state.operations
      here = subst (λ (y : WorldClient). Has o y.node.state.operations) (some_is (sym r.at ∙ p.at)) i

      asked : world.numbered (cuts.asks_of past c) o.op ≡ Some o.ask
      asked = (facts.changes_.names_.all.base.cuts.clients c r.site r.at).asked o i

      own : cs.is_of p.association.server o ≡ true
      own =
          eq-eqb (cs.server_of o.ask).0 p.association.server.0
          (ap (λ (y : ServerId). y.0) (ap cs.server_of (some_is (sym asked ∙ b.asked)) ∙ (b.of ∙ sym p.server)))

  below : (op : ℕ) → WasServed past w c op → op ≤ r.site.asks
  below op z =
      let l = facts.changes_.names_.once.known c op z.k in
      let n = (facts.changes_.names_.all.base.cuts.clients c r.site r.at).count in omega (arith, l, n)

  unserved : (op : ℕ) → Unsent s r.input start op → WasServed past w c op → ⊥
  unserved op (inl (o, (i, (q, n)))) z = clash (sent_of op z o i q) n
  unserved op (inr (ask, i)) z =
      let l = below op z in
      let n = new_number w e c r.site r.input r.takes op ask i in omega (arith, l, n)

  -- So the answer is taken.
  abbrev Fact : VolumeStep → Volume → Type 0
  Fact it u = FineAt (WasServed past w) it u × QuietAt it u

  module _ (all : AllAsked w e as_) (u : Volume) (d : ClientId) (op : ℕ) (b : Pending) (told : Told u)
      (fact : Fact (kinds.Answered d op answers.Quiesced) u) (q : find (is_ask d op) u.pending ≡ Some b) (asked : world.numbered (as_ d) op ≡ Some b.ask) where
    quiet : Quiet d op u
    quiet = fact.1 all

    found : (is_ask d op b ≡ true) × Has b u.pending
    found = found_at (is_ask d op) u.pending b q

    keys : ((b.client.0 == d.0) ≡ true) × ((b.op == op) ≡ true)
    keys = and_true (b.client.0 == d.0) (b.op == op) found.0

    unresulted : is_some b.result ≡ true → ⊥
    unresulted i = go (fact.0 b found.1 i)
      where
        go : WasServed past w b.client b.op ⊎ (false ≡ true) → ⊥
        go (inr z) = cc z
        go (inl z) =
            unserved op quiet.unsent
            (subst (WasServed past w c) (eqb-true b.op op keys.1)
            (subst (λ (y : ClientId). WasServed past w y b.op) (client_is b.client d keys.0 ∙ quiet.client) z))

    is_right : (what : Ask) → b.ask ≡ what → (not (volume.is_sync b.ask) || is_hard u b) ≡ true
    is_right (asks.Sync f) i =
        subst (λ ask.
        (not (volume.is_sync ask) || (volume.is_sync ask && list_all (λ (z : Entry). is_settled z || not (is_by_on b.client (volume.file_of ask) z)) u.log))
        ≡ true) (sym i)
        (subst (λ (y : ClientId). list_all (λ (z : Entry). is_settled z || not (is_by_on y f z)) u.log ≡ true)
        (sym (client_is b.client d keys.0 ∙ quiet.client))
        (quiet.settled f (subst (λ (y : ClientId). world.numbered (as_ y) op ≡ Some (asks.Sync f)) quiet.client (asked ∙ ap (λ y. Some y) i))))
    is_right (asks.Write f p bytes) i = ap (λ ask. not (volume.is_sync ask) || is_hard u b) i
    is_right (asks.Patch f p at bytes) i = ap (λ ask. not (volume.is_sync ask) || is_hard u b) i
    is_right (asks.Read f p) i = ap (λ ask. not (volume.is_sync ask) || is_hard u b) i
    is_right (asks.Cut f p) i = ap (λ ask. not (volume.is_sync ask) || is_hard u b) i
    is_right (asks.Name n ask) i = ap (λ ask. not (volume.is_sync ask) || is_hard u b) i

    abbrev left : Option Volume
    left = Some (volume.closed b (volume.after_answer u b answers.Quiesced))

    so : (o : Option AppAnswer) → b.result ≡ o → is_some (if volume.answers_so u b answers.Quiesced o then left else None) ≡ true
    so None i = ap is_some (if_true (not (volume.is_sync b.ask) || is_hard u b) left None (is_right b.ask refl))
    so (Some result) i = absurd (unresulted (ap is_some i))

    quiet_taken : is_some (volume.step u (kinds.Answered d op answers.Quiesced)) ≡ true
    quiet_taken =
        ap is_some (if_true (u.lines == length u.log) (acts u (kinds.Answered d op answers.Quiesced)) None (eq-eqb u.lines (length u.log) told))
        ∙ (ap (λ (o : Option Pending). is_some (option_and_then (answered u answers.Quiesced) o)) q ∙ so b.result refl)

  takes_one : AllAsked w e as_ → IsFineBy (Takes is_quiesced) Fact Always as_
  takes_one all u g b told fact q asked fits = by g.answer fact
    where
      by : (answer : AppAnswer) → Fact (kinds.Answered g.client g.op answer) u → is_quiesced (kinds.Answered g.client g.op answer) ≡ true →
          is_some (volume.step u (kinds.Answered g.client g.op answer)) ≡ true
      by answers.Quiesced h i = quiet_taken all u g.client g.op b told h q asked
      by answer h i = cc i

  pub event_quiet : HasAsksOf w v → ((d : ClientId) → AllOpenFor w d sc.seen (told_all d (of_event w e) (at_site (site_of w d)))) →
      AreLossesTold past x' [] sc.seen →
      all_followed sc.seen ≡ true → AllFine (WasServed past w) None v → AreTaken is_quiesced (steps_of it v x') v
  event_quiet agree opened l followed fine =
      taken_at is_quiesced (steps_of it v x') v
      (event_fine (Takes is_quiesced) (takes_silent is_quiesced only_quiesced) Fact Always past x' takes_one it v
      (none_served it.behind v w e c r.site r.input r.takes) a.lines right agree opened
      (on_more (λ u. AtEachStep (FineAt (WasServed past w)) (of_lines w sc.seen) u × AtEachStep QuietAt (of_lines w sc.seen) u)
      (AtEachStep Fact (of_lines w sc.seen))
      (λ u h. at_two (FineAt (WasServed past w)) QuietAt (of_lines w sc.seen) u h.0 h.1) (run (of_event w e) v)
      (on_both (AtEachStep (FineAt (WasServed past w)) (of_lines w sc.seen)) (AtEachStep QuietAt (of_lines w sc.seen)) (run (of_event w e) v)
      (on_more (AllFine (WasServed past w) None) (AtEachStep (FineAt (WasServed past w)) (of_lines w sc.seen))
      (λ u h. lines_fine_at (WasServed past w) w sc.seen u followed h) (run (of_event w e) v)
      (run_fine (WasServed past w) None (of_event w e) v (event_kept w e) fine))
      (each_line past t e sc happened it held later v a right marked met wait calm whole QuietAt one_line
      (none_served it.behind v w e c r.site r.input r.takes) l
      (λ d. subst (λ h. AllOpenFor w d sc.seen (told_all d (of_event w e) h)) (sym (agree d)) (opened d)))))
      (always_fit (given_in_lines sc.seen)))

-- In every run.
QuietToo : List Step → Step → Witness → Type 0
QuietToo past x it = OnSome (λ v. AreTaken is_quiesced (steps_of it v x) v) it.volume

record QuietHolds (k : net.Config) (count : ℕ) (past : List Step) (t : Traced) (it : Witness) : Type 0 where
  met : MetHold past t it
  asks : AsksHold past t it
  wait : OnSome AllWait it.volume
  unserved : NoneHold k count past t it

abbrev Known : ℕ → Promise
Known count past x = losses.Known past x × ((FatesHold x.after.world × PlacesHold x.after.world) × none.Known count past x)

record AllOf (past : List Step) (t : Traced) (v : Volume) : Type 0 where
  log : IsLogOf t.world.log v
  asked : AreOf (asks_of past) v
  marked : MarksOf t.world v
  met : AreMet (owed past) (IsLate t.world) t.world.log v
  wait : AllWait v
  agree : HasAsksOf t.world v
  fine : AllFine (WasServed past t.world) None v

all_of : (k : net.Config) (count : ℕ) (past : List Step) (t : Traced) (it : Witness) → QuietHolds k count past t it → OnSome (AllOf past t) it.volume
all_of k count past t it h = go it.volume h.met.failures.log h.met.right h.met.crashes.marked h.met.met h.wait h.asks.agree h.unserved.fine
  where
    go : (o : Option Volume) → OnSome (IsLogOf t.world.log) o → OnSome (AreOf (asks_of past)) o → OnSome (MarksOf t.world) o →
        OnSome (AreMet (owed past) (IsLate t.world) t.world.log) o → OnSome AllWait o → OnSome (HasAsksOf t.world) o →
        OnSome (AllFine (WasServed past t.world) None) o → OnSome (AllOf past t) o
    go None p q r m u y z = tt
    go (Some v) p q r m u y z = record { log = p; asked = q; marked = r; met = m; wait = u; agree = y; fine = z }

quiet_on : (k : net.Config) (count : ℕ) → IsGiven (Known count) (QuietHolds k count) QuietToo
unfolding QuietToo led_by
quiet_on k count past t e sc it f g h = (
  on_more (AllOf past t) (λ v. AreTaken is_quiesced (steps_of it v (step t e sc)) v) (λ v m. by v m (event_answers t.world e sc f)) it.volume
      (all_of k count past t it h),
  record {
    met = met_kept past t e sc it f g.0 h.met;
    asks = asks_kept past t e sc it f g.1.0 h.asks;
    wait = after_wait it past (step t e sc) it.volume h.met.right h.wait;
    unserved = (none_on k count past t e sc it f g.1.1 h.unserved).1;
  },
)
  where
    by : (v : Volume) → AllOf past t v → AnswersOf t.world e sc → AreTaken is_quiesced (steps_of it v (step t e sc)) v
    by v m (GivesNone q) = event_none is_quiesced only_quiesced t.world it v sc.seen e (subst (λ gs. NoneOf is_quiesced gs) (sym q) tt)
    by v m (Steps r) =
        event_quiet k count past t e sc f it h.unserved.facts h.met g.1.0.0 v m.log m.asked m.marked m.met m.wait g.0.0.0 r m.agree
        (open_left past t e sc it f h.asks) g.0.1.1 (and_true (all_answered_once past (step t e sc) [] sc.seen) (all_followed sc.seen) g.1.1.1.0).1 m.fine

pub quiesced_answers_are_taken : EveryRunIsSafe → InEveryRun PagesAfter → InEveryRun (StepsAreTaken is_quiesced)
unfolding QuietToo begun
quiesced_answers_are_taken safe pages k clients servers disks blocks form es head events =
    let t : Traced = traced (fresh_world k clients servers disks blocks form) in
    let count : ℕ = clients + servers in
    let kept : IsSafeRun (fresh_world k clients servers disks blocks form) es = safe k clients servers disks blocks form es head events in
    given_in (Known count) (QuietHolds (terms_of k) count) QuietToo (quiet_on (terms_of k) count) es t
    (record {
      met = met_begins k clients servers disks blocks form;
      asks = asks_begin k clients servers disks blocks form;
      wait = refl;
      unserved = none_begins k clients servers disks blocks form head;
    })
    (throughout_both losses.Known (λ past x. (FatesHold x.after.world × PlacesHold x.after.world) × none.Known count past x) [] (steps es t)
    (losses.known_in k clients servers disks blocks form es head kept (pages k clients servers disks blocks form es head events))
    (throughout_both (λ past x. FatesHold x.after.world × PlacesHold x.after.world) (none.Known count) [] (steps es t)
    (throughout_both (λ past x. FatesHold x.after.world) (λ past x. PlacesHold x.after.world) [] (steps es t) (fates_law k clients servers disks blocks form es)
    (places_law k clients servers disks blocks form es head))
    (none.known_in k clients servers disks blocks form es head events kept)))
