-- In every run the volume takes each answer `notholder`: it goes to a remove that has noticed that
-- another file has its name. The answer goes to an operation that waited for a reply, and whose
-- request a server refused in an earlier event. No server refuses a cut so, nor a remove of the file
-- that has the name.
use Rattle.st_lemmas.proofs.Words
use Words.{◌≡◌, ℕ, ◌+◌, ◌≤◌, true, ◌==◌, List, [], ◌∷◌, ◌++◌, Option, Some, None, Ok, refl, sym, ap, ◌∙◌, subst, inr}
use Words.{eq-eqb, eqb-true, find, AppAnswer, Ask, ClientId, Event, Operation, ServerId}
use Words.answers
use Words.bodies
use Words.outputs
use Words.seen
use Words.why
use Words.Client as cl
use Words.ClientState as cs
use Words.ClientState.{Association, asks_cut_or_remove}
use Words.Events.{WorldTurn, world_step}
use Words.History.{Traced, traced, traced_after}
use Words.Lists.{Has}
use Words.Lookups.{some_is}
use Words.Names.{is_file, lookup}
use Words.Safety.{Promise, Step, all_answered_once, all_followed, step}
use Words.Server.{ServerNode, ServerTurn, Stable}
use Words.Tables.{and_both, and_true, found_at}
use Words.Truth.{client_is}
use Words.World.{World, fresh_world, node_of, numbered}
use Rattle.st_base.specs.declared.config.Config.{Config}
use Rattle.st_protocol.specs.Assoc as net
use Rattle.st_promises.specs.Safe.{EveryRunIsSafe}
use Rattle.st_laws_refine.specs.Server.Pair.{terms_of}
use Rattle.st_laws_requests.specs.Cuts.Cuts.{AsksFor, AssociationOk, Early, Waits, WaitsAt, asks_of}
use Rattle.st_laws_requests.specs.Cuts.Cuts as cuts
use Rattle.st_laws_cuts.proofs.Words.{asked_more}
use Rattle.st_laws_names.specs.Keys.{behind_thefts, now_at}
use Rattle.st_laws_names.proofs.Facts.{FactsHold}
use Rattle.st_laws_names.proofs.World.{Asked, waits_at}
use Rattle.st_laws_volume.specs.AnswerKinds.{IsOfUndone, ResultsAreAnswered, is_not_holder}
use Rattle.st_laws_volume.specs.Logs.{InEveryRun}
use Rattle.st_laws_volume.specs.Options.{OnSome}
use Rattle.st_laws_volume.specs.Refusals.{asks_before, removes_other}
use Rattle.st_laws_volume.specs.Seen.{of_event}
use Rattle.st_laws_volume.specs.StepKinds.{AtEachStep, AtEachStepOf, StepsAreTaken}
use Rattle.st_laws_volume.specs.Witness.{Witness, begun, led_by, of_delivery, of_lines, steps_of}
use Rattle.st_laws_volume.proofs.AnswerCauses.{IsAskedOf, IsRefusal, Says}
use Rattle.st_laws_volume.proofs.AnswerFacts.{AllOf, FactsOf, Known, all_of, facts_begin, facts_on, known_in}
use Rattle.st_laws_volume.proofs.AnswerLines.{LastsInside, Takes, at_parts, lines_more, step_of}
use Rattle.st_laws_volume.proofs.AnswerSteps.{delivery_silent, event_silent}
use Rattle.st_laws_volume.proofs.Carried.{IsGiven, given_in}
use Rattle.st_laws_volume.proofs.EventAnswers.{Given, Stepping, event_answers}
use Rattle.st_laws_volume.proofs.FileReplies.{IsUnder, removes_not}
use Rattle.st_laws_volume.proofs.HeldRefusals.{AllMeant, HeldHold, OtherMeant, held_begins, held_kept}
use Rattle.st_laws_volume.proofs.LastingSessions.{in_lines, of_outputs}
use Rattle.st_laws_volume.proofs.LateAsks.{came_before}
use Rattle.st_laws_volume.proofs.LeftAnswers as left_answers
use Rattle.st_laws_volume.proofs.LeftAnswers.{both_of, in_runs, taken_of, takes}
use Rattle.st_laws_volume.proofs.MarksStay.{run_marked, step_marked}
use Rattle.st_laws_volume.proofs.NoticesStay.{AllOther, MarksHold, its_other, marks_begin, marks_kept, other_lasts, own_mark}
use Rattle.st_laws_volume.proofs.OpenAnswers.{OfAnswers, at_both, at_silent, open_left}
use Rattle.st_laws_volume.proofs.Options.{on_more}
use Rattle.st_laws_volume.proofs.RefusedRequests.{IsUnder as IsUnderKey, RefusedBy, refused_under}
use Rattle.st_laws_volume.proofs.SessionEpochs.{EpochsRight}
use Rattle.st_laws_volume.proofs.StepAnswers as stepping
use Rattle.st_laws_volume.proofs.StepAnswers.{before, event_answered, start}
use Rattle.st_laws_volume.proofs.TreeTurns.{thefts_stable}
use Rattle.st_laws_volume.proofs.UnheldAsks.{Waited, unheld_waited}
use Rattle.st_laws_volume.proofs.UnresultedAnswers.{results_are_answered}
use Rattle.st_volume.specs.declared.step.VolumeStep.{VolumeStep}
use Rattle.st_volume.specs.declared.step.VolumeStep.TheVariants as kinds
use Rattle.st_volume.specs.Volume as volume
use Rattle.st_volume.specs.Volume.{Pending, Volume, answers_so, is_ask, run}

-- What open asks had noticed of names stays so within an event.
abbrev Others : List Step → Volume → Type 0
Others past u =
    (y : Step) → Has y past → (s : ServerId) (node : ServerNode) (dir : ℕ) (name : List ℕ) (ino : ℕ) → node_of y.before.world s ≡ Some node →
    lookup node.state.stable.names dir name ≡ Ok ino → is_file node.state.stable.names ino ≡ true → (c : ClientId) → AllOther y s dir name ino c u

others_of : (past : List Step) (o : Option Volume) →
    ((y : Step) → Has y past → (s : ServerId) (node : ServerNode) (dir : ℕ) (name : List ℕ) (ino : ℕ) → node_of y.before.world s ≡ Some node →
    lookup node.state.stable.names dir name ≡ Ok ino → is_file node.state.stable.names ino ≡ true → (c : ClientId) → OnSome (AllOther y s dir name ino c) o) →
    OnSome (Others past) o
others_of past None h = tt
others_of past (Some u) h = h

others_last : (past : List Step) → LastsInside (Others past)
others_last past it u q h =
    others_of past (volume.step u it)
    (λ y i s node dir name ino at l f c.
    step_marked c (asks_before y c) (removes_other s dir name ino) its_other other_lasts u it (h y i s node dir name ino at l f c))

others_run : (past : List Step) (its : List VolumeStep) (u : Volume) → Others past u → OnSome (Others past) (run its u)
others_run past its u h =
    others_of past (run its u)
    (λ y i s node dir name ino at l f c.
    run_marked c (asks_before y c) (removes_other s dir name ino) its_other other_lasts its u (h y i s node dir name ino at l f c))

-- The answer goes to an ask that has noticed so.
abbrev IsOther : VolumeStep → Volume → Type 0
IsOther (kinds.Answered c op answers.NotHolder) u = (a : Pending) → find (is_ask c op) u.pending ≡ Some a → a.other ≡ true
IsOther it u = Unit {0}

-- What holds of an event.
module _ (k : net.Config) (count : ℕ) (past : List Step) (t : Traced) (e : Event) (sc : WorldTurn) (happened : world_step t.world e ≡ Ok sc)
    (facts : FactsHold k count past t) (n : FactsHold k count (past ++ step t e sc ∷ []) (traced_after e t sc)) (right : EpochsRight t.world) (it : Witness)
    (meant : AllMeant past t.world) (v : Volume) where
  abbrev w : World
  w = t.world

  abbrev past2 : List Step
  past2 = past ++ step t e sc ∷ []

  -- if it is one of the event
  abbrev Goal : VolumeStep → Volume → Type 0
  Goal (kinds.Answered c op answers.NotHolder) u =
      Has (seen.Answered c op answers.NotHolder) sc.seen → (a : Pending) → find (is_ask c op) u.pending ≡ Some a → a.other ≡ true
  Goal i u = Unit {0}

  silent : OfAnswers Goal
  silent (kinds.Answered c op answer) u q = cc
  silent i u q = tt

  silent_other : OfAnswers IsOther
  silent_other (kinds.Answered c op answer) u q = cc
  silent_other i u q = tt

  abbrev IsHere : Stepping w e sc → Volume → Given → Pending → Type 0
  IsHere = stepping.IsGiven k count past t e sc happened facts n right it v (Others past) (others_last past) Goal silent

  abbrev asks_then : Stepping w e sc → List (ℕ × Ask)
  asks_then = start k count past t e sc happened facts n right it v (Others past) (others_last past) Goal silent

  abbrev had : Stepping w e sc → List Association
  had = before k count past t e sc happened facts n right it v (Others past) (others_last past) Goal silent

  module _ (r : Stepping w e sc) (u : Volume) (g : Given) (a : Pending) (h : IsHere r u g a) (file m : ℕ)
      (f : IsRefusal w r.client (asks_then r) r.input (had r) g.op why.NotHolder file m IsAskedOf)
      (seen_ : Has (seen.Answered g.client g.op answers.NotHolder) sc.seen) where
    abbrev c : ClientId
    c = r.client

    abbrev s : ServerId
    s = f.association.server

    abbrev os : List Operation
    os = r.site.node.state.operations

    -- the ask that is answered
    there : (is_ask g.client g.op a ≡ true) × Has a u.pending
    there = found_at (is_ask g.client g.op) u.pending a h.found

    keys : ((a.client.0 == g.client.0) ≡ true) × ((a.op == g.op) ≡ true)
    keys = and_true (a.client.0 == g.client.0) (a.op == g.op) there.0

    mine : a.client ≡ c
    mine = client_is a.client g.client keys.0 ∙ h.fits.0

    -- its operation
    waited : Waited os g.op
    waited =
        unheld_waited r.site.node.state r.now f.message g.op
        (subst (λ j. Has (outputs.Answer g.op answers.NotHolder) (cl.client_step r.site.node.state r.now j).out) f.comes
        (of_outputs c (cl.client_step r.site.node.state r.now r.input).out (record { client = g.client; op = g.op; answer = answers.NotHolder })
        (subst (Has (record { client = g.client; op = g.op; answer = answers.NotHolder })) r.gives (in_lines sc.seen g.client g.op answers.NotHolder seen_))).1)

    abbrev o : Operation
    o = waited.o

    asked : numbered (asks_of past c) o.op ≡ Some o.ask
    asked = (facts.changes_.names_.all.base.cuts.clients c r.site r.at).asked o waited.there

    ask_is : a.ask ≡ f.ask
    ask_is = some_is (sym h.asked ∙ (ap (λ d. numbered (asks_of past2 d) g.op) h.fits.0 ∙ h.all c (g.op, f.ask) f.known))

    own_ask : o.ask ≡ f.ask
    own_ask =
        some_is
        (sym (asked_more past (step t e sc) c o.op o.ask asked)
        ∙ (ap (λ j. numbered (asks_of past2 c) j) waited.is ∙ h.all c (g.op, f.ask) f.known))

    waits_here : cs.is_asked s o ≡ true
    waits_here =
        and_both (cs.is_of s o) (cs.is_asked_at o.stage)
        (eq-eqb (cs.server_of o.ask).0 s.0 (ap (λ q. (cs.server_of q).0) own_ask ∙ ap (λ (x : ServerId). x.0) (sym f.concerns.1))) waited.asked

    good : AssociationOk past (Rattle.st_laws_leases.specs.Dates.Dates.messages w) c os f.association
    good = (facts.changes_.names_.all.base.cuts.clients c r.site r.at).all r.runs f.association f.among

    waits : AsksFor o.ask f.request.body × Early past c s f.association.life.0 f.session.epoch.0 f.request.number o.op
    waits =
        subst (λ q. WaitsAt (Early past c) s f.association.life.0 f.session.epoch.0 q o) f.outstanding
        (subst (λ y. Waits (Early past c) s f.association.life.0 (cuts.view y) o) f.has (good.waits o waited.there waits_here))

    abbrev key : Asked past w c o.op
    key =
        record {
          at = w;
          among = inr refl;
          server = s;
          life_ = f.association.life.0;
          epoch_ = f.session.epoch.0;
          number_ = f.request.number;
          waits = waits_at w c r.site r.at f.association f.among o waited.there waits_here f.session f.has f.request f.outstanding;
        }

    -- its request was refused
    by : (z : RefusedBy past c s f.request.body (bodies.Nack why.NotHolder file m))
        × IsUnderKey k count past t facts c r.site r.at r.runs e r.input r.takes (asks_then r) g.op why.NotHolder file m refl IsAskedOf f z
    by = refused_under k count past t facts c r.site r.at r.runs e r.input r.takes (asks_then r) g.op why.NotHolder file m refl IsAskedOf f

    abbrev z : RefusedBy past c s f.request.body (bodies.Nack why.NotHolder file m)
    z = by.0

    other : OtherMeant past w c s z.life_ z.epoch_ z.number_ file z.served.sent.message.body
    other = meant z.y z.among c s z.life_ z.epoch_ z.number_ file m z.served (ap asks_cut_or_remove z.asks ∙ f.concerns.0)

    same_op : other.op ≡ o.op
    same_op =
        facts.keys.one c other.op o.op other.k key
        (record {
          server = other.same.server;
          life_ = other.same.life_ ∙ by.1.0;
          epoch_ = other.same.epoch_ ∙ by.1.1.0;
          number_ = other.same.number_ ∙ by.1.1.1;
        })

    which : removes_other s other.dir other.name file a.ask ≡ true
    which =
        ap (removes_other s other.dir other.name file)
        (ask_is ∙ (sym own_ask ∙ some_is (sym asked ∙ (ap (λ j. numbered (asks_of past c) j) (sym same_op) ∙ other.asked))))
        ∙ other.other

    low : a.op ≤ asks_before z.y a.client
    low =
        subst (λ (d : ClientId). a.op ≤ asks_before z.y d) (sym mine)
        (subst (λ j. j ≤ asks_before z.y c) (waited.is ∙ sym (eqb-true a.op g.op keys.1))
        (came_before past c s f.request.body (bodies.Nack why.NotHolder file m) z f.association.life.0 f.session.epoch.0 f.request.number o.op by.1.0
        by.1.1.0 by.1.1.1 waits.1))

    -- what the server found then
    abbrev old : ServerNode
    old = z.served.serves.old

    abbrev turn : ServerTurn
    turn = behind_thefts z.y.before.world s old.state

    found : IsUnder turn z.served.sent.message.header other.dir other.name other.g file
    found =
        removes_not turn (now_at z.y.before.world s) z.served.sent.message.header z.served.sent.message.body other.dir other.name other.g file m other.is
        z.served.serves.replied

    same_names : turn.state.stable.names ≡ old.state.stable.names
    same_names = ap (λ (y : Stable). y.names) (thefts_stable old.state (now_at z.y.before.world s))

    noticed : a.other ≡ true
    noticed =
        own_mark (asks_before z.y a.client) (removes_other s other.dir other.name file) its_other other_lasts u a there.1
        (h.lasting z.y z.among s old other.dir other.name file z.served.serves.was
        (ap (λ y. lookup y other.dir other.name) (sym same_names) ∙ found.found) (ap (λ y. is_file y file) (sym same_names) ∙ found.file) a.client) low which

  one : (r : Stepping w e sc) (u : Volume) (g : Given) (a : Pending) → IsHere r u g a → Goal (step_of g) u
  one r u g a h = by_answer g.answer refl h.fits.1
    where
      by_answer : (answer : AppAnswer) → g.answer ≡ answer → Says w r.client (asks_then r) r.input (had r) g.op answer →
          Goal (kinds.Answered g.client g.op answer) u
      by_answer answers.NotHolder q says =
          λ i b y. subst (λ (x : Pending). x.other ≡ true) (some_is (sym h.found ∙ y)) (noticed r u g a h says.0 says.1 says.2 i)
      by_answer answer q says = tt

  -- each answer is one of the event
  told : (c : ClientId) (op : ℕ) (answer : AppAnswer) → Has (seen.Answered c op answer) sc.seen → (u : Volume) → Goal (kinds.Answered c op answer) u →
      IsOther (kinds.Answered c op answer) u
  told c op answers.NotHolder i u h = h i
  told c op answer i u h = tt

  all_told : AtEachStep Goal (steps_of it v (step t e sc)) v → AtEachStep IsOther (steps_of it v (step t e sc)) v
  all_told h =
      at_both IsOther first (served ++ lines) v (at_silent IsOther silent_other first v (event_silent w e))
      (on_more (AtEachStep Goal (served ++ lines)) (AtEachStep IsOther (served ++ lines))
      (λ y j. let b = at_parts Goal served lines y j in
      at_both IsOther served lines y (at_silent IsOther silent_other served y (delivery_silent it.behind v w e))
      (on_more (AtEachStep Goal lines) (AtEachStep IsOther lines)
      (λ x i. lines_more IsOther silent_other Goal w (λ o. Has o sc.seen) told sc.seen (λ o z. z) x i) (run served y) b.1)) (run first v)
      (at_parts Goal first (served ++ lines) v h).1)
    where
      first : List VolumeStep
      first = of_event w e

      served : List VolumeStep
      served = of_delivery it.behind v w e

      lines : List VolumeStep
      lines = of_lines w sc.seen

-- In every run.
OthersToo : List Step → Step → Witness → Type 0
OthersToo past x it = OnSome (λ v. AtEachStep IsOther (steps_of it v x) v) it.volume

record UnheldHold (k : net.Config) (count : ℕ) (past : List Step) (t : Traced) (it : Witness) : Type 0 where
  facts : FactsOf k count past t it
  held : HeldHold k count past t it
  marks : MarksHold past t it

-- of the volume, if there is one
record AllToo (past : List Step) (t : Traced) (v : Volume) : Type 0 where
  all : AllOf past t v
  others : Others past v

others_on : (k : net.Config) (count : ℕ) → IsGiven (Known count) (UnheldHold k count) OthersToo
unfolding OthersToo
others_on k count past t e sc it f g h = (
  on_more (AllToo past t) (λ v. AtEachStep IsOther (steps_of it v x) v)
      (λ v m. all_told k count past t e sc f fh n right it h.held.others v
      (event_answered k count past t e sc f fh n right it v (Others past) (others_last past)
      (Goal k count past t e sc f fh n right it h.held.others v) (silent k count past t e sc f fh n right it h.held.others v)
      (one k count past t e sc f fh n right it h.held.others v) m.all.log.lines m.all.agree m.all.asked (open_left past t e sc it f h.facts.asks)
      (and_true (all_answered_once past x [] sc.seen) (all_followed sc.seen) g.0.1.0).1 m.all.fine (others_run past (of_event t.world e) v m.others)
      (event_answers t.world e sc f))) it.volume
      (too it.volume (all_of k count past t it h.facts)
      (others_of past it.volume (λ y i s node dir name ino at l q c. (h.marks.olds y i).other s node dir name ino at l q c))),
  record { facts = after; held = held_kept k count past t e sc it f g h.held; marks = marks_kept past t e sc it f (g.0.1.1.0, g.1.1.1) h.marks },
)
  where
    x : Step
    x = step t e sc

    fh : FactsHold k count past t
    fh = h.facts.unserved.facts

    right : EpochsRight t.world
    right = h.facts.knows.right

    after : FactsOf k count (past ++ step t e sc ∷ []) (traced_after e t sc) (led_by it (step t e sc))
    after = facts_on k count past t e sc it f g h.facts

    n : FactsHold k count (past ++ step t e sc ∷ []) (traced_after e t sc)
    n = after.unserved.facts

    too : (o : Option Volume) → OnSome (AllOf past t) o → OnSome (Others past) o → OnSome (AllToo past t) o
    too None a b = tt
    too (Some v) a b = record { all = a; others = b }

abbrev OthersAreNoticed : Promise
OthersAreNoticed past x = AtEachStepOf IsOther past x

others_are_noticed : EveryRunIsSafe → InEveryRun OthersAreNoticed
unfolding OthersToo begun
others_are_noticed safe k clients servers disks blocks form es head events =
    let count : ℕ = clients + servers in
    given_in (Known count) (UnheldHold (terms_of k) count) OthersToo (others_on (terms_of k) count) es
    (traced (fresh_world k clients servers disks blocks form))
    (record {
      facts = facts_begin k clients servers disks blocks form head;
      held = held_begins k clients servers disks blocks form head;
      marks = marks_begin k clients servers disks blocks form;
    })
    (known_in k clients servers disks blocks form es head events (safe k clients servers disks blocks form es head events))

-- So it is taken.
abbrev Fact : VolumeStep → Volume → Type 0
Fact it u = IsOfUndone it u × IsOther it u

unheld_taken : (it : VolumeStep) (u : Volume) → left_answers.Known Fact it u → Takes is_not_holder it u
unheld_taken (kinds.Answered c op answer) u h = by answer h
  where
    by : (answer : AppAnswer) → left_answers.Known Fact (kinds.Answered c op answer) u → Takes is_not_holder (kinds.Answered c op answer) u
    by answers.NotHolder h =
        λ y. takes u c op answers.NotHolder h.0 h.1.0 (λ a q. ap (answers_so u a answers.NotHolder) (h.1.1.0 refl a q) ∙ h.1.1.1 a q)
    by answer h = λ y. cc y
unheld_taken it u h = λ y. cc y

pub not_holder_answers_are_taken : EveryRunIsSafe → InEveryRun (StepsAreTaken is_not_holder)
not_holder_answers_are_taken safe =
    in_runs ResultsAreAnswered OthersAreNoticed is_not_holder safe
    (λ past x l o a b. taken_of is_not_holder Fact unheld_taken past x l o (both_of IsOfUndone IsOther past x a b)) (results_are_answered safe)
    (others_are_noticed safe)
