-- In every run an ask that is answered `nofile`, and came after a server had refused a request for
-- its file before the inode was given, has noticed that the file didn't exist: an operation of the
-- file for which the request was sent was open from then on, and an ask that came meanwhile shares
-- what it had noticed.
use Rattle.st_lemmas.proofs.Words
use Words.{◌≡◌, ◌⊎◌, ℕ, ◌+◌, ◌≤◌, ◌<◌, arith, Bool, true, false, not, ◌&&◌, ◌==◌, List, [], ◌∷◌, ◌++◌, Option, Some, None, Ok, refl, sym, ap, ◌∙◌, subst, inl, inr}
use Words.{eq-eqb, eqb-true, filter, length, list_all, map, nat_le, nat_lt, AppAnswer, Ask, Body, ClientId, ClientInput, Event, FileId, GrantNo, Message, Mode, Operation, Request, ServerId, Stage}
use Words.answers
use Words.asks
use Words.bodies
use Words.inputs
use Words.nodes
use Words.stages
use Words.why
use Words.ClientState as cs
use Words.ClientState.{Association, ClientSession}
use Words.Events.{WorldTurn, world_step}
use Words.History.{Traced, traced, traced_after}
use Words.Keys.{client, same_server, server_node}
use Words.Lists.{Has}
use Words.Lookups.{or_left, or_right, some_is}
use Words.Members.{has_right}
use Words.Names as names
use Words.Safety.{Step, all_answered_once, all_followed, step}
use Words.Server.{ServerNode, Stable}
use Words.Tables.{all_pass, and_both, and_true, not_true}
use Words.Truth.{below_or_not, client_is, clash}
use Words.World.{World, WorldClient, all_servers, clock_of, fresh_world, node_of, site_of}
use Rattle.st_protocol.specs.Assoc as net
use Rattle.st_promises.specs.Safe.{EveryRunIsSafe}
use Rattle.st_trace.specs.Server.Edits.{file_in}
use Rattle.st_laws_steps.specs.Client.Losses.{Fit}
use Rattle.st_laws_leases.specs.Dates.Dates.{messages}
use Rattle.st_laws_refine.specs.Server.Pair.{terms_of}
use Rattle.st_laws_requests.specs.Cuts.Cuts.{AsksFor, AssociationOk, Early, Waits, WaitsAt, view}
use Rattle.st_laws_extents.specs.CutRequests.Asks.{AsksStand, Of}
use Rattle.st_laws_extents.specs.CutRequests.Law.{gifts}
use Rattle.st_laws_extents.specs.CutRequests.World.{IsServed}
use Rattle.st_laws_names.specs.Keys.{behind_thefts, now_at}
use Rattle.st_laws_names.proofs.Facts.{FactsHold}
use Rattle.st_laws_volume.specs.AnswerKinds.{IsOfUndone}
use Rattle.st_laws_volume.specs.Asks.{AsksOf, HasAsksOf}
use Rattle.st_laws_volume.specs.LateFiles.{IsOfLateFile, LateFilesAreMissed}
use Rattle.st_laws_volume.specs.Logs.{InEveryRun}
use Rattle.st_laws_volume.specs.NoFileAnswers.{CameLater}
use Rattle.st_laws_volume.specs.Options.{OnSome}
use Rattle.st_laws_volume.specs.Refusals.{asks_before}
use Rattle.st_laws_volume.specs.Seen.{of_event}
use Rattle.st_laws_volume.specs.StepKinds.{AtEachStep}
use Rattle.st_laws_volume.specs.Trees.{HasTreesOf}
use Rattle.st_laws_volume.specs.VolumeRuns.{size_of}
use Rattle.st_laws_volume.specs.Witness.{Witness, begun, led_by, steps_of}
use Rattle.st_laws_volume.proofs.AnswerCauses.{IsOfFile, IsRefusal, Says}
use Rattle.st_laws_volume.proofs.AnswerFacts.{FactsOf, Known, facts_begin, known_in}
use Rattle.st_laws_volume.proofs.AnswerLines.{LastsInside, step_of}
use Rattle.st_laws_volume.proofs.AskWords.{file_words, server_words, sync_words}
use Rattle.st_laws_volume.proofs.AwaitedReplies.{IsWaiting, WaitsFor}
use Rattle.st_laws_volume.proofs.AwaitedKinds.{works}
use Rattle.st_laws_volume.proofs.AwaitedSteps.{HeardTells}
use Rattle.st_laws_volume.proofs.AwaitedWorlds.{AwaitsOf, Idle, awaits_begin, awaits_on}
use Rattle.st_laws_volume.proofs.AskedWaits.{GrantedBody}
use Rattle.st_laws_volume.proofs.Carried.{IsGiven, given_in}
use Rattle.st_laws_volume.proofs.ChangeLines.{on_both}
use Rattle.st_laws_volume.proofs.EventAnswers.{Given, Stepping, event_answers}
use Rattle.st_laws_volume.proofs.EventClients.{IsSentTo, SiteStep}
use Rattle.st_laws_volume.proofs.FileReplies.{Lacks, lacks}
use Rattle.st_laws_volume.proofs.GoneFiles.{GoneHold, names_at, no_file}
use Rattle.st_laws_volume.proofs.GrantEvents.{AreUnder, under_after, under_begins}
use Rattle.st_laws_volume.proofs.LateAsks.{OpenFor, OperationFor, came_before, open_for, operation_for}
use Rattle.st_laws_volume.proofs.MarksStay.{AllMarked, marked, run_marked, step_marked}
use Rattle.st_laws_volume.proofs.NoFileAnswers as missing
use Rattle.st_laws_volume.proofs.NoFileAnswers.{AllOlds, AllToo, MissingHold, all_too, missing_on, olds_last, olds_run}
use Rattle.st_laws_volume.proofs.NoticesStay.{AllOld, its_missed, marks_begin, missed_lasts, own_mark}
use Rattle.st_laws_volume.proofs.OpenAnswers.{OfAnswers, open_left}
use Rattle.st_laws_volume.proofs.Options.{on_more}
use Rattle.st_laws_volume.proofs.OutstandingReads.{AllClean, clean_begins, clean_on}
use Rattle.st_laws_volume.proofs.ReadRanges.{is_in_range}
use Rattle.st_laws_volume.proofs.RefusedRequests.{RefusedBy, refused_under}
use Rattle.st_laws_volume.proofs.SessionEpochs.{EpochsRight}
use Rattle.st_laws_volume.proofs.SharedMarks.{MissedSpread, missed_after, missed_begins, of_this}
use Rattle.st_laws_volume.proofs.StepAnswers as stepping
use Rattle.st_laws_volume.proofs.StepAnswers.{before, event_answered, start}
use Rattle.st_laws_volume.proofs.StuckSites.{SitesStay, event_stays, stuck_begin}
use Rattle.st_laws_volume.proofs.Trees.{trees_begin}
use Rattle.st_laws_volume.proofs.TreeTurns.{thefts_stable}
use Rattle.st_laws_volume.proofs.UngivenFiles.{IsKnown, IsRefused, IsUnder, known_by, known_on, none_later}
use Rattle.st_volume.specs.declared.step.VolumeStep.{VolumeStep}
use Rattle.st_volume.specs.declared.step.VolumeStep.TheVariants as kinds
use Rattle.st_volume.specs.Pages.{same_file}
use Rattle.st_volume.specs.Volume as volume
use Rattle.st_volume.specs.Volume.{Pending, Volume, is_of_client, run}

-- A request is outstanding at a client, and its server refused it, since it had no such file and had
-- not given the inode yet.
pub record Refusing (past : List Step) (w : World) (c : ClientId) (f : FileId) : Type 0 where
  pub site : WorldClient
  pub at : site_of w c ≡ Some site
  pub runs : site.node.running ≡ true
  pub association : Association
  pub among : Has association site.node.state.associations
  pub server : association.server ≡ f.server
  pub session : ClientSession
  pub has : association.session ≡ Some session
  pub request : Request
  pub outstanding : session.requests.asked ≡ Some request
  pub n : ℕ
  pub by : RefusedBy past c association.server request.body (bodies.Nack why.NoFile f.ino n)
  pub of_life : by.life_ ≡ association.life.0
  pub of_epoch : by.epoch_ ≡ session.epoch.0
  pub of_number : by.number_ ≡ request.number
  pub ungiven : by.served.serves.old.state.stable.names.next ≤ f.ino
  pub above : nat_lt 0 f.ino ≡ true

-- What such a reply tells: the file of the request, which wasn't there.
module _ (past : List Step) (c : ClientId) (s : ServerId) (body : Body) (ino n : ℕ)
    (z : RefusedBy past c s body (bodies.Nack why.NoFile ino n)) where
  l : Lacks (behind_thefts z.y.before.world s
      z.served.serves.old.state) z.served.sent.message.body ino
  l =
      lacks (behind_thefts z.y.before.world s
      z.served.serves.old.state) (now_at z.y.before.world s) z.served.sent.message.header
      z.served.sent.message.body ino n z.served.serves.replied

  absent : names.is_file z.served.serves.old.state.stable.names ino ≡ false
  absent =
      sym (ap (λ (x : Stable). names.is_file x.names ino)
      (thefts_stable z.served.serves.old.state (now_at z.y.before.world s))) ∙ l.none

  its_file : file_in body ≡ Some ino
  its_file = ap file_in (sym z.asks) ∙ l.file

-- the asks of a file, but its syncs
abbrev which : FileId → Ask → Bool
which f ask = of_this f ask && not (volume.is_sync ask)

-- no ask but a cut or one for a name has a request of its own
no_lock : (ask : Ask) (ino : ℕ) (mode : Mode) → AsksFor ask (bodies.Acquire ino mode) → ⊥
no_lock (asks.Cut f p) ino mode k = k
no_lock (asks.Name s n) ino mode k = k
no_lock (asks.Write f p b) ino mode k = k
no_lock (asks.Patch f p at b) ino mode k = k
no_lock (asks.Read f p) ino mode k = k
no_lock (asks.Sync f) ino mode k = k

-- As an event begins, each open ask of the file but its syncs has noticed that.
module _ (k : net.Config) (count_ : ℕ) (past : List Step) (t : Traced)
    (facts : FactsHold k count_ past t) (stay : SitesStay t.world) (v : Volume) (c : ClientId)
    (f : FileId) (r : Refusing past t.world c f)
    (awaits : AwaitsOf (IsKnown past t.world c) past t.world c)
    (old : AllOld r.by.y (Some v)) (spread : MissedSpread c f v) (agree : HasAsksOf t.world v)
    (count : ℕ) (low : count ≤ length (filter (λ x. x.0.0 == c.0) v.asked)) where
  abbrev s : ServerId
  s = r.association.server

  abbrev os : List Operation
  os = r.site.node.state.operations

  abbrev its_life : ℕ
  its_life = r.association.life.0

  abbrev its_epoch : ℕ
  its_epoch = r.session.epoch.0

  abbrev IdleHere : ClientSession → Type 0
  IdleHere = Idle r.site.node.state.config (clock_of t.world (nodes.Client c)) s os

  -- no grant of the file came since then
  refused : IsRefused past c s its_life its_epoch r.request.number f.ino
  refused =
      subst (λ n. IsRefused past c s its_life its_epoch n f.ino) r.of_number
      (subst (λ n. IsRefused past c s its_life n r.by.number_ f.ino) r.of_epoch
      (subst (λ n. IsRefused past c s n r.by.epoch_ r.by.number_ f.ino) r.of_life
      (record {
        y = r.by.y;
        among = r.by.among;
        n = r.n;
        served = r.by.served;
        ungiven = r.ungiven;
      })))

  stands : AsksStand (IsServed t.world c)
      (gifts k count_ t.world facts.changes_.names_.all.base.all c) s its_life its_epoch
      r.session.requests r.session.cutting r.session.due
  stands =
      subst (Of (AsksStand (IsServed t.world c)
      (gifts k count_ t.world facts.changes_.names_.all.base.all c)) s its_life) r.has
      (facts.changes_.names_.all.base.asks c r.site r.at r.association r.among)

  unknown : IsKnown past t.world c s f.ino → ⊥
  unknown h =
      none_later past t facts.changes_.names_.all.base.cuts c r.site r.at r.runs r.association
      r.among r.session r.has r.request r.outstanding
      (let l = stands.last r.request r.outstanding in omega (arith, l))
      (h.later its_life its_epoch r.request.number refused)

  -- one that came before the refusal
  early_missed : (a : Pending) → Has a v.pending → is_of_client c a ≡ true →
      of_this f a.ask ≡ true → a.op ≤ asks_before r.by.y c → a.missed ≡ true
  early_missed a i own q l =
      own_mark (asks_before r.by.y a.client) (of_this f) its_missed missed_lasts v a i
      (old.missed f.server r.by.served.serves.old f.ino
      (ap (node_of r.by.y.before.world) (sym r.server) ∙ r.by.served.serves.was)
      (absent past c s r.request.body f.ino r.n r.by) r.above a.client)
      (subst (λ (d : ClientId). a.op ≤ asks_before r.by.y d) (sym (client_is a.client c own)) l) q

  -- an operation of the file is an ask of it
  worked : (o : Operation) (ask : Ask) (ino : ℕ) → ask ≡ o.ask → ino ≡ f.ino →
      works s ino o ≡ true → of_this f ask ≡ true
  worked o ask ino e i q =
      ap (λ x. same_file (volume.file_of x) f) e
      ∙ (ap (λ x. same_file x f)
      (file_words s ino o.ask (and_true (cs.is_on s ino o) (not (cs.is_sync o.ask)) q).0)
      ∙ and_both (s.0 == f.server.0) (ino == f.ino)
      (eq-eqb s.0 f.server.0 (ap (λ (x : ServerId). x.0) r.server)) (eq-eqb ino f.ino i))

  -- each operation of the server that was sent waits for the reply
  unsent : (ino : ℕ) (mode : Mode) → r.request.body ≡ bodies.Acquire ino mode → (o : Operation) →
      Has o os → cs.is_of s o ≡ true → cs.is_sent o ≡ true → ⊥
  unsent ino mode e o i own sent = go o.stage refl sent
    where
      ok : AssociationOk past (messages t.world) c os r.association
      ok = (facts.changes_.names_.all.base.cuts.clients c r.site r.at).all r.runs r.association
          r.among

      waits : cs.is_asked s o ≡ true → AsksFor o.ask r.request.body
      waits q =
          (subst (λ x. WaitsAt (Early past c) s its_life its_epoch x o) r.outstanding
          (subst (λ x. Waits (Early past c) s its_life (view x) o) r.has (ok.waits o i q))).0

      go : (g : Stage) → o.stage ≡ g → cs.is_sent_at g ≡ true → ⊥
      go stages.Unsent w q = cc q
      go stages.Stuck w q = stay c r.site r.at o i w
      go stages.Sent w q =
          no_lock o.ask ino mode
          (subst (AsksFor o.ask) e
          (waits (and_both (cs.is_of s o) (cs.is_asked_at o.stage) own (ap cs.is_asked_at w))))

  module _ (a : Pending) (i : Has a v.pending) (own : is_of_client c a ≡ true)
      (its : which f a.ask ≡ true) where
    parts : (of_this f a.ask ≡ true) × (not (volume.is_sync a.ask) ≡ true)
    parts = and_true (of_this f a.ask) (not (volume.is_sync a.ask)) its

    -- the lease doesn't serve
    idle : (ino : ℕ) (mode : Mode) → r.request.body ≡ bodies.Acquire ino mode →
        IdleHere r.session → ⊥
    idle ino mode e z = go (z.1 o.operation o.there here)
      where
        o : OperationFor os a
        o = operation_for t.world v c r.site r.at agree a i own

        server : (cs.server_of a.ask).0 ≡ s.0
        server =
            ap (λ (x : ServerId). x.0) (sym (server_words a.ask))
            ∙ (eqb-true (volume.file_of a.ask).server.0 f.server.0
            (and_true ((volume.file_of a.ask).server.0 == f.server.0)
            ((volume.file_of a.ask).ino == f.ino) parts.0).0
            ∙ ap (λ (x : ServerId). x.0) (sym r.server))

        here : cs.is_of s o.operation ≡ true
        here = ap (λ x. same_server (cs.server_of x) s) o.ask ∙
            eq-eqb (cs.server_of a.ask).0 s.0 server

        go : (cs.is_sent o.operation ≡ true) ⊎ (cs.is_sync o.operation.ask ≡ true) → ⊥
        go (inl q) = unsent ino mode e o.operation o.there here q
        go (inr q) =
            clash (sync_words a.ask ∙ (ap cs.is_sync (sym o.ask) ∙ q))
            (not_true (volume.is_sync a.ask) parts.1)

    -- an operation waits for the lock
    shared : (ino : ℕ) → ino ≡ f.ino →
        IsWaiting (Early past c) (works s ino) s its_life its_epoch r.request.number os → a.missed ≡ true
    shared ino e w = by (below_or_not a.op b.open_.op)
      where
        b : OpenFor v c w.o
        b = open_for t.world v c r.site r.at agree w.o w.there

        file : of_this f b.open_.ask ≡ true
        file = worked w.o b.open_.ask ino b.ask e w.picked

        came : b.open_.op ≤ asks_before r.by.y c
        came =
            subst (λ n. n ≤ asks_before r.by.y c) (sym b.op)
            (came_before past c s r.request.body (bodies.Nack why.NoFile f.ino r.n) r.by its_life its_epoch
            r.request.number w.o.op r.of_life r.of_epoch r.of_number w.before)

        by : (a.op < b.open_.op) ⊎ (b.open_.op ≤ a.op) → a.missed ≡ true
        by (inl l) = early_missed a i own parts.0 (let z = came in omega (arith, l, z))
        by (inr l) =
            spread.later b.open_ a b.there i b.own own file parts.0 l
            (early_missed b.open_ b.there b.own file came)

    by_body : (body : Body) → r.request.body ≡ body → file_in body ≡ Some f.ino →
        WaitsFor (Early past c) (IsKnown past t.world c) IdleHere s its_life r.session
        r.association.store.extents os r.request.number body → a.missed ≡ true
    by_body (bodies.Acquire ino mode) e q (inl (inl w)) = shared ino (some_is q) w
    by_body (bodies.Acquire ino mode) e q (inl (inr z)) = absurd (idle ino mode e z)
    by_body (bodies.Acquire ino mode) e q (inr h) =
        absurd (unknown (subst (IsKnown past t.world c s) (some_is q) h))
    by_body (bodies.Map ino g p) e q h =
        absurd (unknown (subst (IsKnown past t.world c s) (some_is q) h))
    by_body (bodies.Cut ino g p) e q h =
        absurd (unknown (subst (IsKnown past t.world c s) (some_is q) h))
    by_body (bodies.Allocate ino g p n) e q h =
        absurd (unknown (subst (IsKnown past t.world c s) (some_is q) h.1.1))
    by_body body e q h = cc q

    all_missed : a.missed ≡ true
    all_missed =
        by_body r.request.body refl (its_file past c s r.request.body f.ino r.n r.by)
        ((awaits r.site r.at r.runs r.association r.among).waits r.session r.request r.has
        r.outstanding)

  pub file_marked : AllMarked c count (which f) its_missed missed_lasts v
  file_marked = (
    all_pass (marked c count (which f) its_missed missed_lasts) v.pending
        (λ a i. one a i (which f a.ask) refl (is_of_client c a) refl),
    low,
  )
    where
      one : (a : Pending) → Has a v.pending → (x : Bool) → which f a.ask ≡ x → (y : Bool) →
          is_of_client c a ≡ y → marked c count (which f) its_missed missed_lasts a ≡ true
      one a i false q y e = or_left (not (which f a.ask)) _ (ap not q)
      one a i true q false e =
          or_right (not (which f a.ask)) _
          (or_left (not (is_of_client c a && nat_le a.op count)) a.missed
          (ap (λ z. not (z && nat_le a.op count)) e))
      one a i true q true e =
          or_right (not (which f a.ask)) _
          (or_right (not (is_of_client c a && nat_le a.op count)) a.missed (all_missed a i e q))

-- What holds of an event.
module _ (k : net.Config) (count : ℕ) (past : List Step) (t : Traced) (e : Event) (sc : WorldTurn)
    (happened : world_step t.world e ≡ Ok sc)
    (facts : FactsHold k count past t)
    (n : FactsHold k count (past ++ step t e sc ∷ []) (traced_after e t sc))
    (right : EpochsRight t.world) (it : Witness)
    (gone : GoneHold past t it)
    (ranges_ : list_all (is_in_range count) (past ++ step t e sc ∷ []) ≡ true) (v : Volume)
    (agree : HasTreesOf t.world v) where
  abbrev w : World
  w = t.world

  abbrev past2 : List Step
  past2 = past ++ step t e sc ∷ []

  -- each open ask of a file of which a request is being refused
  abbrev Ready : Volume → Type 0
  Ready u = (c : ClientId) (f : FileId) → Refusing past t.world c f →
      AllMarked c (asks_before (step t e sc) c) (which f) its_missed missed_lasts u

  ready_of : (o : Option Volume) →
      ((c : ClientId) (f : FileId) → Refusing past t.world c f →
      OnSome (AllMarked c (asks_before (step t e sc) c) (which f) its_missed missed_lasts) o) →
      OnSome Ready o
  ready_of None h = tt
  ready_of (Some u) h = h

  abbrev Lasting : Volume → Type 0
  Lasting u = AllOlds past2 u × Ready u

  lasts : LastsInside Lasting
  lasts i u q h =
      on_both (AllOlds past2) Ready (volume.step u i) (olds_last past2 i u q h.0)
      (ready_of (volume.step u i)
      (λ c f r. step_marked c (asks_before (step t e sc) c) (which f) its_missed missed_lasts u i
      (h.1 c f r)))

  lasting_run : (its : List VolumeStep) (u : Volume) → Lasting u → OnSome Lasting (run its u)
  lasting_run its u h =
      on_both (AllOlds past2) Ready (run its u) (olds_run past2 its u h.0)
      (ready_of (run its u)
      (λ c f r. run_marked c (asks_before (step t e sc) c) (which f) its_missed missed_lasts its u
      (h.1 c f r)))

  abbrev Goal : VolumeStep → Volume → Type 0
  Goal = IsOfLateFile past w

  silent : OfAnswers Goal
  silent (kinds.Answered c op answer) u q = cc
  silent i u q = tt

  abbrev IsHere : Stepping w e sc → Volume → Given → Pending → Type 0
  IsHere = stepping.IsGiven k count past t e sc happened facts n right it v Lasting lasts Goal
      silent

  abbrev asks_then : Stepping w e sc → List (ℕ × Ask)
  asks_then = start k count past t e sc happened facts n right it v Lasting lasts Goal silent

  abbrev had : Stepping w e sc → List Association
  had = before k count past t e sc happened facts n right it v Lasting lasts Goal silent

  module _ (r : Stepping w e sc) (u : Volume) (g : Given) (a : Pending) (h : IsHere r u g a)
      (undone : a.result ≡ None)
      (late : CameLater past w (volume.file_of a.ask) a.client a.op) where
    -- as the missing files have it
    abbrev other : missing.IsHere k count past t e sc happened facts n right it gone ranges_ v agree
        r u g a
    other =
        record {
          all = h.all;
          found = h.found;
          asked = h.asked;
          undone = h.undone;
          trees = h.trees;
          lasting = h.lasting.0;
          fits = h.fits;
        }

    mine : a.client ≡ r.client
    mine =
        missing.mine k count past t e sc happened facts n right it gone ranges_ v agree r u g a
        other undone

    there : Has a u.pending
    there =
        (missing.there k count past t e sc happened facts n right it gone ranges_ v agree r u g a
        other undone).1

    module _ (x m : ℕ)
        (f : IsRefusal w r.client (asks_then r) r.input (had r) g.op why.NoFile x m IsOfFile) where
      abbrev its_server : ServerId
      its_server = f.association.server

      abbrev file : FileId
      file = record { server = its_server; ino = x }

      file_is : volume.file_of a.ask ≡ file
      file_is =
          missing.file_is k count past t e sc happened facts n right it gone ranges_ v agree r u g a
          other undone x m f

      under : (z : RefusedBy past r.client its_server f.request.body (bodies.Nack why.NoFile x m))
          × ((z.life_ ≡ f.association.life.0) × ((z.epoch_ ≡ f.session.epoch.0)
          × (z.number_ ≡ f.request.number)))
      under =
          refused_under k count past t facts r.client r.site r.at r.runs e r.input r.takes
          (asks_then r) g.op why.NoFile x m refl IsOfFile f

      abbrev old : ServerNode
      old = under.0.served.serves.old

      refusing : old.state.stable.names.next ≤ x → Refusing past w r.client file
      refusing l =
          record {
            site = r.site;
            at = r.at;
            runs = r.runs;
            association = f.association;
            among = f.among;
            server = refl;
            session = f.session;
            has = f.has;
            request = f.request;
            outstanding = f.outstanding;
            n = m;
            by = under.0;
            of_life = under.1.0;
            of_epoch = under.1.1.0;
            of_number = under.1.1.1;
            ungiven = l;
            above = missing.above k count past t e sc happened facts n right it gone ranges_ v agree
                r u g a other undone x m f;
          }

      noticed : old.state.stable.names.next ≤ x → a.missed ≡ true
      noticed l =
          own_mark (asks_before (step t e sc) a.client) (which file) its_missed missed_lasts u a
          there
          (subst
          (λ d. AllMarked d (asks_before (step t e sc) d) (which file) its_missed missed_lasts u)
          (sym mine) (h.lasting.1 r.client file (refusing l)))
          (missing.low k count past t e sc happened facts n right it gone ranges_ v agree r u g a
          other undone x m f)
          (and_both (of_this file a.ask) (not (volume.is_sync a.ask))
          (missing.which k count past t e sc happened facts n right it gone ranges_ v agree r u g a
          other undone x m f)
          (ap not
          (missing.no_sync k count past t e sc happened facts n right it gone ranges_ v agree r u g
          a other undone x m f)))

      -- a file whose inode was given by then never comes back
      given : x < old.state.stable.names.next → ⊥
      given l =
          clash
          (ap (names.is_file late.node.state.stable.names) (sym (ap (λ (y : FileId). y.ino) file_is))
          ∙ late.there)
          (no_file (names_at late.node) x
          (gone.gone under.0.y under.0.among its_server old late.node x under.0.served.serves.was
          (absent past r.client its_server f.request.body x m under.0) l
          (ap (node_of w) (sym (ap (λ (y : FileId). y.server) file_is)) ∙ late.at)))

      refused_missed : a.missed ≡ true
      refused_missed = go (below_or_not x old.state.stable.names.next)
        where
          go : (x < old.state.stable.names.next) ⊎ (old.state.stable.names.next ≤ x) →
              a.missed ≡ true
          go (inl l) = absurd (given l)
          go (inr l) = noticed l

    said : Says w r.client (asks_then r) r.input (had r) g.op answers.NoFile → a.missed ≡ true
    said (inr (x, m, f)) = refused_missed x m f
    said (inl z) =
        absurd
        (missing.none_there k count past t e sc happened facts n right it gone ranges_ v agree r u g
        a other undone z late.node
        (ap (node_of w)
        (sym (ap volume.server_of
        (missing.words k count past t e sc happened facts n right it gone ranges_ v agree r u g a
        other undone z.ask z.known) ∙ server_words z.ask)) ∙ late.at))

  one : (r : Stepping w e sc) (u : Volume) (g : Given) (a : Pending) → IsHere r u g a →
      Goal (step_of g) u
  one r u g a h = by g.answer h.undone h.fits.1
    where
      by : (answer : AppAnswer) → IsOfUndone (kinds.Answered g.client g.op answer) u →
          Says w r.client (asks_then r) r.input (had r) g.op answer →
          Goal (kinds.Answered g.client g.op answer) u
      by answers.NoFile undone says =
          λ b q l.
          let same = some_is (sym h.found ∙ q) in
          subst (λ (z : Pending). z.missed ≡ true) same
          (said r u g a h (undone refl a h.found)
          (subst (λ (z : Pending). CameLater past w (volume.file_of z.ask) z.client z.op)
          (sym same) l) says)
      by answer undone says = tt

-- In every run.
LateToo : List Step → Step → Witness → Type 0
LateToo past x it =
    OnSome (λ v. AtEachStep (IsOfLateFile past x.before.world) (steps_of it v x) v) it.volume

record LateHold (k : net.Config) (count : ℕ) (past : List Step) (t : Traced) (it : Witness) :
    Type 0 where
  missing_ : MissingHold k count past t it
  clean : AllClean t.world
  under : AreUnder past t.world t.world
  awaits : (c : ClientId) → AwaitsOf (IsKnown past t.world c) past t.world c
  spread : (c : ClientId) (f : FileId) → OnSome (MissedSpread c f) it.volume
  stay : SitesStay t.world

-- of the volume, if there is one
record AllHere (past past2 : List Step) (t : Traced) (v : Volume) : Type 0 where
  too : AllToo past past2 t v
  spread : (c : ClientId) (f : FileId) → MissedSpread c f v
  olds : (y : Step) → Has y past → AllOld y (Some v)

all_here : (past past2 : List Step) (t : Traced) (o : Option Volume) →
    OnSome (AllToo past past2 t) o →
    ((c : ClientId) (f : FileId) → OnSome (MissedSpread c f) o) →
    ((y : Step) → Has y past → AllOld y o) → OnSome (AllHere past past2 t) o
all_here past past2 t None a b d = tt
all_here past past2 t (Some v) a b d = record { too = a; spread = b; olds = d }

late_on : (k : net.Config) (count : ℕ) → IsGiven (Known count) (LateHold k count) LateToo
unfolding LateToo led_by
late_on k count past t e sc it f g h = (
  on_more (AllHere past past2 t) (λ v. AtEachStep (IsOfLateFile past t.world) (steps_of it v x) v)
      (λ v m. event_answered k count past t e sc f fh after.unserved.facts right it v
      (Lasting k count past t e sc f fh after.unserved.facts right it h.missing_.gone
      next.missing_.ranges_ v m.too.trees)
      (lasts k count past t e sc f fh after.unserved.facts right it h.missing_.gone
      next.missing_.ranges_ v m.too.trees) (IsOfLateFile past t.world)
      (silent k count past t e sc f fh after.unserved.facts right it h.missing_.gone
      next.missing_.ranges_ v m.too.trees)
      (one k count past t e sc f fh after.unserved.facts right it h.missing_.gone
      next.missing_.ranges_ v m.too.trees) m.too.all.log.lines m.too.all.agree m.too.all.asked
      (open_left past t e sc it f h.missing_.facts.asks)
      (and_true (all_answered_once past x [] sc.seen) (all_followed sc.seen) g.0.1.0).1
      m.too.all.fine
      (lasting_run k count past t e sc f fh after.unserved.facts right it h.missing_.gone
      next.missing_.ranges_ v m.too.trees (of_event t.world e) v (
        m.too.olds,
        λ c y r. file_marked k count past t fh h.stay v c y r (h.awaits c) (m.olds r.by.y r.by.among)
            (m.spread c y) m.too.all.agree (asks_before x c) (low v m.too.all.agree c),
      ))
      (event_answers t.world e sc f)) it.volume
      (all_here past past2 t it.volume (all_too k count past t e sc it h.missing_) h.spread
      h.missing_.marks.olds),
  next,
)
  where
    x : Step
    x = step t e sc

    past2 : List Step
    past2 = past ++ x ∷ []

    fh : FactsHold k count past t
    fh = h.missing_.facts.unserved.facts

    right : EpochsRight t.world
    right = h.missing_.facts.knows.right

    missing2 : MissingHold k count (past ++ step t e sc ∷ []) (traced_after e t sc)
        (led_by it (step t e sc))
    missing2 = (missing_on k count past t e sc it f g h.missing_).1

    after : FactsOf k count (past ++ step t e sc ∷ []) (traced_after e t sc)
        (led_by it (step t e sc))
    after = missing2.facts

    grown : (m : Message) → Has m (messages t.world) → Has m (messages sc.world)
    grown m i =
        after.unserved.facts.changes_.names_.all.base.cuts.grown x
        (has_right past (x ∷ []) x (inl refl)) m i

    fits : (c : ClientId) (site : WorldClient) → site_of t.world c ≡ Some site →
        (a : Association) → Has a site.node.state.associations →
        Fit a
    fits c site at a i = (h.missing_.facts.asks.fates.lives.lives.sites c site at).fit a i

    tells : (c : ClientId) (r : SiteStep t.world sc c) →
        HeardTells (IsKnown past2 sc.world c) r.site.node.state.associations r.input
    tells c r = go r.input r.comes
      where
        its : (m : Message) → Has m (messages t.world) → m.header.to ≡ c.0 → (a : Association)
            (y : ClientSession) → Has a r.site.node.state.associations → a.session ≡ Some y →
            m.header.from ≡ server_node a.server → m.header.life ≡ a.life.0 →
            m.header.epoch ≡ y.epoch.0 → (ino : ℕ) (z : GrantNo) (mode : Mode) →
            m.body ≡ bodies.Granted ino z mode → IsKnown past2 sc.world c a.server ino
        its m among to a y i has from life epoch ino z mode body =
            known_on past t e sc f grown c a.server ino
            (known_by past t fh.changes_.names_.all.base.cuts c r.site r.there r.runs a i y has ino
            (subst (λ n. IsUnder past t.world a.server n c a.life.0 ino) epoch
            (subst (λ n. IsUnder past t.world a.server m.header.epoch c n ino) life
            (subst (λ d. IsUnder past t.world a.server m.header.epoch d m.header.life ino)
            (ap (λ n. record { 0 = n }) to)
            (subst
            (GrantedBody (IsUnder past t.world a.server m.header.epoch (client m.header.to)
            m.header.life)) body (h.under.sent m among a.server from))))))

        go : (i : ClientInput) → IsSentTo t.world c i →
            HeardTells (IsKnown past2 sc.world c) r.site.node.state.associations i
        go (inputs.Control m) s = its m (s m refl).0 (s m refl).1
        go inputs.Tick s = tt
        go (inputs.App op ask) s = tt
        go (inputs.Done number result) s = tt

    low : (v : Volume) → HasAsksOf t.world v → (c : ClientId) →
        asks_before x c ≤ length (filter (λ y. y.0.0 == c.0) v.asked)
    low v agree c = let e = ap (λ (a : AsksOf). a.count) (agree c) in no e
      where
        no : length (filter (λ y. y.0.0 == c.0) v.asked) ≡ asks_before x c →
            asks_before x c ≤ length (filter (λ y. y.0.0 == c.0) v.asked)
        no e = omega (arith, e)

    next : LateHold k count (past ++ step t e sc ∷ []) (traced_after e t sc)
        (led_by it (step t e sc))
    next =
        record {
          missing_ = missing2;
          clean = clean_on t.world e sc f fits h.clean;
          under = under_after past t e sc f grown h.missing_.facts.knows.dated
              h.missing_.gone.trees_.sound fh.changes_.pairs.pasts h.under;
          awaits = λ c. awaits_on past t e sc f fh.changes_.names_.all.base.cuts h.clean c
              (IsKnown past t.world c) (IsKnown past2 sc.world c)
              (λ s ino z. known_on past t e sc f grown c s ino z) (tells c) (h.awaits c);
          spread = λ c y. missed_after c y it x it.volume (h.spread c y);
          stay = event_stays k count past t fh h.stay e sc f;
        }

pub late_files_are_missed : EveryRunIsSafe → InEveryRun LateFilesAreMissed
unfolding LateToo begun
late_files_are_missed safe k clients servers disks blocks form es head events =
    let t : Traced = traced (fresh_world k clients servers disks blocks form) in
    let count : ℕ = clients + servers in
    given_in (Known count) (LateHold (terms_of k) count) LateToo (late_on (terms_of k) count) es t
    (record {
      missing_ = record {
        facts = facts_begin k clients servers disks blocks form head;
        marks = marks_begin k clients servers disks blocks form;
        gone = record {
          trees_ = trees_begin k clients servers disks blocks form;
          gone = λ y i. absurd i;
        };
        ranges_ = refl;
      };
      clean = clean_begins k clients servers disks blocks form;
      under = under_begins k clients servers disks blocks form;
      awaits = λ c. awaits_begin k clients servers disks blocks form c
          (IsKnown [] (fresh_world k clients servers disks blocks form) c);
      spread = λ c f. missed_begins c f (map (size_of t.world) (all_servers t.world));
      stay = stuck_begin k clients servers disks blocks form;
    })
    (known_in k clients servers disks blocks form es head events
    (safe k clients servers disks blocks form es head events))
