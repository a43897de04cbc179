-- In every run each ask that is answered `nospace` has noticed that its server was full: as it
-- refused the request it had no room in the volume, an operation of the page for which the request
-- was sent was open from then on, and an ask that came meanwhile shares what it had noticed.
use Rattle.st_lemmas.proofs.Words
use Words.{◌≡◌, ◌⊎◌, ℕ, ◌+◌, ◌≤◌, ◌<◌, arith, Bool, true, false, not, ◌&&◌, ◌==◌, List, [], ◌∷◌, ◌++◌, map, Option, Some, None, Ok, refl, sym, ap, ◌∙◌, subst, inl, inr}
use Words.{eq-eqb, eqb-true, filter, find, leb-true, length, nat_le, AppAnswer, Ask, Body, ClientId, Event, FileId, GrantNo, Operation, PageNo, Request, ServerId}
use Words.answers
use Words.asks
use Words.bodies
use Words.inputs
use Words.nodes
use Words.why
use Words.ClientState as cs
use Words.ClientState.{Association, ClientSession}
use Words.Events.{WorldTurn, world_step}
use Words.Extents.{free, is_mapped}
use Words.History.{Traced, traced, traced_after}
use Words.Keys.{same_page, same_server}
use Words.Lists.{Has}
use Words.Lookups.{or_left, or_right, some_is}
use Words.Numbers.{numbered_below, numbered_has}
use Words.Safety as safety
use Words.Safety.{Promise, Step, all_answered_once, all_followed, step, steps}
use Words.Tables.{all_pass, and_both, and_true, found_at, has_append, has_filter, has_filter_in, has_map, has_map_in}
use Words.Truth.{below_or_not, client_is, clash}
use Words.World.{World, WorldClient, all_servers, clock_of, fresh_world, site_of}
use Rattle.st_rules.specs.declared.client.ClientInput.{ClientInput}
use Rattle.st_protocol.specs.Assoc as net
use Rattle.st_promises.specs.Safe.{EveryRunIsSafe}
use Rattle.st_laws_leases.specs.Dates.Dates.{message_in}
use Rattle.st_laws_pages.specs.Disks.Runs.{PagesAfter}
use Rattle.st_laws_pages.proofs.Asks.Client.{key}
use Rattle.st_laws_pages.proofs.Asks.World.{asks_of}
use Rattle.st_laws_refine.specs.Server.Pair.{terms_of}
use Rattle.st_laws_requests.specs.Cuts.Cuts.{Early, Keyed}
use Rattle.st_laws_names.proofs.Facts.{FactsHold}
use Rattle.st_laws_volume.specs.AnswerKinds.{IsOfUndone}
use Rattle.st_laws_volume.specs.Asks.{AsksOf, HasAsksOf, ask_key, at_site, operation_key}
use Rattle.st_laws_volume.specs.FullServers.{AreFull, FullServersAreNoticed, FullServersHaveNoRoom, IsFullNoticed}
use Rattle.st_laws_volume.specs.NoSpaceAnswers.{IsNoSpace, ServersWereFull}
use Rattle.st_laws_volume.specs.Logs.{InEveryRun}
use Rattle.st_laws_volume.specs.PageBlocks.{ServedHaveRoom, ServedPagesAreWanted}
use Rattle.st_laws_volume.specs.Options.{OnSome}
use Rattle.st_laws_volume.specs.Refusals.{asks_before}
use Rattle.st_laws_volume.specs.Seen.{of_event}
use Rattle.st_laws_volume.specs.StepKinds.{AtEachStep, AtEachStepOf}
use Rattle.st_laws_volume.specs.VolumeRuns.{size_of}
use Rattle.st_laws_volume.specs.Witness.{Witness, begun, led_by, led_from, led_to, steps_of, volume_after}
use Rattle.st_laws_volume.proofs.AnswerCauses.{IsOfPage, IsRefusal, Says}
use Rattle.st_laws_volume.proofs.AnswerFacts.{AllOf, FactsOf, Known, all_of, facts_begin, facts_on, known_in}
use Rattle.st_laws_volume.proofs.AnswerLines.{LastsInside, step_of}
use Rattle.st_laws_volume.proofs.AskClient.{coming}
use Rattle.st_laws_volume.proofs.AwaitedReplies.{IsWaiting, WaitsFor}
use Rattle.st_laws_volume.proofs.AwaitedKinds.{writes}
use Rattle.st_laws_volume.proofs.AwaitedSteps.{Quiet}
use Rattle.st_laws_volume.proofs.AwaitedWorlds.{AwaitsOf, Idle, awaits_begin, awaits_on}
use Rattle.st_laws_volume.proofs.Carried.{IsGiven, IsLed, given_in, led_more}
use Rattle.st_laws_volume.proofs.ChangeLines.{on_both}
use Rattle.st_laws_volume.proofs.EventAnswers.{Given, Stepping, event_answers}
use Rattle.st_laws_volume.proofs.FullNotices.{Lacks, OldFull, at_server, full_lasts, its_full, old_now, old_on}
use Rattle.st_laws_volume.proofs.FullRoom.{full_servers_have_no_room}
use Rattle.st_laws_volume.proofs.MarksStay.{AllMarked, marked, run_marked, step_marked}
use Rattle.st_laws_volume.proofs.NoSpaceAnswers as space
use Rattle.st_laws_volume.proofs.NoSpaceAnswers.{servers_were_full}
use Rattle.st_laws_volume.proofs.Notices.{NoticesHold, notices_begin, notices_kept}
use Rattle.st_laws_volume.proofs.NoticesStay.{own_mark}
use Rattle.st_laws_volume.proofs.OpenAnswers.{OfAnswers, open_left}
use Rattle.st_laws_volume.proofs.Options.{on_more}
use Rattle.st_laws_volume.proofs.OutstandingReads.{AllClean, clean_begins, clean_on}
use Rattle.st_laws_volume.proofs.PageRequests.{AllOne, fresh_one, one_step}
use Rattle.st_laws_volume.proofs.ReadPages.{throughout_both, throughout_more}
use Rattle.st_laws_volume.proofs.RefusedRequests.{RefusedBy}
use Rattle.st_laws_volume.proofs.RoomWanted.{served_pages_are_wanted}
use Rattle.st_laws_volume.proofs.SessionEpochs.{EpochsRight}
use Rattle.st_laws_volume.proofs.SharedMarks.{FullSpread, at_page, full_after, full_begins}
use Rattle.st_laws_volume.proofs.StepAnswers as stepping
use Rattle.st_laws_volume.proofs.StepAnswers.{Any, any_lasts, before, event_answered, start, start_is}
use Rattle.st_volume.specs.declared.step.VolumeStep.{VolumeStep}
use Rattle.st_volume.specs.declared.step.VolumeStep.TheVariants as kinds
use Rattle.st_volume.specs.Pages.{place_of}
use Rattle.st_volume.specs.Volume as volume
use Rattle.st_volume.specs.Volume.{Pending, Volume, is_ask, is_of_client, open_of, run}

-- The open asks of a client are its pending operations, one by one.
pub record OpenFor (v : Volume) (c : ClientId) (o : Operation) : Type 0 where
  pub open_ : Pending
  pub there : Has open_ v.pending
  pub own : is_of_client c open_ ≡ true
  pub op : open_.op ≡ o.op
  pub ask : open_.ask ≡ o.ask

pub record OperationFor (os : List Operation) (a : Pending) : Type 0 where
  pub operation : Operation
  pub there : Has operation os
  pub op : operation.op ≡ a.op
  pub ask : operation.ask ≡ a.ask

module _ (w : World) (v : Volume) (c : ClientId) (site : WorldClient) (at : site_of w c ≡ Some site) (agree : HasAsksOf w v) where
  keys : map ask_key (open_of v c) ≡ map operation_key site.node.state.operations
  keys = ap (λ (a : AsksOf). a.pending) (agree c) ∙ ap (λ o. (at_site o).pending) at

  pub open_for : (o : Operation) → Has o site.node.state.operations → OpenFor v c o
  open_for o i =
      let y = has_filter (is_of_client c) v.pending z.0 z.1 in
      record { open_ = z.0; there = y.0; own = y.1; op = ap (λ (k : ℕ × Ask). k.0) (sym z.2); ask = ap (λ (k : ℕ × Ask). k.1) (sym z.2) }
    where
      z : (a : Pending) × Has a (open_of v c) × (operation_key o ≡ ask_key a)
      z =
          has_map ask_key (open_of v c) (operation_key o)
          (subst (Has (operation_key o)) (sym keys) (has_map_in operation_key site.node.state.operations o i))

  pub operation_for : (a : Pending) → Has a v.pending → is_of_client c a ≡ true → OperationFor site.node.state.operations a
  operation_for a i own =
      record { operation = z.0; there = z.1; op = ap (λ (k : ℕ × Ask). k.0) (sym z.2); ask = ap (λ (k : ℕ × Ask). k.1) (sym z.2) }
    where
      z : (o : Operation) × Has o site.node.state.operations × (ask_key a ≡ operation_key o)
      z =
          has_map operation_key site.node.state.operations (ask_key a)
          (subst (Has (ask_key a)) keys (has_map_in ask_key (open_of v c) a (has_filter_in (is_of_client c) v.pending a i own)))

-- An operation that was not sent, and isn't a sync, isn't left where the lease doesn't serve.
pub not_left : (w : World) (right : EpochsRight w) (c : ClientId) (site : WorldClient) → site_of w c ≡ Some site → (s : ServerId) (o : Operation) →
    Has o site.node.state.operations → cs.is_of s o ≡ true → cs.is_cut_or_name o.ask ≡ false → cs.is_sync o.ask ≡ false →
    Quiet s site.node.state.operations → ⊥
not_left w right c site at s o i own change sync quiet = go (quiet o i own)
  where
    go : (cs.is_sent o ≡ true) ⊎ (cs.is_sync o.ask ≡ true) → ⊥
    go (inl e) = clash ((right.clients c site at).sent o i e) change
    go (inr e) = clash e sync

-- An operation of a page.
of_page : (s : ServerId) (f : FileId) (p : PageNo) (ask : Ask) → s ≡ f.server → cs.changes_page s f.ino p ask ≡ true → at_page f p ask ≡ true
of_page s f p ask e q = by ask q
  where
    its : (g : FileId) (r : PageNo) → (same_server g.server s && ((g.ino == f.ino) && same_page r p)) ≡ true →
        (((f.server.0 == g.server.0) && (f.ino == g.ino)) && (p.0 == r.0)) ≡ true
    its g r q =
        let a = and_true (same_server g.server s) ((g.ino == f.ino) && same_page r p) q in
        let b = and_true (g.ino == f.ino) (same_page r p) a.1 in
        and_both ((f.server.0 == g.server.0) && (f.ino == g.ino)) (p.0 == r.0)
        (and_both (f.server.0 == g.server.0) (f.ino == g.ino)
        (eq-eqb f.server.0 g.server.0 (sym (eqb-true g.server.0 s.0 a.0 ∙ ap (λ (z : ServerId). z.0) e)))
        (eq-eqb f.ino g.ino (sym (eqb-true g.ino f.ino b.0))))
        (eq-eqb p.0 r.0 (sym (eqb-true r.0 p.0 b.1)))

    by : (ask : Ask) → cs.changes_page s f.ino p ask ≡ true → at_page f p ask ≡ true
    by (asks.Write g r bytes) q = its g r q
    by (asks.Patch g r at bytes) q = its g r q
    by (asks.Read g r) q = cc q
    by (asks.Sync g) q = cc q
    by (asks.Cut g r) q = cc q
    by (asks.Name v ask) q = cc q

-- what an ask of the page is
record PageAsk (s : ServerId) (ask : Ask) : Type 0 where
  own : same_server (cs.server_of ask) s ≡ true
  change : cs.is_cut_or_name ask ≡ false
  sync : cs.is_sync ask ≡ false
  server : at_server s ask ≡ true

page_ask : (s : ServerId) (f : FileId) (p : PageNo) (ask : Ask) → s ≡ f.server → at_page f p ask ≡ true → PageAsk s ask
page_ask s f p ask e q = by ask q
  where
    its : (g : FileId) (r : PageNo) → (((f.server.0 == g.server.0) && (f.ino == g.ino)) && (p.0 == r.0)) ≡ true → same_server g.server s ≡ true
    its g r q =
        eq-eqb g.server.0 s.0
        (sym
        (ap (λ (z : ServerId). z.0) e
        ∙ eqb-true f.server.0 g.server.0
        (and_true (f.server.0 == g.server.0) (f.ino == g.ino) (and_true ((f.server.0 == g.server.0) && (f.ino == g.ino)) (p.0 == r.0) q).0).0))

    by : (ask : Ask) → at_page f p ask ≡ true → PageAsk s ask
    by (asks.Write g r bytes) q = record { own = its g r q; change = refl; sync = refl; server = its g r q }
    by (asks.Patch g r at bytes) q = record { own = its g r q; change = refl; sync = refl; server = its g r q }
    by (asks.Read g r) q = cc q
    by (asks.Sync g) q = cc q
    by (asks.Cut g r) q = cc q
    by (asks.Name v ask) q = cc q

-- A request for a block is outstanding at a client, and its server refused it, since it had no free block.
pub record Refusing (past : List Step) (w : World) (c : ClientId) (f : FileId) (p : PageNo) : Type 0 where
  pub site : WorldClient
  pub at : site_of w c ≡ Some site
  pub runs : site.node.running ≡ true
  pub association : Association
  pub among : Has association site.node.state.associations
  pub server : association.server ≡ f.server
  pub session : ClientSession
  pub has : association.session ≡ Some session
  pub request : Request
  pub outstanding : session.requests.asked ≡ Some request
  pub g : GrantNo
  pub n : ℕ
  pub body : request.body ≡ bodies.Allocate f.ino g p n
  pub reply : Body
  pub by : RefusedBy past c association.server request.body reply
  pub of_life : by.life_ ≡ association.life.0
  pub of_epoch : by.epoch_ ≡ session.epoch.0
  pub of_number : by.number_ ≡ request.number
  pub full : free by.served.serves.old.state.stable.extents ≡ 0
  pub unmapped : is_mapped by.served.serves.old.state.stable.extents (record { server = association.server; ino = f.ino }) p ≡ false

-- Nothing more is asked of a file here.
abbrev Anything : ServerId → ℕ → Type 0
Anything s ino = Unit {0}

count_at : (w : World) (c : ClientId) → safety.asks_at (site_of w c) ≡ (at_site (site_of w c)).count
count_at w c = go (site_of w c)
  where
    go : (o : Option WorldClient) → safety.asks_at o ≡ (at_site o).count
    go None = refl
    go (Some site) = refl

-- an operation that had come before a request was sent, had come before its server served it
pub came_before : (past : List Step) (c : ClientId) (s : ServerId) (body reply : Body) (z : RefusedBy past c s body reply) (life epoch number op : ℕ) →
    z.life_ ≡ life → z.epoch_ ≡ epoch → z.number_ ≡ number → Early past c s life epoch number op → op ≤ asks_before z.y c
came_before past c s body reply z life epoch number op a b d early =
    subst (λ n. op ≤ n) (count_at z.y.before.world c)
    (leb-true op (safety.asks_at (site_of z.y.before.world c))
    (early z.y z.served.sent.message z.among
    (has_map_in message_in z.y.before.world.net.messages z.served.sent
    (numbered_has z.y.before.world.net.messages z.served.index z.served.sent z.served.is)) keyed))
  where
    k : Keyed c s z.life_ z.epoch_ z.number_ z.served.sent.message
    k = z.served.serves.keyed

    keyed : Keyed c s life epoch number z.served.sent.message
    keyed = record { between = k.between; of_life = k.of_life ∙ a; of_epoch = k.of_epoch ∙ b; under = k.under ∙ d }

-- As an event begins, each open ask of the page has noticed that.
module _ (past : List Step) (t : Traced) (v : Volume) (right : EpochsRight t.world) (c : ClientId) (f : FileId) (p : PageNo)
    (r : Refusing past t.world c f p) (awaits : AwaitsOf Anything past t.world c) (old : OldFull r.by.y (Some v)) (spread : FullSpread c f p v)
    (agree : HasAsksOf t.world v) (count : ℕ) (low : count ≤ length (filter (λ x. x.0.0 == c.0) v.asked)) where
  abbrev s : ServerId
  s = r.association.server

  abbrev os : List Operation
  os = r.site.node.state.operations

  waits : WaitsFor (Early past c) Anything (Idle r.site.node.state.config (clock_of t.world (nodes.Client c)) s os) s r.association.life.0 r.session r.association.store.extents os
      r.request.number (bodies.Allocate f.ino r.g p r.n)
  waits =
      subst
      (WaitsFor (Early past c) Anything (Idle r.site.node.state.config (clock_of t.world (nodes.Client c)) s os) s r.association.life.0 r.session r.association.store.extents os
      r.request.number) r.body
      ((awaits r.site r.at r.runs r.association r.among).waits r.session r.request r.has r.outstanding)

  lacking : Lacks r.by.y s
  lacking =
      record {
        block =
            record {
              client = c;
              life_ = r.by.life_;
              epoch_ = r.by.epoch_;
              number_ = r.by.number_;
              reply = r.reply;
              served = r.by.served;
              ino = f.ino;
              g = r.g;
              page = p;
              count = r.n;
              asks = r.by.asks ∙ r.body;
            };
        full = r.full;
        unmapped = r.unmapped;
      }

  -- one that came before the refusal
  early_full : (a : Pending) → Has a v.pending → is_of_client c a ≡ true → at_server s a.ask ≡ true → a.op ≤ asks_before r.by.y c → a.full ≡ true
  early_full a i own q l =
      own_mark (asks_before r.by.y a.client) (at_server s) its_full full_lasts v a i
      (old.full s lacking a.client)
      (subst (λ (d : ClientId). a.op ≤ asks_before r.by.y d) (sym (client_is a.client c own)) l) q

  all_full : (a : Pending) → Has a v.pending → is_of_client c a ≡ true → at_page f p a.ask ≡ true → a.full ≡ true
  all_full a i own q = go waits.1.0
    where
      its : PageAsk s a.ask
      its = page_ask s f p a.ask r.server q

      go : IsWaiting (Early past c) (writes s f.ino p) s r.association.life.0 r.session.epoch.0 r.request.number os
          ⊎ Idle r.site.node.state.config (clock_of t.world (nodes.Client c)) s os r.session → a.full ≡ true
      go (inr idle) =
          absurd
          (not_left t.world right c r.site r.at s o.operation o.there (ap (λ k. same_server (cs.server_of k) s) o.ask ∙ its.own)
          (ap cs.is_cut_or_name o.ask ∙ its.change) (ap cs.is_sync o.ask ∙ its.sync) idle.1)
        where
          o : OperationFor os a
          o = operation_for t.world v c r.site r.at agree a i own
      go (inl w) = by (below_or_not a.op b.open_.op)
        where
          b : OpenFor v c w.o
          b = open_for t.world v c r.site r.at agree w.o w.there

          page : at_page f p b.open_.ask ≡ true
          page = ap (at_page f p) b.ask ∙ of_page s f p w.o.ask r.server w.picked

          came : b.open_.op ≤ asks_before r.by.y c
          came =
              subst (λ n. n ≤ asks_before r.by.y c) (sym b.op)
              (came_before past c s r.request.body r.reply r.by r.association.life.0 r.session.epoch.0 r.request.number w.o.op r.of_life r.of_epoch
              r.of_number w.before)

          by : (a.op < b.open_.op) ⊎ (b.open_.op ≤ a.op) → a.full ≡ true
          by (inl l) = early_full a i own its.server (let z = came in omega (arith, l, z))
          by (inr l) =
              spread.later b.open_ a b.there i b.own own page q l
              (early_full b.open_ b.there b.own (page_ask s f p b.open_.ask r.server page).server came)

  pub page_marked : AllMarked c count (at_page f p) its_full full_lasts v
  page_marked = (all_pass (marked c count (at_page f p) its_full full_lasts) v.pending (λ a i. one a i (at_page f p a.ask) refl (is_of_client c a) refl), low)
    where
      one : (a : Pending) → Has a v.pending → (x : Bool) → at_page f p a.ask ≡ x → (y : Bool) → is_of_client c a ≡ y →
          marked c count (at_page f p) its_full full_lasts a ≡ true
      one a i false q y e = or_left (not (at_page f p a.ask)) _ (ap not q)
      one a i true q false e =
          or_right (not (at_page f p a.ask)) _ (or_left (not (is_of_client c a && nat_le a.op count)) a.full (ap (λ z. not (z && nat_le a.op count)) e))
      one a i true q true e =
          or_right (not (at_page f p a.ask)) _ (or_right (not (is_of_client c a && nat_le a.op count)) a.full (all_full a i e q))

-- An answer `nospace` goes to an ask that has noticed that its server was full.
abbrev IsFullAsk : VolumeStep → Volume → Type 0
IsFullAsk (kinds.Answered c op (answers.NoSpace left wanted)) u = (a : Pending) → find (is_ask c op) u.pending ≡ Some a → a.full ≡ true
IsFullAsk it u = Unit {0}

-- What holds of an event.
module _ (k : net.Config) (count : ℕ) (past : List Step) (t : Traced) (e : Event) (sc : WorldTurn) (happened : world_step t.world e ≡ Ok sc)
    (facts : FactsHold k count past t) (n : FactsHold k count (past ++ step t e sc ∷ []) (traced_after e t sc)) (right : EpochsRight t.world) (it : Witness)
    (single : AllOne t.world) (v : Volume) where
  abbrev w : World
  w = t.world

  -- each open ask of a page that is being refused
  abbrev Ready : Volume → Type 0
  Ready u = (c : ClientId) (f : FileId) (p : PageNo) → Refusing past t.world c f p →
      AllMarked c (asks_before (step t e sc) c) (at_page f p) its_full full_lasts u

  ready_of : (o : Option Volume) →
      ((c : ClientId) (f : FileId) (p : PageNo) → Refusing past t.world c f p →
      OnSome (AllMarked c (asks_before (step t e sc) c) (at_page f p) its_full full_lasts) o) → OnSome Ready o
  ready_of None h = tt
  ready_of (Some u) h = h

  ready_last : LastsInside Ready
  ready_last i u q h =
      ready_of (volume.step u i) (λ c f p r. step_marked c (asks_before (step t e sc) c) (at_page f p) its_full full_lasts u i (h c f p r))

  ready_run : (its : List VolumeStep) (u : Volume) → Ready u → OnSome Ready (run its u)
  ready_run its u h =
      ready_of (run its u) (λ c f p r. run_marked c (asks_before (step t e sc) c) (at_page f p) its_full full_lasts its u (h c f p r))

  silent : OfAnswers IsFullAsk
  silent (kinds.Answered c op answer) u q = cc
  silent i u q = tt

  abbrev IsHere : Stepping w e sc → Volume → Given → Pending → Type 0
  IsHere = stepping.IsGiven k count past t e sc happened facts n right it v Ready ready_last IsFullAsk silent

  abbrev asks_then : Stepping w e sc → List (ℕ × Ask)
  asks_then = start k count past t e sc happened facts n right it v Ready ready_last IsFullAsk silent

  abbrev had : Stepping w e sc → List Association
  had = before k count past t e sc happened facts n right it v Ready ready_last IsFullAsk silent

  module _ (r : Stepping w e sc) (u : Volume) (g : Given) (a : Pending) (h : IsHere r u g a) (undone : a.result ≡ None) (left wanted : ℕ)
      (f : IsRefusal w r.client (asks_then r) r.input (had r) g.op why.NoSpace left wanted IsOfPage) where
    -- as the server's refusal has it
    abbrev other : space.IsHere k count past t e sc happened facts n right it single v r u g a
    other = record { all = h.all; found = h.found; asked = h.asked; undone = h.undone; trees = h.trees; lasting = tt; fits = h.fits }

    abbrev lacks : space.LacksBlock
        (space.turn k count past t e sc happened facts n right it single v r u g a other undone left wanted f)
        (space.z k count past t e sc happened facts n right it single v r u g a other undone left wanted f).served.sent.message.body left wanted
    lacks = space.lacking k count past t e sc happened facts n right it single v r u g a other undone left wanted f

    abbrev its_file : FileId
    its_file = record { server = f.association.server; ino = lacks.ino }

    refusing : Refusing past t.world r.client its_file lacks.page
    refusing =
        record {
          site = r.site;
          at = r.at;
          runs = r.runs;
          association = f.association;
          among = f.among;
          server = refl;
          session = f.session;
          has = f.has;
          request = f.request;
          outstanding = f.outstanding;
          g = lacks.g;
          n = 1;
          body = space.body_is k count past t e sc happened facts n right it single v r u g a other undone left wanted f;
          reply = _;
          by = space.z k count past t e sc happened facts n right it single v r u g a other undone left wanted f;
          of_life = (space.under k count past t e sc happened facts n right it single v r u g a other undone left wanted f).1.0;
          of_epoch = (space.under k count past t e sc happened facts n right it single v r u g a other undone left wanted f).1.1.0;
          of_number = (space.under k count past t e sc happened facts n right it single v r u g a other undone left wanted f).1.1.1;
          full = space.was_full k count past t e sc happened facts n right it single v r u g a other undone left wanted f;
          unmapped = space.was_unmapped k count past t e sc happened facts n right it single v r u g a other undone left wanted f;
        }

    there : (is_ask g.client g.op a ≡ true) × Has a u.pending
    there = found_at (is_ask g.client g.op) u.pending a h.found

    mine : a.client ≡ r.client
    mine = space.mine k count past t e sc happened facts n right it single v r u g a other undone left wanted f

    noticed : a.full ≡ true
    noticed =
        own_mark (asks_before (step t e sc) a.client) (at_page its_file lacks.page) its_full full_lasts u a there.1
        (subst (λ d. AllMarked d (asks_before (step t e sc) d) (at_page its_file lacks.page) its_full full_lasts u) (sym mine)
        (h.lasting r.client its_file lacks.page refusing)) low page
      where
        page : at_page its_file lacks.page a.ask ≡ true
        page =
            ap (λ o. Rattle.st_volume.specs.Pages.is_any (Rattle.st_volume.specs.Pages.same_place (its_file, lacks.page)) o)
            (space.place k count past t e sc happened facts n right it single v r u g a other undone left wanted f)
            ∙ self
          where
            self : (((f.association.server.0 == f.association.server.0) && (lacks.ino == lacks.ino)) && (lacks.page.0 == lacks.page.0)) ≡ true
            self =
                and_both ((f.association.server.0 == f.association.server.0) && (lacks.ino == lacks.ino)) (lacks.page.0 == lacks.page.0)
                (and_both (f.association.server.0 == f.association.server.0) (lacks.ino == lacks.ino)
                (eq-eqb f.association.server.0 f.association.server.0 refl) (eq-eqb lacks.ino lacks.ino refl)) (eq-eqb lacks.page.0 lacks.page.0 refl)

        low : a.op ≤ asks_before (step t e sc) a.client
        low =
            go
            (has_append (map key r.site.node.state.operations) (coming r.input) (g.op, f.ask)
            (subst (Has (g.op, f.ask)) (start_is k count past t e sc happened facts n right it v Ready ready_last IsFullAsk silent r) f.known))
          where
            total : asks_before (step t e sc) a.client ≡ r.site.asks
            total = ap (λ d. (at_site (site_of w d)).count) mine ∙ ap (λ o. (at_site o).count) r.at

            none_comes : (i : ClientInput) → i ≡ inputs.Control f.message → Has (g.op, f.ask) (coming i) → ⊥
            none_comes (inputs.App op ask) q j = cc q
            none_comes (inputs.Control m) q j = absurd j
            none_comes inputs.Tick q j = absurd j
            none_comes (inputs.Done number o) q j = absurd j

            go : Has (g.op, f.ask) (map key r.site.node.state.operations) ⊎ Has (g.op, f.ask) (coming r.input) → a.op ≤ asks_before (step t e sc) a.client
            go (inr j) = absurd (none_comes r.input f.comes j)
            go (inl j) =
                let o = has_map key r.site.node.state.operations (g.op, f.ask) j in
                let y = (facts.changes_.names_.all.base.cuts.clients r.client r.site r.at).asked o.0 o.1 in
                let l = (numbered_below (asks_of past r.client) o.0.op o.0.ask y).1 in
                let total_ = (facts.changes_.names_.all.base.cuts.clients r.client r.site r.at).count in
                let i = ap (λ (p : ℕ × Ask). p.0) o.2 in
                let b = eqb-true a.op g.op (and_true (a.client.0 == g.client.0) (a.op == g.op) there.0).1 in
                let d = total in
                omega (arith, l, total_, i, b, d)

  one : (r : Stepping w e sc) (u : Volume) (g : Given) (a : Pending) → IsHere r u g a → IsFullAsk (step_of g) u
  one r u g a h = by g.answer h.undone h.fits.1
    where
      by : (answer : AppAnswer) → IsOfUndone (kinds.Answered g.client g.op answer) u →
          Says w r.client (asks_then r) r.input (had r) g.op answer → IsFullAsk (kinds.Answered g.client g.op answer) u
      by (answers.NoSpace left wanted) undone says =
          λ b q. subst (λ (z : Pending). z.full ≡ true) (some_is (sym h.found ∙ q)) (noticed r u g a h (undone refl a h.found) left wanted says)
      by answer undone says = tt

-- In every run.
LateToo : List Step → Step → Witness → Type 0
LateToo past x it = OnSome (λ v. AtEachStep IsFullAsk (steps_of it v x) v) it.volume

record LateHold (k : net.Config) (count : ℕ) (past : List Step) (t : Traced) (it : Witness) : Type 0 where
  facts : FactsOf k count past t it
  single : AllOne t.world
  led : IsLed past t it
  notices : NoticesHold past t it
  clean : AllClean t.world
  awaits : (c : ClientId) → AwaitsOf Anything past t.world c
  spread : (c : ClientId) (f : FileId) (p : PageNo) → OnSome (FullSpread c f p) it.volume
  olds : (y : Step) → Has y past → OldFull y it.volume

abbrev Given_ : ℕ → Promise
Given_ count past x = Known count past x × (FullServersHaveNoRoom past x × ServedPagesAreWanted past x)

-- of the volume, if there is one
record AllToo (past : List Step) (t : Traced) (v : Volume) : Type 0 where
  all : AllOf past t v
  spread : (c : ClientId) (f : FileId) (p : PageNo) → FullSpread c f p v
  olds : (y : Step) → Has y past → OldFull y (Some v)

late_on : (k : net.Config) (count : ℕ) → IsGiven (Given_ count) (LateHold k count) LateToo
unfolding LateToo led_by
late_on k count past t e sc it f g h = (
  on_more (AllToo past t) (λ v. AtEachStep IsFullAsk (steps_of it v x) v)
      (λ v m. event_answered k count past t e sc f fh after.unserved.facts right it v (Ready k count past t e sc f fh after.unserved.facts right it h.single v)
      (ready_last k count past t e sc f fh after.unserved.facts right it h.single v) IsFullAsk
      (silent k count past t e sc f fh after.unserved.facts right it h.single v) (one k count past t e sc f fh after.unserved.facts right it h.single v)
      m.all.log.lines m.all.agree m.all.asked (open_left past t e sc it f h.facts.asks)
      (and_true (all_answered_once past x [] sc.seen) (all_followed sc.seen) g.0.0.1.0).1 m.all.fine
      (ready_run k count past t e sc f fh after.unserved.facts right it h.single v (of_event t.world e) v
      (λ c f p r. page_marked past t v right c f p r (h.awaits c) (m.olds r.by.y r.by.among) (m.spread c f p) m.all.agree (asks_before x c)
      (low v m.all.agree c)))
      (event_answers t.world e sc f)) it.volume (all_too it.volume (all_of k count past t it h.facts) h.spread h.olds),
  record {
    facts = after;
    single = one_step t.world e sc f fits h.single;
    led = λ y i. led_more past x y ∙ ap (λ j. led_by j x) q;
    notices = notices_kept past t e sc it f tt h.notices;
    clean = clean_on t.world e sc f fits h.clean;
    awaits = λ c. awaits_on past t e sc f fh.changes_.names_.all.base.cuts h.clean c Anything Anything (λ s ino z. z) (λ r. told r.site.node.state.associations r.input) (h.awaits c);
    spread = λ c f p. full_after c f p it x it.volume (h.spread c f p);
    olds = λ y i. go y (has_append past (x ∷ []) y i);
  },
)
  where
    x : Step
    x = step t e sc

    fh : FactsHold k count past t
    fh = h.facts.unserved.facts

    right : EpochsRight t.world
    right = h.facts.knows.right

    after : FactsOf k count (past ++ step t e sc ∷ []) (traced_after e t sc) (led_by it (step t e sc))
    after = facts_on k count past t e sc it f g.0 h.facts

    fits : (c : ClientId) (site : WorldClient) → site_of t.world c ≡ Some site → (a : Association) → Has a site.node.state.associations →
        Rattle.st_laws_steps.specs.Client.Losses.Fit a
    fits c site at a i = (h.facts.asks.fates.lives.lives.sites c site at).fit a i

    q : led_to past x ≡ it
    q = h.led x refl

    told : (xs : List Association) (i : ClientInput) → Rattle.st_laws_volume.proofs.AwaitedSteps.HeardTells Anything xs i
    told xs (inputs.Control m) = λ a x i s l k d ino g mode z. tt
    told xs inputs.Tick = tt
    told xs (inputs.App op ask) = tt
    told xs (inputs.Done number r) = tt

    low : (v : Volume) → HasAsksOf t.world v → (c : ClientId) → asks_before x c ≤ length (filter (λ y. y.0.0 == c.0) v.asked)
    low v agree c = let e = ap (λ (a : AsksOf). a.count) (agree c) in no e
      where
        no : length (filter (λ y. y.0.0 == c.0) v.asked) ≡ asks_before x c → asks_before x c ≤ length (filter (λ y. y.0.0 == c.0) v.asked)
        no e = omega (arith, e)

    all_too : (o : Option Volume) → OnSome (AllOf past t) o → ((c : ClientId) (f : FileId) (p : PageNo) → OnSome (FullSpread c f p) o) →
        ((y : Step) → Has y past → OldFull y o) → OnSome (AllToo past t) o
    all_too None a b d = tt
    all_too (Some v) a b d = record { all = a; spread = b; olds = d }

    now : OldFull x it.volume
    now =
        old_now x it.volume (subst (λ (w : Witness). OnSome (AreFull t.world) w.volume) q g.1.0)
        (subst (λ (w : Witness). OnSome (ServedHaveRoom x) w.volume) q g.1.1) h.notices h.facts.asks.agree

    go : (y : Step) → Has y past ⊎ Has y (x ∷ []) → OldFull y (volume_after it x it.volume)
    go y (inl i) = old_on y it x it.volume (h.olds y i)
    go y (inr (inl e)) = subst (λ z. OldFull z (volume_after it x it.volume)) (sym e) (old_on x it x it.volume now)
    go y (inr (inr i)) = absurd i

-- With the refusal
abbrev Noticed : List Step → Step → Type 0
Noticed past x = AtEachStepOf IsFullAsk past x

both_noticed : (past : List Step) (it : VolumeStep) (u : Volume) → IsNoSpace past it u → IsFullAsk it u → IsFullNoticed past it u
both_noticed past (kinds.Answered c op answer) u h j = by answer h j
  where
    by : (answer : AppAnswer) → IsNoSpace past (kinds.Answered c op answer) u → IsFullAsk (kinds.Answered c op answer) u →
        IsFullNoticed past (kinds.Answered c op answer) u
    by (answers.NoSpace left wanted) h j = λ a q. record { refused = h a q; noticed = j a q }
    by answer h j = tt
both_noticed past it u h j = tt

each_noticed : (past : List Step) (its : List VolumeStep) (u : Volume) → AtEachStep (IsNoSpace past) its u → AtEachStep IsFullAsk its u →
    AtEachStep (IsFullNoticed past) its u
unfolding AtEachStep
each_noticed past [] u h k = tt
each_noticed past (it ∷ its) u h k = (
  both_noticed past it u h.0 k.0,
  on_more (λ v. AtEachStep (IsNoSpace past) its v × AtEachStep IsFullAsk its v) (AtEachStep (IsFullNoticed past) its)
      (λ v z. each_noticed past its v z.0 z.1) (volume.step u it)
      (on_both (AtEachStep (IsNoSpace past) its) (AtEachStep IsFullAsk its) (volume.step u it) h.1 k.1),
)

late_asks : EveryRunIsSafe → InEveryRun (λ past x. FullServersHaveNoRoom past x × ServedPagesAreWanted past x) → InEveryRun Noticed
unfolding LateToo begun led_from
late_asks safe room k clients servers disks blocks form es head events =
    let t : Traced = traced (fresh_world k clients servers disks blocks form) in
    let count : ℕ = clients + servers in
    given_in (Given_ count) (LateHold (terms_of k) count) LateToo (late_on (terms_of k) count) es t
    (record {
      facts = facts_begin k clients servers disks blocks form head;
      single = fresh_one k clients servers disks blocks form;
      led = λ x i. ap (λ (s : Traced). begun s.world s.world) i;
      notices = notices_begin k clients servers disks blocks form;
      clean = clean_begins k clients servers disks blocks form;
      awaits = λ c. awaits_begin k clients servers disks blocks form c Anything;
      spread = λ c f p. full_begins c f p (map (size_of t.world) (all_servers t.world));
      olds = λ y i. absurd i;
    })
    (throughout_both (Known count) (λ past x. FullServersHaveNoRoom past x × ServedPagesAreWanted past x) [] (steps es t)
    (known_in k clients servers disks blocks form es head events (safe k clients servers disks blocks form es head events))
    (room k clients servers disks blocks form es head events))

pub full_servers_are_noticed : EveryRunIsSafe → InEveryRun PagesAfter →
    InEveryRun FullServersAreNoticed
full_servers_are_noticed safe pages k clients servers disks blocks form es head events =
    let t : Traced = traced (fresh_world k clients servers disks blocks form) in
    throughout_more (λ past x. ServersWereFull past x × Noticed past x) FullServersAreNoticed
    (λ past x z. on_more (λ v. AtEachStep (IsNoSpace past) (steps_of (led_to past x) v x) v × AtEachStep IsFullAsk (steps_of (led_to past x) v x) v)
    (λ v. AtEachStep (IsFullNoticed past) (steps_of (led_to past x) v x) v) (λ v y. each_noticed past (steps_of (led_to past x) v x) v y.0 y.1)
    (led_to past x).volume
    (on_both (λ v. AtEachStep (IsNoSpace past) (steps_of (led_to past x) v x) v) (λ v. AtEachStep IsFullAsk (steps_of (led_to past x) v x) v)
    (led_to past x).volume z.0 z.1)) [] (steps es t)
    (throughout_both ServersWereFull Noticed [] (steps es t) (servers_were_full safe k clients servers disks blocks form es head events)
    (late_asks safe
    (λ k clients servers disks blocks form es head events.
    throughout_both FullServersHaveNoRoom ServedPagesAreWanted [] (steps es (traced (fresh_world k clients servers disks blocks form)))
    (full_servers_have_no_room safe pages k clients servers disks blocks form es head events)
    (served_pages_are_wanted safe k clients servers disks blocks form es head events)) k clients servers disks blocks form es head events))
