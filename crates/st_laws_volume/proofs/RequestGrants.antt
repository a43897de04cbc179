-- In every run a request that a server serves is that of its ask: a remove that means a file names a grant, whose number is above 0.
use Rattle.st_lemmas.proofs.Words
use Words.{◌≡◌, ◌≢◌, ◌⊎◌, ℕ, ◌+◌, ◌≤◌, arith, Bool, true, false, not, ◌&&◌, ◌==◌, List, [], ◌∷◌, ◌++◌, Option, Some, None, Ok, refl, sym, ap, ◌∙◌, subst, inl, inr, if◌then◌else◌}
use Words.{bytes_eq, eq-eqb, eqb-true, ne_eqb, Ask, Body, ClientId, ClientInput, Config, Event, GrantNo, Message, NameAsk, NodeId, Operation, PageNo, Request, SentMessage, ServerId, Stage}
use Words.asks
use Words.bodies
use Words.events
use Words.nodes
use Words.ops
use Words.stages
use Words.Client as cl
use Words.ClientPasses.{name_op}
use Words.ClientState as cs
use Words.ClientState.{Association, ClientSession}
use Words.Events as ev
use Words.Events.{WorldTurn, world_step}
use Words.History.{Traced, traced, traced_after}
use Words.Keys.{client, server_node}
use Words.Lists.{Has}
use Words.Lookups.{some_is}
use Words.Lengths.{numbered_there}
use Words.Members.{has_left, has_right}
use Words.Numbers.{numbered_has}
use Words.Safety.{IsHead, Promise, Step, step, steps}
use Words.Server as sv
use Words.Server.{ServerNode}
use Words.Tables.{and_both, and_true, has_append, has_map_in}
use Words.World as world
use Words.World.{World, WorldClient, fresh_world, message_of, node_of, numbered, receiver_of, site_of, with_numbered}
use Rattle.std.proofs.lemmas.Slice.Eq.{bytes_eq-Decides}
use Rattle.st_base.specs.declared.names.NameAsk.TheVariants as names
use Rattle.st_protocol.specs.Assoc as net
use Rattle.st_laws_pages.specs.Asks.Law.{PlacesAfter, PlacesHold}
use Rattle.st_laws_pages.specs.Disks.Obligations.{FatesHold}
use Rattle.st_laws_pages.proofs.Asks.Law.{places_law}
use Rattle.st_laws_pages.proofs.Causes.Law.{Stand, fresh_places, fresh_stand, one_step}
use Rattle.st_laws_pages.proofs.Disks.Whole.{fates_law}
use Rattle.st_laws_steps.proofs.Lives.Associations.{own_found}
use Rattle.st_laws_steps.specs.Client.Session.{HasExclusive}
use Rattle.st_laws_refine.specs.Server.Pair.{terms_of}
use Rattle.st_laws_leases.specs.Dates.Dates.{message_in, messages}
use Rattle.st_laws_leases.proofs.Dates.Leaving.{set_cases}
use Rattle.st_laws_requests.specs.Cuts.Cuts as cuts
use Rattle.st_laws_requests.specs.Cuts.Cuts.{AssociationOk, Between, Early, Keyed, MeansNone, SameBody, Waits, WaitsAt, asks_of}
use Rattle.st_laws_requests.specs.Replies.ServedRequests.{ReassertionsNew}
use Rattle.st_laws_requests.proofs.Replies.EachEvent.{ClientTook, ServerLeft, SiteAfter, event_leaves}
use Rattle.st_laws_extents.proofs.CutRequests.New.{reassertions_new}
use Rattle.st_laws_extents.proofs.CutRequests.Standing.{given_held, named}
use Rattle.st_laws_cuts.specs.EndedRequests.{MeansTo}
use Rattle.st_laws_cuts.specs.ServedRequests.{IsServedBy}
use Rattle.st_laws_cuts.proofs.Open.{association_there}
use Rattle.st_laws_cuts.proofs.Words.{asked_more}
use Rattle.st_laws_names.specs.OutstandingKeys.{KeysHaveOneOperation, SameKey, WaitsUnder}
use Rattle.st_laws_names.proofs.Facts.{FactsHold, facts_begin, facts_on, operations_law}
use Rattle.st_laws_names.proofs.Keys.{keyed_same, one_body}
use Rattle.st_laws_names.proofs.World.{Asked, Worlds, waits_at}
use Rattle.st_laws_volume.specs.Logs.{InEveryRun}
use Rattle.st_laws_volume.specs.Requests.{AtNode, IsForAsk, OfDelivery, OfMessage, RequestsAreForTheirAsks}
use Rattle.st_laws_volume.specs.Witness.{Behind, Witness, begun, does_at, is_name_for, is_request_for, now_at, same_text, serves, turn_of, is_done_as}
use Rattle.st_laws_volume.proofs.Carried.{IsGiven, IsKept, given_in}
use Rattle.st_laws_volume.proofs.ReadPages.{InRange, all_in_range, throughout_both}
use Rattle.st_laws_volume.proofs.RemoveGrants.{From, IsUnder, IsUnderAt, IsUnderIn, JustSent, WaitedAt, step_waits}
use Rattle.st_laws_volume.proofs.RemoveGrants as sending
use Rattle.st_laws_volume.proofs.RequestAsks.{GhostHolds, Grants, HasKey, ghost_begins, ghost_kept, has_key, is_served}

-- a remove that means a file names a number above 0
abbrev pub NamesGrant : Ask → Body → Type 0
NamesGrant (asks.Name s (names.Remove dir name ino)) (bodies.Name (ops.Remove d n g)) = (ino ≡ 0 → ⊥) → 1 ≤ g.0
NamesGrant ask body = Unit {0}

-- A request that is that of an ask.
text_same : (dir : ℕ) (name : List ℕ) → same_text dir name dir name ≡ true
text_same dir name = and_both (dir == dir) (bytes_eq name name) (eq-eqb dir dir refl) ((bytes_eq-Decides name name).1 refl)

name_is_for : (ask : NameAsk) (s : ServerId) (g : GrantNo) → MeansNone ask g → NamesGrant (asks.Name s ask) (bodies.Name (name_op ask g)) →
    is_name_for ask (name_op ask g) ≡ true
name_is_for (names.Lookup dir name) s g none some = text_same dir name
name_is_for (names.Create dir name) s g none some = text_same dir name
name_is_for (names.Mkdir dir name) s g none some = text_same dir name
name_is_for (names.Remove dir name ino) s g none some =
    and_both (same_text dir name dir name) (if ino == 0 then g.0 == 0 else not (g.0 == 0)) (text_same dir name) (go (ino == 0) refl)
  where
    no : (1 ≤ g.0) → g.0 ≡ 0 → ⊥
    no l e = omega (arith, l, e)

    differs : (ino == 0) ≡ false → ino ≡ 0 → ⊥
    differs q e = Words.Truth.clash (eq-eqb ino 0 e) q

    go : (b : Bool) → (ino == 0) ≡ b → (if b then g.0 == 0 else not (g.0 == 0)) ≡ true
    go true q = eq-eqb g.0 0 (none (eqb-true ino 0 q))
    go false q = ap not (ne_eqb g.0 0 (no (some (differs q))))
name_is_for (names.Rename dir name dir2 name2) s g none some =
    and_both (same_text dir name dir name) (same_text dir2 name2 dir2 name2) (text_same dir name) (text_same dir2 name2)
name_is_for (names.List dir after) s g none some = text_same dir after

request_is_for : (G : ℕ → GrantNo → Type 0) (s : ServerId) (ask : Ask) (body : Body) → MeansTo G s ask body → NamesGrant ask body →
    is_request_for s body ask ≡ true
request_is_for G s (asks.Cut f p) (bodies.Cut ino g from) z some =
    and_both (f.server.0 == s.0) ((f.ino == ino) && (p.0 == from.0)) (eq-eqb f.server.0 s.0 (ap (λ (r : ServerId). r.0) z.0))
    (and_both (f.ino == ino) (p.0 == from.0) (eq-eqb f.ino ino z.1) (eq-eqb p.0 from.0 (ap (λ (q : PageNo). q.0) z.2)))
request_is_for G s (asks.Name r ask) (bodies.Name op) z some =
    and_both (r.0 == s.0) (is_name_for ask op) (eq-eqb r.0 s.0 (ap (λ (x : ServerId). x.0) z.0))
    (ap (is_name_for ask) z.1.is ∙ name_is_for ask r z.1.g z.1.none (subst (λ o. NamesGrant (asks.Name r ask) (bodies.Name o)) z.1.is some))
request_is_for G s ask body z some = absurd z

-- What waits after an event waited before it, or has just been sent.
module _ (t : World) where
  -- an operation of the client as it was before its step
  record Before (v : World) (c : ClientId) (p : Operation) : Type 0 where
    site : WorldClient
    at : site_of t c ≡ Some site
    runs : site.node.running ≡ true
    from : From site.node.state.operations p
    servers : v.servers ≡ t.servers

  record Now (site : WorldClient) (p : Operation) : Type 0 where
    a : Association
    among : Has a site.node.state.associations
    sent : JustSent a p.ask
    runs : site.node.running ≡ true

  abbrev WaitsSo : World → ClientId → WorldClient → Operation → Type 0
  WaitsSo v c site p = (site_of t c ≡ Some site) ⊎ ((Before v c p ⊎ (cs.is_asked_at p.stage ≡ false)) ⊎ Now site p)

  abbrev AllWait : World → Type 0
  AllWait v = (c : ClientId) (site : WorldClient) → site_of v c ≡ Some site → (p : Operation) → Has p site.node.state.operations → WaitsSo v c site p

  same : (v : World) → v.clients ≡ t.clients → AllWait v
  same v e c site there p i = inl (ap (λ xs. numbered xs c.0) (sym e) ∙ there)

  placed : (v : World) (c : ClientId) (old new : WorldClient) → site_of t c ≡ Some old → v.clients ≡ with_numbered c.0 new t.clients →
      ((p : Operation) → Has p new.node.state.operations → WaitsSo v c new p) → AllWait v
  placed v c old new at e h x site there p i = go (set_cases t.clients c.0 x.0 old new site at (ap (λ xs. numbered xs x.0) (sym e) ∙ there))
    where
      go : ((x.0 ≡ c.0) × (site ≡ new)) ⊎ ((x.0 ≢ c.0) × (site_of t x ≡ Some site)) → WaitsSo v x site p
      go (inl z) =
          subst (λ (d : ClientId). WaitsSo v d site p) (ap (λ n. record { 0 = n }) (sym z.0))
          (subst (λ (y : WorldClient). WaitsSo v c y p) (sym z.1) (h p (subst (λ (y : WorldClient). Has p y.node.state.operations) z.1 i)))
      go (inr z) = inl z.1

  took : (v : World) (c : ClientId) (i : ClientInput) (site old : WorldClient) → site.node ≡ old.node → site.node.running ≡ true → site_of t c ≡ Some old →
      (last : World) → last.servers ≡ t.servers → (p : Operation) → Has p (SiteAfter v c i site).node.state.operations → WaitsSo last c (SiteAfter v c i site) p
  took v c i site old is run at last ss p j = go ((step_waits 0 site.node.state (world.clock_of v (nodes.Client c)) i).each p j)
    where
      unasked : (g : Stage) → cs.is_sent_at g ≡ false → cs.is_asked_at g ≡ false
      unasked stages.Sent e = cc e
      unasked stages.Unsent e = refl
      unasked stages.Stuck e = refl

      go : WaitedAt (sending.Known 0 site.node.state i) 0 site.node.state.operations (ClientTook v c i site).state.associations
          (ClientTook v c i site).state.operations p →
          WaitsSo last c (SiteAfter v c i site) p
      go (inl (inl f)) =
          inr (inl (inl (record {
            site = old;
            at = at;
            runs = ap (λ (n : cl.ClientNode). n.running) (sym is) ∙ run;
            from = subst (λ (n : cl.ClientNode). From n.state.operations p) is f;
            servers = ss;
          })))
      go (inl (inr n)) = inr (inl (inr (unasked p.stage n.unsent)))
      go (inr s) = inr (inr (record { a = s.a; among = s.among; sent = s.just; runs = run }))

module _ (past : List Step) (t : Traced) (e : Event) (sc : WorldTurn) (owed : ReassertionsNew past (step t e sc)) (happens : world_step t.world e ≡ Ok sc) where
  event_waits : AllWait t.world sc.world
  unfolding ev.crashes_client ev.marks cl.crash ev.starts_client cl.start ev.crashes_server ev.starts_server
  event_waits =
      event_leaves t.world (AllWait t.world) (λ v cs ss ms. same t.world v cs)
      (λ v cs ss c i site old is run at k last l. placed t.world last c old (SiteAfter v c i site) at
      (l.clients ∙ ap (with_numbered c.0 (SiteAfter v c i site)) cs) (took t.world v c i site old is run at last (l.servers ∙ ss)))
      (λ s i node at run b o l. same t.world (ServerLeft t.world s i node).world l.clients)
      (λ c site at. placed t.world (ev.crashes_client (ev.counted t.world) c (Some site)).world c site (ev.stopped_site site) at refl (λ p i. absurd i))
      (λ c site at. placed t.world (ev.starts_client (ev.counted t.world) c (Some site)) c site (ev.started_site site) at refl (λ p i. absurd i))
      (λ s node at. same t.world (ev.crashes_server (ev.counted t.world) s (Some node)) refl)
      (λ s node at. same t.world (ev.starts_server (ev.counted t.world) s (Some node)) refl)
      e sc owed happens

-- What is carried: each message under the key of an operation names a grant if it must.
abbrev pub AllNamed : List Step → World → Type 0
AllNamed past w =
    (c : ClientId) (op : ℕ) (a : Asked past w c op) (m : Message) → Has m (messages w) → Keyed c a.server a.life_ a.epoch_ a.number_ m → (ask : Ask) →
    numbered (asks_of past c) op ≡ Some ask → NamesGrant ask m.body

pub record GrantsHold (k : net.Config) (count : ℕ) (past : List Step) (t : Traced) (it : Witness) : Type 0 where
  pub facts : FactsHold k count past t
  pub ghost_ : GhostHolds past t it
  pub places : PlacesHold t.world
  pub stand : Stand past t
  pub named_ : AllNamed past t.world

module _ (k : net.Config) (count : ℕ) (past : List Step) (t : Traced) (e : Event) (sc : WorldTurn) (h : FactsHold k count past t)
    (n : FactsHold k count (past ++ step t e sc ∷ []) (traced_after e t sc)) (stand : Stand (past ++ step t e sc ∷ []) (traced_after e t sc))
    (waits : AllWait t.world sc.world) (before : AllNamed past t.world) where
  abbrev x : Step
  x = step t e sc

  abbrev past2 : List Step
  past2 = past ++ step t e sc ∷ []

  grown : (m : Message) → Has m (messages t.world) → Has m (messages sc.world)
  grown m i = n.changes_.names_.all.base.cuts.grown (step t e sc) (has_right past (step t e sc ∷ []) (step t e sc) (inl refl)) m i

  -- what waited before the event
  earlier : (c : ClientId) (op : ℕ) (b : Asked past t.world c op) (a : Asked past2 sc.world c op) →
      SameKey b.server a.server b.life_ b.epoch_ b.number_ a.life_ a.epoch_ a.number_ → (m : Message) → Has m (messages sc.world) →
      Keyed c a.server a.life_ a.epoch_ a.number_ m → (ask : Ask) → numbered (asks_of past2 c) op ≡ Some ask → NamesGrant ask m.body
  earlier c op b a same_ m i key ask asked =
      let r = h.keys.requested c op b in
      let first = r.first in
      let number = same_.number_ in
      let body : r.message.body ≡ m.body =
      one_body k count past2 (traced_after e t sc) n.changes_.names_.all c a.server (n.keys.places c op a) a.life_ a.epoch_ a.number_
      (omega (arith, first, number))
      r.message m (grown r.message r.among) i
      (keyed_same c b.server a.server b.life_ b.epoch_ b.number_ a.life_ a.epoch_ a.number_ r.message same_ r.keyed) key in
      subst (NamesGrant ask) body
      (subst (λ y. NamesGrant y r.message.body) (some_is (sym (asked_more past x c op r.ask r.asked) ∙ asked))
      (before c op b r.message r.among r.keyed r.ask r.asked))

  -- what waits now
  module _ (c : ClientId) (op : ℕ) (a : Asked past2 sc.world c op) (z : WaitsUnder sc.world c a.server a.life_ a.epoch_ a.number_ op) (m : Message)
      (i : Has m (messages sc.world)) (key : Keyed c a.server a.life_ a.epoch_ a.number_ m) (ask : Ask) (asked : numbered (asks_of past2 c) op ≡ Some ask) where
    stage : (cs.is_of a.server z.operation ≡ true) × (cs.is_asked_at z.operation.stage ≡ true)
    stage = and_true (cs.is_of a.server z.operation) (cs.is_asked_at z.operation.stage) z.asked

    its : z.operation.ask ≡ ask
    its =
        some_is
        (sym (subst (λ j. numbered (asks_of past2 c) j ≡ Some z.operation.ask) z.is
        ((n.changes_.names_.all.base.cuts.clients c z.site z.at).asked z.operation z.there)) ∙ asked)

    -- the same client as before
    still : site_of t.world c ≡ Some z.site → NamesGrant ask m.body
    still at =
        earlier c op
        (record {
          at = t.world;
          among = inr refl;
          server = a.server;
          life_ = a.life_;
          epoch_ = a.epoch_;
          number_ = a.number_;
          waits =
              record {
                site = z.site;
                at = at;
                operation = z.operation;
                there = z.there;
                is = z.is;
                asked = z.asked;
                association = z.association;
                among = z.among;
                server = z.server;
                of_life = z.of_life;
                session = z.session;
                has = z.has;
                of_epoch = z.of_epoch;
                request = z.request;
                outstanding = z.outstanding;
                under = z.under;
              };
        })
        a (record { server = refl; life_ = refl; epoch_ = refl; number_ = refl }) m i key ask asked

    server_there : (node : ServerNode) × (node_of sc.world a.server ≡ Some node)
    server_there =
        let y = stand.both.flush.servers c z.site z.at z.association z.among in
        let q = ap (λ (s : ServerId). s.0) z.server in
        let low = y.0 in
        let high = y.1 in
        numbered_there sc.world.servers a.server.0 (omega (arith, low, q)) (omega (arith, high, q))

    -- an operation that waited before the step of its client
    was : Before t.world sc.world c z.operation → NamesGrant ask m.body
    was b = by (good.waits b.from.o b.from.there own)
      where
        at : node_of t.world a.server ≡ Some server_there.0
        at = ap (λ xs. numbered xs a.server.0) (sym b.servers) ∙ server_there.1

        y : (w : Association) × Has w b.site.node.state.associations × (w.server ≡ world.server a.server.0)
        y =
            association_there k a.server.0 c.0 b.site t.world.ended ((h.changes_.names_.all.base.all.servers a.server.0 server_there.0 at).ghosts c.0).net
            ((h.changes_.names_.all.base.all.servers a.server.0 server_there.0 at).both.clients c.0 b.site b.at)

        good : AssociationOk past (messages t.world) c b.site.node.state.operations y.0
        good = (h.changes_.names_.all.base.cuts.clients c b.site b.at).all b.runs y.0 y.1

        own : cs.is_asked y.0.server b.from.o ≡ true
        own =
            and_both (cs.is_of y.0.server b.from.o) (cs.is_asked_at b.from.o.stage)
            (ap (λ (s : ServerId). cs.is_of s b.from.o) y.2 ∙ (ap (λ q. (cs.server_of q).0 == a.server.0) b.from.ask ∙ stage.0)) (b.from.asked stage.1)

        waited : (w : ClientSession) → y.0.session ≡ Some w → (q : Request) → w.requests.asked ≡ Some q → NamesGrant ask m.body
        waited w s q r =
            earlier c op b2 a
            (n.changes_.pairs.pairs c op
            (record {
              at = t.world;
              among = before_world;
              server = y.0.server;
              life_ = y.0.life.0;
              epoch_ = w.epoch.0;
              number_ = q.number;
              waits = under;
            }) a) m i key ask asked
          where
            under : WaitsUnder t.world c y.0.server y.0.life.0 w.epoch.0 q.number op
            under = subst (WaitsUnder t.world c y.0.server y.0.life.0 w.epoch.0 q.number) (b.from.op ∙ z.is)
                (waits_at t.world c b.site b.at y.0 y.1 b.from.o b.from.there own w s q r)

            b2 : Asked past t.world c op
            b2 =
                record {
                  at = t.world;
                  among = inr refl;
                  server = y.0.server;
                  life_ = y.0.life.0;
                  epoch_ = w.epoch.0;
                  number_ = q.number;
                  waits = under;
                }

            before_world : Worlds past2 sc.world t.world
            before_world = go h.changes_.rows.now
              where
                go : Rattle.st_laws_names.proofs.Rows.Known past t.world → Worlds past2 sc.world t.world
                go (inl v) = inl (v.0, has_left past (step t e sc ∷ []) v.0 v.1, v.2)
                go (inr f) = absurd (f c y.0.server y.0.life.0 w.epoch.0 q.number op under)

        by : Waits (Early past c) y.0.server y.0.life.0 (cuts.view y.0.session) b.from.o → NamesGrant ask m.body
        by w = session y.0.session refl w
          where
            request : (s : ClientSession) → y.0.session ≡ Some s → (q : Option Request) → s.requests.asked ≡ q →
                WaitsAt (Early past c) y.0.server y.0.life.0 s.epoch.0 q b.from.o → NamesGrant ask m.body
            request s f None r j = absurd j
            request s f (Some q) r j = waited s f q r

            session : (o : Option ClientSession) → y.0.session ≡ o → Waits (Early past c) y.0.server y.0.life.0 (cuts.view o) b.from.o → NamesGrant ask m.body
            session None f j = absurd j
            session (Some s) f j = request s f s.requests.asked refl j

    -- one that has just been sent
    sent : Now t.world z.site z.operation → NamesGrant ask m.body
    sent s = subst (NamesGrant ask) (sym body) (subst (λ y. NamesGrant y z.request.body) its (by z.operation.ask z.request.body under))
      where
        once : (b : Association) → Has b z.site.node.state.associations → cl.association_with z.site.node.state b.server ≡ Some b
        once b j = own_found z.site.node.state.associations (n.changes_.names_.all.base.cuts.fates.lives.lives.sites c z.site z.at).once b j

        here : s.a.server ≡ z.association.server
        here =
            ap (λ m. record { 0 = m })
            (sym s.sent.server ∙ (eqb-true (cs.server_of z.operation.ask).0 a.server.0 stage.0 ∙ ap (λ (r : ServerId). r.0) (sym z.server)))

        one : s.a ≡ z.association
        one =
            some_is
            (sym (once s.a s.among) ∙ (ap (λ (r : ServerId). cl.association_with z.site.node.state r) here ∙ once z.association z.among))

        under : IsUnder z.session z.operation.ask z.request.body
        under =
            subst (IsUnderAt z.session z.operation.ask) z.outstanding
            (subst (λ o. IsUnderIn o z.operation.ask) z.has (subst (λ (b : Association). IsUnderIn b.session z.operation.ask) one s.sent.under))

        good : AssociationOk past2 (messages sc.world) c z.site.node.state.operations z.association
        good = (n.changes_.names_.all.base.cuts.clients c z.site z.at).all s.runs z.association z.among

        body : m.body ≡ z.request.body
        body =
            let given = subst (cuts.Given z.session.requests.next) z.outstanding (subst (λ o. cuts.Counts (cuts.view o)) z.has good.numbers.counts).1 in
            let l = given.0 in
            let number : m.header.number ≡ z.request.number = key.under ∙ sym z.under in
            subst (λ o. SameBody o m) z.outstanding
            ((subst (λ o. cuts.Placed z.association.life.0 (cuts.view o) m) z.has
            (good.numbers.placed m i (subst (λ (r : ServerId). Between c r m) (sym z.server) key.between)) (key.of_life ∙ sym z.of_life)
            (omega (arith, l, number))).same (key.of_epoch ∙ sym z.of_epoch)) number

        positive : (ino : ℕ) (g : GrantNo) → HasExclusive z.session ino g → 1 ≤ g.0
        positive ino g j =
            (named k count sc.world n.changes_.names_.all.base.all a.server.0 server_there.0 server_there.1 c.0).net.positive ino g.0
            (given_held k count sc.world n.changes_.names_.all.base.all a.server.0 server_there.0 server_there.1 c.0 z.site
            (record { there = z.at; runs = s.runs }) z.association z.among z.server z.session z.has ino g j)

        by : (q : Ask) (b : Body) → IsUnder z.session q b → NamesGrant q b
        by (asks.Name r (names.Remove dir name ino)) (bodies.Name (ops.Remove d l g)) j = λ f. positive ino g (j f)
        by q b j = tt

    now : NamesGrant ask m.body
    now = go (waits c z.site z.at z.operation z.there)
      where
        go : WaitsSo t.world sc.world c z.site z.operation → NamesGrant ask m.body
        go (inl at) = still at
        go (inr (inl (inl b))) = was b
        go (inr (inl (inr f))) = Words.Truth.clash stage.1 f
        go (inr (inr s)) = sent s

  named_now : AllNamed past2 sc.world
  named_now c op a m i key ask asked = go a.among
    where
      old : (u : World) → Worlds past t.world u → u ≡ a.at → NamesGrant ask m.body
      old u j q =
          earlier c op
          (record {
            at = u;
            among = j;
            server = a.server;
            life_ = a.life_;
            epoch_ = a.epoch_;
            number_ = a.number_;
            waits = subst (λ v. WaitsUnder v c a.server a.life_ a.epoch_ a.number_ op) (sym q) a.waits;
          })
          a (record { server = refl; life_ = refl; epoch_ = refl; number_ = refl }) m i key ask asked

      at_now : a.at ≡ sc.world → NamesGrant ask m.body
      at_now q = now c op a (subst (λ v. WaitsUnder v c a.server a.life_ a.epoch_ a.number_ op) q a.waits) m i key ask asked

      go : Worlds past2 sc.world a.at → NamesGrant ask m.body
      go (inr q) = at_now q
      go (inl (y, j, q)) = by (has_append past (step t e sc ∷ []) y j)
        where
          by : Has y past ⊎ Has y (step t e sc ∷ []) → NamesGrant ask m.body
          by (inl f) = old a.at (inl (y, f, q)) refl
          by (inr (inl f)) = at_now (q ∙ ap (λ (z : Step). z.after.world) f)
          by (inr (inr f)) = absurd f

-- The requests that servers serve.
module _ (k : net.Config) (count : ℕ) (past : List Step) (t : Traced) (it : Witness) (h : GrantsHold k count past t it)
    (one : (y z : Step) → Has y past → Has z past → (c : ClientId) (s : ServerId) (life epoch number op n : ℕ) →
    WaitsUnder y.after.world c s life epoch number op → WaitsUnder z.after.world c s life epoch number n → op ≡ n) where
  is_for : (s : ServerId) (node : ServerNode) → node_of t.world s ≡ Some node → (m : Message) → Has m (messages t.world) →
      does_at t.world s (Some node) m ≡ true → IsForAsk it past s m
  is_for s node at m among done =
      record {
        is =
            λ b found ask asked. subst (λ q. is_request_for s m.body q ≡ true)
            (some_is (sym key.asked ∙ (ap (λ (y : Behind). numbered (asks_of past c) y.op) (some_is (sym key.found ∙ found)) ∙ asked)))
            (request_is_for (Grants k count past t it h.facts.changes_ h.ghost_ one s m) s key.ask m.body key.to grant);
      }
    where
      c : ClientId
      c = client m.header.from

      key : HasKey it past t.world (Grants k count past t it h.facts.changes_ h.ghost_ one s m) s m
      key = has_key k count past t it h.facts.changes_ h.ghost_ one s node at m among done

      parts : (node.running ≡ true) × ((serves (turn_of node (now_at t.world s)) m.header
          && is_done_as m.body (sv.rule (turn_of node (now_at t.world s)) (now_at t.world s) m.header m.body).reply) ≡ true)
      parts = and_true node.running _ done

      taken : IsServedBy node.state m
      taken = is_served s node (now_at t.world s) m (and_true (serves (turn_of node (now_at t.world s)) m.header) _ parts.1).0

      id : node.state.id ≡ s
      id = (h.facts.changes_.names_.all.base.cuts.servers s node at).id

      grant : NamesGrant key.ask m.body
      grant =
          h.named_ c key.behind.op
          (record {
            at = key.at.after.world;
            among = inl (key.at, key.among, refl);
            server = s;
            life_ = m.header.life;
            epoch_ = m.header.epoch;
            number_ = m.header.number;
            waits = key.waits;
          })
          m among
          (record { between = (refl, taken.to ∙ ap server_node id); of_life = refl; of_epoch = refl; under = refl }) key.ask key.asked

  at_delivery : (e : Event) → OfDelivery (IsForAsk it past) t.world e
  at_delivery (events.Deliver n) = go (message_of t.world n) (λ m q. numbered_has t.world.net.messages n m q)
    where
      at_node : (s : ServerId) (m : Message) → Has m (messages t.world) → (o : Option ServerNode) → node_of t.world s ≡ o → does_at t.world s o m ≡ true →
          IsForAsk it past s m
      at_node s m among None at q = cc q
      at_node s m among (Some node) at q = is_for s node at m among q

      to : (m : SentMessage) → Has m.message (messages t.world) → (n : NodeId) → AtNode (IsForAsk it past) t.world m.message n
      to m among (nodes.Client c) = tt
      to m among (nodes.Server s) = λ q. at_node s m.message among (node_of t.world s) refl q

      go : (o : Option SentMessage) → ((m : SentMessage) → o ≡ Some m → Has m t.world.net.messages) → OfMessage (IsForAsk it past) t.world o
      go None g = tt
      go (Some m) g = to m (has_map_in message_in t.world.net.messages m (g m refl)) (receiver_of m)
  at_delivery e = tt

-- In every run.
abbrev pub Known : ℕ → Promise
Known n past x = InRange n past x × (FatesHold x.after.world × (KeysHaveOneOperation past x × (ReassertionsNew past x × PlacesAfter past x)))

GrantsToo : List Step → Step → Witness → Type 0
GrantsToo past x it = OfDelivery (IsForAsk it past) x.before.world x.event

grants_on : (k : net.Config) (count : ℕ) → IsGiven (Known count) (GrantsHold k count) GrantsToo
unfolding GrantsToo
grants_on k count past t e sc it f g h =
    let n : FactsHold k count (past ++ step t e sc ∷ []) (traced_after e t sc) = facts_on k count past t e sc g.0 h.facts f in
    let stand : Stand (past ++ step t e sc ∷ []) (traced_after e t sc) = (one_step past t e sc f h.places h.stand).stand in (
      at_delivery k count past t it h
          (λ y z i j c s life epoch number op n a b.
          g.1.1.0 y z (has_left past (step t e sc ∷ []) y i) (has_left past (step t e sc ∷ []) z j) c s life epoch number op n a b) e,
      record {
        facts = n;
        ghost_ = ghost_kept past t e sc it g.1.0 g.1.1.0 h.ghost_;
        places = g.1.1.1.1;
        stand = stand;
        named_ = named_now k count past t e sc h.facts n stand (event_waits past t e sc g.1.1.1.0 f) h.named_;
      },
    )

pub grants_kept : (k : net.Config) (count : ℕ) → IsKept (Known count) (GrantsHold k count)
grants_kept k count past t e sc it f g h = (grants_on k count past t e sc it f g h).1

none_named : (k : Config) (clients servers disks blocks form : ℕ) → AllNamed [] (fresh_world k clients servers disks blocks form)
unfolding fresh_world
none_named k clients servers disks blocks form c op a m i key ask asked = absurd i

pub grants_begin : (k : Config) (clients servers disks blocks form : ℕ) → IsHead k clients servers disks blocks form →
    GrantsHold (terms_of k) (clients + servers) [] (traced (fresh_world k clients servers disks blocks form))
    (begun (fresh_world k clients servers disks blocks form) (fresh_world k clients servers disks blocks form))
unfolding begun
grants_begin k clients servers disks blocks form head =
    record {
      facts = facts_begin k clients servers disks blocks form head;
      ghost_ = ghost_begins k clients servers disks blocks form;
      places = fresh_places k clients servers disks blocks form;
      stand = fresh_stand k clients servers disks blocks form;
      named_ = none_named k clients servers disks blocks form;
    }

pub requests_are_for_their_asks : InEveryRun RequestsAreForTheirAsks
unfolding GrantsToo begun
requests_are_for_their_asks k clients servers disks blocks form es head events =
    let t : Traced = traced (fresh_world k clients servers disks blocks form) in
    let n : ℕ = clients + servers in
    given_in (Known n) (GrantsHold (terms_of k) n) GrantsToo (grants_on (terms_of k) n) es t
    (grants_begin k clients servers disks blocks form head)
    (throughout_both (InRange n)
    (λ past x. FatesHold x.after.world × (KeysHaveOneOperation past x × (ReassertionsNew past x × PlacesAfter past x))) [] (steps es t)
    (all_in_range n es [] t events)
    (throughout_both (λ past x. FatesHold x.after.world) (λ past x. KeysHaveOneOperation past x × (ReassertionsNew past x × PlacesAfter past x)) []
    (steps es t) (fates_law k clients servers disks blocks form es)
    (throughout_both KeysHaveOneOperation (λ past x. ReassertionsNew past x × PlacesAfter past x) [] (steps es t)
    (operations_law k clients servers disks blocks form es head events)
    (throughout_both ReassertionsNew PlacesAfter [] (steps es t) (reassertions_new k clients servers disks blocks form es head events)
    (places_law k clients servers disks blocks form es head)))))
