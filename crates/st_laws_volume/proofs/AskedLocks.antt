-- In every run each client that has a lock of a file, waits for one, or requests one was asked of
-- that file; and so was each client to which a grant was sent.
use Rattle.st_lemmas.proofs.Words
use Words.{◌≡◌, ◌≢◌, ◌⊎◌, ◌==◌, if◌then◌else◌, ℕ, suc, ◌+◌, ◌≤◌, true, List, [], ◌∷◌, ◌++◌, Option, Some, None, Ok, refl, sym, ap, ◌∙◌, subst, inl, inr, arith, map}
use Words.{append-nil, cons_option, eq-eqb, eqb-true, length, leb-true, nat_le, Ask, Body, ClientId, ClientInput, Event, LockRow, Message, Mode, Operation, Request, ServerId, ServerInput, Session, Stamp}
use Words.bodies
use Words.events
use Words.nodes
use Words.outputs
use Words.serving
use Words.states
use Words.Client as cl
use Words.ClientState as cs
use Words.ClientState.{Association, ClientSession, ClientState, ClientTurn}
use Words.Events as ev
use Words.Events.{WorldTurn, world_step}
use Words.Extents.{numbers}
use Words.History.{Traced}
use Words.Keys.{client, server_node}
use Words.Lists.{Has}
use Words.Locks as locks
use Words.Lookups.{some_is}
use Words.Members.{has_left}
use Words.Numbers.{get_last, numbered_below, numbered_has, numbered_old}
use Words.Safety as safety
use Words.Safety.{Step, ask_in, step}
use Words.Server as server
use Words.Server.{ServerNode, ServerTurn, is_client_node}
use Words.Sessions as sessions
use Words.Tables.{and_true, found_at, has_map, has_map_in}
use Words.World.{World, WorldClient, clock_of, fresh_site, fresh_world, node_at_start, node_of, numbered, site_of, with_numbered}
use Rattle.st_base.specs.declared.config.Config.{Config}
use Rattle.st_laws_steps.specs.Lives.Lives.{NodeHolds}
use Rattle.st_laws_leases.specs.Dates.Dates.{ClientDated, Dated, messages}
use Rattle.st_laws_leases.proofs.Dates.Leaving.{Leaves, leaves_from, server_not_client, set_cases}
use Rattle.st_laws_leases.proofs.Dates.Receiving.{Ever, Held, ever_on, step_held}
use Rattle.st_laws_leases.proofs.Dates.Receiving as receiving
use Rattle.st_laws_pages.proofs.Asks.Client.{key}
use Rattle.st_laws_pages.proofs.Asks.World.{asks_more, asks_of}
use Rattle.st_laws_pages.proofs.Causes.Law.{Stand}
use Rattle.st_laws_pages.proofs.Lives.Fresh.{fresh_is}
use Rattle.st_laws_requests.proofs.Replies.EachEvent.{Brings, ClientTook, NodeAfter, ServerLeft, ServerTook, SiteAfter}
use Rattle.st_laws_grants.specs.Owners.{AllGiveOnce, Fits, FitsState, GivesOnce, Keeps, LocksOk, StateOk, WasSent}
use Rattle.st_laws_grants.proofs.Nets.{granted_owned}
use Rattle.st_laws_volume.proofs.AcquireRequests.{AllSent, AskedBody, AsksAt, step_asks}
use Rattle.st_laws_volume.proofs.AskedWaits.{AllWait, Gives, GrantedBody, served}
use Rattle.st_laws_volume.proofs.ClientAnswers.{Tells}
use Rattle.st_laws_volume.proofs.EventAnswers.{ByAsk, ByMessage, ByReport, ByTick, TakesAt}
use Rattle.st_laws_volume.proofs.EventTakes.{event_takes}
use Rattle.st_laws_volume.proofs.KeptRequests.{AsksSo, SessionAsks}

-- a client was asked of a file of this server
abbrev pub WasAsked : (ClientId → List Ask) → ClientId → ServerId → ℕ → Type 0
WasAsked as_ c s ino =
    (ask : Ask) × Has ask (as_ c) × ((cs.file_of ask ≡ Some ino) × (cs.server_of ask ≡ s))

-- What was asked stays asked.
body_more : (A B : ServerId → ℕ → Type 0) → ((s : ServerId) (ino : ℕ) → A s ino → B s ino) →
    (s : ServerId)
    (b : Body) → AskedBody A s b → AskedBody B s b
body_more A B f s (bodies.Acquire ino mode) h = f s ino h
body_more A B f s b h = tt

granted_more : (F G : ℕ → Type 0) → ((ino : ℕ) → F ino → G ino) → (b : Body) → GrantedBody F b →
    GrantedBody G b
granted_more F G f (bodies.Granted ino g mode) h = f ino h
granted_more F G f b h = tt

asks_at_more : (A B : ServerId → ℕ → Type 0) → ((s : ServerId) (ino : ℕ) → A s ino → B s ino) →
    (a : Association) → AsksAt A a → AsksAt B a
asks_at_more A B f a h = session a.session h
  where
    request : (q : Option Request) → AsksSo (AskedBody A a.server) q →
        AsksSo (AskedBody B a.server) q
    request None k = tt
    request (Some q) k = body_more A B f a.server q.body k

    session : (o : Option ClientSession) → SessionAsks (AskedBody A a.server) o →
        SessionAsks (AskedBody B a.server) o
    session None k = tt
    session (Some v) k = request v.requests.asked k

-- What holds of a world.
pub record AreAsked (as_ : ClientId → List Ask) (w : World) : Type 0 where
  pub clients : (c : ClientId) (site : WorldClient) → site_of w c ≡ Some site → (a : Association) →
      Has a site.node.state.associations → AsksAt (WasAsked as_ c) a
  pub requests : (m : Message) → Has m (messages w) → (s : ServerId) →
      is_client_node m.header.from ≡ true →
      m.header.to ≡ server_node s → AskedBody (WasAsked as_ (client m.header.from)) s m.body
  pub grants : (m : Message) → Has m (messages w) → (s : ServerId) → m.header.from ≡ server_node s →
      GrantedBody (WasAsked as_ (client m.header.to) s) m.body
  pub waits : (s : ServerId) (node : ServerNode) → node_of w s ≡ Some node →
      AllWait (λ c ino. WasAsked as_ c s ino) node.state.locks

-- What holds of the lock tables of servers that run.
pub record TablesAsked (as_ : ClientId → List Ask) (w : World) : Type 0 where
  pub rows : (s : ServerId) (node : ServerNode) → node_of w s ≡ Some node → node.running ≡ true →
      (r : LockRow) →
      Has r node.state.locks.rows → WasAsked as_ r.client s r.ino
  pub waits : (s : ServerId) (node : ServerNode) → node_of w s ≡ Some node →
      AllWait (λ c ino. WasAsked as_ c s ino) node.state.locks

-- With one more step.
was_more : (past : List Step) (x : Step) (c : ClientId) (s : ServerId) (ino : ℕ) →
    WasAsked (asks_of past) c s ino →
    WasAsked (asks_of (past ++ x ∷ [])) c s ino
was_more past x c s ino z = (
  z.0,
  subst (Has z.0) (sym (asks_more past x c))
      (has_left (asks_of past c) (cons_option (ask_in c x.event) []) z.0 z.1),
  z.2,
)

pub tables_more : (past : List Step) (x : Step) (w : World) → TablesAsked (asks_of past) w →
    TablesAsked (asks_of (past ++ x ∷ [])) w
tables_more past x w h =
    record {
      rows = λ s node at run r i. was_more past x r.client s r.ino (h.rows s node at run r i);
      waits = λ s node at.
          let z = h.waits s node at in
          record { limit = z.limit; waits = λ y i. was_more past x y.client s y.ino (z.waits y i) };
    }

-- no server has the number of a client
no_client : (s : ServerId) (n : ℕ) → n ≡ server_node s → is_client_node n ≡ true → ⊥
no_client s n e c =
    let z = leb-true n 16 (and_true (nat_le 1 n) (nat_le n 16) c).1 in omega (arith, e, z)

module _ (past : List Step) (t : Traced) (e : Event) (sc : WorldTurn) (d : Dated past t)
    (stand : Stand past t)
    (gives : AllGiveOnce t.world) (h : AreAsked (asks_of past) t.world) where
  abbrev x' : Step
  x' = step t e sc

  abbrev before : ClientId → List Ask
  before = asks_of past

  abbrev after : ClientId → List Ask
  after = asks_of (past ++ x' ∷ [])

  more : (c : ClientId) (s : ServerId) (ino : ℕ) → WasAsked before c s ino → WasAsked after c s ino
  more c s ino z = was_more past x' c s ino z

  -- Parts of a world that stay.
  old_request : (m : Message) → Has m (messages t.world) → (s : ServerId) →
      is_client_node m.header.from ≡ true →
      m.header.to ≡ server_node s → AskedBody (WasAsked after (client m.header.from)) s m.body
  old_request m i s from to =
      body_more (WasAsked before (client m.header.from)) (WasAsked after (client m.header.from))
      (λ r ino z. more (client m.header.from) r ino z) s m.body (h.requests m i s from to)

  old_grant : (m : Message) → Has m (messages t.world) → (s : ServerId) →
      m.header.from ≡ server_node s →
      GrantedBody (WasAsked after (client m.header.to) s) m.body
  old_grant m i s from =
      granted_more (WasAsked before (client m.header.to) s) (WasAsked after (client m.header.to) s)
      (λ ino z. more (client m.header.to) s ino z) m.body (h.grants m i s from)

  old_waits : (s : ServerId) (node : ServerNode) → node_of t.world s ≡ Some node →
      AllWait (λ c ino. WasAsked after c s ino) node.state.locks
  old_waits s node at =
      let z = h.waits s node at in
      record { limit = z.limit; waits = λ x i. more x.client s x.ino (z.waits x i) }

  old_client : (c : ClientId) (site : WorldClient) → site_of t.world c ≡ Some site →
      (a : Association) →
      Has a site.node.state.associations → AsksAt (WasAsked after c) a
  old_client c site at a i = asks_at_more (WasAsked before c) (WasAsked after c) (more c) a
      (h.clients c site at a i)

  same_clients : (v : World) → v.clients ≡ t.world.clients → (c : ClientId) (site : WorldClient) →
      site_of v c ≡ Some site → (a : Association) → Has a site.node.state.associations →
      AsksAt (WasAsked after c) a
  same_clients v q c site at = old_client c site (ap (λ xs. numbered xs c.0) (sym q) ∙ at)

  same_servers : (v : World) → v.servers ≡ t.world.servers → (s : ServerId) (node : ServerNode) →
      node_of v s ≡ Some node → AllWait (λ c ino. WasAsked after c s ino) node.state.locks
  same_servers v q s node at = old_waits s node (ap (λ xs. numbered xs s.0) (sym q) ∙ at)

  same_requests : (v : World) → messages v ≡ messages t.world → (m : Message) → Has m (messages v) →
      (s : ServerId) → is_client_node m.header.from ≡ true → m.header.to ≡ server_node s →
      AskedBody (WasAsked after (client m.header.from)) s m.body
  same_requests v q m i = old_request m (subst (Has m) q i)

  same_grants : (v : World) → messages v ≡ messages t.world → (m : Message) → Has m (messages v) →
      (s : ServerId) → m.header.from ≡ server_node s →
      GrantedBody (WasAsked after (client m.header.to) s) m.body
  same_grants v q m i = old_grant m (subst (Has m) q i)

  alike : (v : World) → v.clients ≡ t.world.clients → v.servers ≡ t.world.servers →
      messages v ≡ messages t.world → AreAsked after v
  alike v a b q =
      record {
        clients = same_clients v a;
        requests = same_requests v q;
        grants = same_grants v q;
        waits = same_servers v b;
      }

  -- One client, or one server, is replaced.
  set_client : (v : World) (c : ClientId) (old new : WorldClient) → site_of t.world c ≡ Some old →
      v.clients ≡ with_numbered c.0 new t.world.clients →
      ((a : Association) → Has a new.node.state.associations → AsksAt (WasAsked after c) a) →
      (x : ClientId) (site : WorldClient) → site_of v x ≡ Some site → (a : Association) →
      Has a site.node.state.associations → AsksAt (WasAsked after x) a
  set_client v c old new at q k x site there =
      go (set_cases t.world.clients c.0 x.0 old new site at
      (ap (λ xs. numbered xs x.0) (sym q) ∙ there))
    where
      go : ((x.0 ≡ c.0) × (site ≡ new)) ⊎ ((x.0 ≢ c.0) × (site_of t.world x ≡ Some site)) →
          (a : Association) →
          Has a site.node.state.associations → AsksAt (WasAsked after x) a
      go (inl z) a i =
          subst (λ y. AsksAt (WasAsked after y) a) (ap (λ n. record { 0 = n }) (sym z.0))
          (k a (subst (λ (y : WorldClient). Has a y.node.state.associations) z.1 i))
      go (inr z) a i = old_client x site z.1 a i

  set_server : (v : World) (s : ServerId) (old new : ServerNode) → node_of t.world s ≡ Some old →
      v.servers ≡ with_numbered s.0 new t.world.servers →
      AllWait (λ c ino. WasAsked after c s ino) new.state.locks →
      (x : ServerId) (node : ServerNode) → node_of v x ≡ Some node →
      AllWait (λ c ino. WasAsked after c x ino) node.state.locks
  set_server v s old new at q k x node there =
      go (set_cases t.world.servers s.0 x.0 old new node at
      (ap (λ xs. numbered xs x.0) (sym q) ∙ there))
    where
      go : ((x.0 ≡ s.0) × (node ≡ new)) ⊎ ((x.0 ≢ s.0) × (node_of t.world x ≡ Some node)) →
          AllWait (λ c ino. WasAsked after c x ino) node.state.locks
      go (inl z) =
          subst (λ y. AllWait (λ c ino. WasAsked after c y ino) node.state.locks)
          (ap (λ n. record { 0 = n }) (sym z.0))
          (subst (λ (y : ServerNode). AllWait (λ c ino. WasAsked after c s ino) y.state.locks)
          (sym z.1) k)
      go (inr z) = old_waits x node z.1

  -- A client's step.
  module _ (c : ClientId) (old : WorldClient) (at : site_of t.world c ≡ Some old) (i : ClientInput)
      (k : TakesAt t.world e c old i) where
    abbrev asked : ℕ → Option Ask
    asked op = numbered (after c) op

    grown : (op : ℕ) (ask : Ask) → numbered (before c) op ≡ Some ask → asked op ≡ Some ask
    grown op ask q = ap (λ l. numbered l op) (asks_more past x' c) ∙ by (ask_in c e)
      where
        by : (o : Option Ask) → numbered (before c ++ cons_option o []) op ≡ Some ask
        by None = ap (λ l. numbered l op) (append-nil (before c)) ∙ q
        by (Some y) = numbered_old (before c) y op ask q

    known : (o : Operation) → Has o old.node.state.operations → asked o.op ≡ Some o.ask
    known o j =
        grown o.op o.ask
        ((stand.asks c old at).keys (key o) (has_map_in key old.node.state.operations o j))

    comes : (ask : Ask) → e ≡ events.App c ask → asked (old.asks + 1) ≡ Some ask
    unfolding safety.ask_of_client
    comes ask q =
        ap (λ l. numbered l (old.asks + 1)) own
        ∙ (ap (λ m. numbered (before c ++ ask ∷ []) m)
        (let n = (stand.asks c old at).count in
        let z : old.asks + 1 ≡ suc (length (before c)) = omega (arith, n) in z)
        ∙ get_last (before c) ask)
      where
        own : after c ≡ before c ++ ask ∷ []
        own =
            asks_more past x' c
            ∙ ap (λ o. before c ++ cons_option o [])
            (ap (ask_in c) q ∙ ap (λ b. if b then Some ask else None) (eq-eqb c.0 c.0 refl))

    tells : (j : ClientInput) → TakesAt t.world e c old j →
        Tells (λ op ask. asked op ≡ Some ask) (λ v n. Unit {0}) j
    tells _ (ByTick q) = tt
    tells _ (ByAsk ask q) = comes ask q
    tells _ (ByMessage n m q z y) = λ s from. tt
    tells _ (ByReport n ok x result q j y z failed) = tt

    knows : (op : ℕ) (ask : Ask) → asked op ≡ Some ask → (ino : ℕ) → cs.file_of ask ≡ Some ino →
        WasAsked after c (cs.server_of ask) ino
    knows op ask q ino f = (ask, numbered_has (after c) op ask q, (f, refl))

    holds : NodeHolds t.world.config t.world.clocks t.world.ended c old.node
    holds = stand.fates.lives.lives.sites c old at

    asks_then : (now : Stamp) (s : ClientState) → s ≡ old.node.state →
        ((b : Association) → Has b (cl.client_step s now i).state.associations →
        AsksAt (WasAsked after c) b)
        × AllSent (WasAsked after c) (cl.client_step s now i).out
    asks_then now s same =
        subst (λ (y : ClientState).
        ((b : Association) → Has b (cl.client_step y now i).state.associations →
        AsksAt (WasAsked after c) b)
        × AllSent (WasAsked after c) (cl.client_step y now i).out) (sym same)
        (step_asks (WasAsked after c) asked knows now old.node.state i holds.fit
        (old_client c old at) holds.once known (tells i k))

    brought : (j : ClientInput) → TakesAt t.world e c old j → (now : Stamp) →
        receiving.Comes (messages t.world) c now Ever ever_on j
    brought _ (ByTick q) now = tt
    brought _ (ByAsk ask q) now = tt
    brought _ (ByMessage n m q z y) now =
        has_map_in Rattle.st_laws_leases.specs.Dates.Dates.message_in t.world.net.messages m
        (numbered_has t.world.net.messages n m z)
    brought _ (ByReport n ok x result q j y z failed) now = tt

  client_step : (v : World) → v.clients ≡ t.world.clients → v.servers ≡ t.world.servers →
      (c : ClientId) (i : ClientInput)
      (site old : WorldClient) → site.node ≡ old.node → site_of t.world c ≡ Some old →
      TakesAt t.world e c old i → (last : World) →
      Leaves (messages t.world) (ev.with_site c (SiteAfter v c i site) v) last
      (ClientTook v c i site).out → AreAsked after last
  client_step v cs_ ss c i site old same at k last l =
      record {
        clients =
            set_client last c old (SiteAfter v c i site) at
            (l.clients ∙ ap (with_numbered c.0 (SiteAfter v c i site)) cs_) z.0;
        requests = λ m j s from to. request m s from to
            (leaves_from (messages t.world) w last u.out l m j);
        grants = λ m j s from. grant m s from (leaves_from (messages t.world) w last u.out l m j);
        waits = same_servers last (l.servers ∙ ss);
      }
    where
      now : Stamp
      now = clock_of v (nodes.Client c)

      w : World
      w = ev.with_site c (SiteAfter v c i site) v

      u : ClientTurn
      u = ClientTook v c i site

      z : ((b : Association) → Has b u.state.associations → AsksAt (WasAsked after c) b) ×
          AllSent (WasAsked after c) u.out
      z = asks_then c old at i k now site.node.state (ap (λ (n : cl.ClientNode). n.state) same)

      few : c.0 ≤ 16
      few = let n = (numbered_below t.world.clients c.0 old at).1 in let y = d.few in
          omega (arith, n, y)

      held : Held (messages t.world) c now Ever ever_on u
      held =
          step_held (messages t.world) c now Ever ever_on site.node.state i
          (brought c old at i k i k now)
          (subst (λ (n : cl.ClientNode). ClientDated (messages t.world) c n.state) (sym same)
          (d.clients c old at)) (λ a j. tt)

      request : (m : Message) (s : ServerId) → is_client_node m.header.from ≡ true →
          m.header.to ≡ server_node s →
          Has m (messages t.world) ⊎ Has (outputs.Send m) u.out →
          AskedBody (WasAsked after (client m.header.from)) s m.body
      request m s from to (inl j) = old_request m j s from to
      request m s from to (inr j) =
          subst (λ x. AskedBody (WasAsked after x) s m.body)
          (ap (λ n. record { 0 = n }) (sym (held.outs m j).from)) (z.1 m j s to)

      grant : (m : Message) (s : ServerId) → m.header.from ≡ server_node s →
          Has m (messages t.world) ⊎ Has (outputs.Send m) u.out →
          GrantedBody (WasAsked after (client m.header.to) s) m.body
      grant m s from (inl j) = old_grant m j s from
      grant m s from (inr j) = absurd
          (server_not_client c.0 s.0 few (sym (held.outs m j).from ∙ from))

  -- Numbers have their clients and files.
  module _ (s : ServerId) (node : ServerNode) (at : node_of t.world s ≡ Some node) where
    g : GivesOnce t.world s node
    g = gives s node at

    owner_asked : (n c ino : ℕ) → g.owner n ≡ Some (c, ino) → WasAsked after (client c) s ino
    owner_asked n c ino q =
        subst (λ y. WasAsked after (client c) s y) (ap (λ (y : ℕ × ℕ). y.1) same)
        (subst (λ y. WasAsked after (client y) s sent.ino) (ap (λ (y : ℕ × ℕ). y.0) same) its)
      where
        sent : WasSent s (messages t.world) n
        sent = g.told n (c, ino) q

        same : ◌≡◌ {A = ℕ × ℕ} (sent.message.header.to, sent.ino) (c, ino)
        same =
            let p = g.pairs sent.message.header.to in
            some_is
            (sym (granted_owned g.owner sent.message.header.to sent.message p.net sent.ino _
            sent.mode sent.body p.tells
            (p.shows sent.message sent.among sent.from refl)) ∙ q)

        its : WasAsked after (client sent.message.header.to) s sent.ino
        its =
            subst (GrantedBody (WasAsked after (client sent.message.header.to) s)) sent.body
            (old_grant sent.message sent.among s sent.from)

    module _ (run : node.running ≡ true) where
      right : LocksOk g.owner node.state.locks × Keeps g.owner node.state.sessions
      right = subst (λ b. StateOk g.owner b node.state) run g.state

      row_asked : (r : LockRow) → Has r node.state.locks.rows → WasAsked after r.client s r.ino
      row_asked r i = owner_asked r.g.0 r.client.0 r.ino (right.0.rows r i)

      found_row : (c : ClientId) (ino : ℕ) (r : LockRow) →
          locks.row_of node.state.locks c ino ≡ Some r →
          WasAsked after c s ino
      found_row c ino r q =
          let z = found_at (locks.is_row_of c ino) node.state.locks.rows r q in
          let y = and_true (r.client.0 == c.0) (r.ino == ino) z.0 in
          subst (λ n. WasAsked after c s n) (eqb-true r.ino ino y.1)
          (subst (λ x. WasAsked after x s r.ino)
          (ap (λ n. record { 0 = n }) (eqb-true r.client.0 c.0 y.0)) (row_asked r z.1))

      kept_asked : (c : ClientId) (y : Session) →
          sessions.session_of node.state.sessions c ≡ Some y → (last : ℕ) (b : Body) →
          y.state ≡ states.Live last (Some b) → GrantedBody (λ ino. WasAsked after c s ino) b
      kept_asked c y q last b is = by b (subst (FitsState g.owner c.0) is (right.1 c y q))
        where
          by : (b : Body) → Fits g.owner c.0 b → GrantedBody (λ ino. WasAsked after c s ino) b
          by (bodies.Granted ino n mode) f = owner_asked n.0 c.0 ino f
          by b f = tt

  pub tables_now : TablesAsked after t.world
  tables_now = record { rows = λ s node at run r i. row_asked s node at run r i; waits = old_waits }

  server_step : (s : ServerId) (i : ServerInput) (node : ServerNode) →
      node_of t.world s ≡ Some node → node.running ≡ true →
      Brings t.world i →
      Leaves (messages t.world) (ev.with_node s (NodeAfter t.world s i node) (ev.counted t.world))
      (ServerLeft t.world s i node).world
      (ServerTook t.world s i node).out → AreAsked after (ServerLeft t.world s i node).world
  server_step s i node at run brings l =
      record {
        clients = same_clients last l.clients;
        requests = λ m j r from to. request m r from to
            (leaves_from (messages t.world) w last u.out l m j);
        grants = λ m j r from. grant m r from (leaves_from (messages t.world) w last u.out l m j);
        waits = set_server last s node (NodeAfter t.world s i node) at l.servers k.waits;
      }
    where
      now : Stamp
      now = clock_of (ev.counted t.world) (nodes.Server s)

      w : World
      w = ev.with_node s (NodeAfter t.world s i node) (ev.counted t.world)

      last : World
      last = (ServerLeft t.world s i node).world

      u : ServerTurn
      u = ServerTook t.world s i node

      its : (j : ServerInput) → Brings t.world j → (m : Message) → j ≡ serving.Control m →
          Has m (messages t.world)
      its serving.Tick b m q = cc q
      its (serving.Control x) b m q = subst (λ y. Has y (messages t.world)) (same x m q) b
        where
          same : (x m : Message) → serving.Control x ≡ serving.Control m → x ≡ m
          same x m q = cc

      asked_of : (m : Message) → i ≡ serving.Control m → m.header.to ≡ server_node s →
          is_client_node m.header.from ≡ true →
          (ino : ℕ) (mode : Mode) → m.body ≡ bodies.Acquire ino mode →
          WasAsked after (server.sender m.header) s ino
      asked_of m q to from ino mode is =
          subst (AskedBody (WasAsked after (client m.header.from)) s) is
          (old_request m (its i brings m q) s from to)

      k : Gives s (λ c ino. WasAsked after c s ino) node.state now i (found_row s node at run)
          (kept_asked s node at run) asked_of u
      k =
          served s (λ c ino. WasAsked after c s ino) node.state now i (found_row s node at run)
          (kept_asked s node at run) asked_of
          (record {
            id = (d.servers s node at).id;
            waits = old_waits s node at;
            sent =
                λ m j. absurd j;
          })

      request : (m : Message) (r : ServerId) → is_client_node m.header.from ≡ true →
          m.header.to ≡ server_node r →
          Has m (messages t.world) ⊎ Has (outputs.Send m) u.out →
          AskedBody (WasAsked after (client m.header.from)) r m.body
      request m r from to (inl j) = old_request m j r from to
      request m r from to (inr j) = absurd (no_client s m.header.from (k.sent m j).0 from)

      grant : (m : Message) (r : ServerId) → m.header.from ≡ server_node r →
          Has m (messages t.world) ⊎ Has (outputs.Send m) u.out →
          GrantedBody (WasAsked after (client m.header.to) r) m.body
      grant m r from (inl j) = old_grant m j r from
      grant m r from (inr j) =
          let f = k.sent m j in
          let o = f.0 in
          subst (λ x. GrantedBody (WasAsked after (client m.header.to) x) m.body)
          (ap (λ n. record { 0 = n }) (omega (arith, o, from))) f.1

  -- Crashes and starts.
  none_ask : {A : Type 0} (c : ClientId) (f : A → Association) (xs : List A) →
      ((x : A) → (f x).session ≡ None) →
      (a : Association) → Has a (map f xs) → AsksAt (WasAsked after c) a
  none_ask c f xs none a i = let z = has_map f xs a i in
      nothing a (ap (λ (b : Association). b.session) z.2 ∙ none z.0)
    where
      nothing : (a : Association) → a.session ≡ None → AsksAt (WasAsked after c) a
      nothing a q = subst (SessionAsks (AskedBody (WasAsked after c) a.server)) (sym q) tt

  stopped : (c : ClientId) (site : WorldClient) → site_of t.world c ≡ Some site →
      AreAsked after (ev.crashes_client (ev.counted t.world) c (Some site)).world
  unfolding ev.crashes_client ev.marks cl.crash
  stopped c site at =
      record {
        clients = set_client (ev.crashes_client (ev.counted t.world) c (Some site)).world c site
            (ev.stopped_site site) at refl
            (none_ask c cl.crashed_association site.node.state.associations (λ a. refl));
        requests = same_requests (ev.crashes_client (ev.counted t.world) c (Some site)).world refl;
        grants = same_grants (ev.crashes_client (ev.counted t.world) c (Some site)).world refl;
        waits = same_servers (ev.crashes_client (ev.counted t.world) c (Some site)).world refl;
      }

  begun : (c : ClientId) (site : WorldClient) → site_of t.world c ≡ Some site →
      AreAsked after (ev.starts_client (ev.counted t.world) c (Some site))
  unfolding ev.starts_client cl.start
  begun c site at =
      record {
        clients = set_client (ev.starts_client (ev.counted t.world) c (Some site)) c site
            (ev.started_site site) at refl
            (none_ask c cl.started_association site.node.state.associations (λ a. refl));
        requests = same_requests (ev.starts_client (ev.counted t.world) c (Some site)) refl;
        grants = same_grants (ev.starts_client (ev.counted t.world) c (Some site)) refl;
        waits = same_servers (ev.starts_client (ev.counted t.world) c (Some site)) refl;
      }

  crashed : (s : ServerId) (node : ServerNode) → node_of t.world s ≡ Some node →
      AreAsked after (ev.crashes_server (ev.counted t.world) s (Some node))
  unfolding ev.crashes_server server.crash
  crashed s node at =
      record {
        clients = same_clients (ev.crashes_server (ev.counted t.world) s (Some node)) refl;
        requests = same_requests (ev.crashes_server (ev.counted t.world) s (Some node)) refl;
        grants = same_grants (ev.crashes_server (ev.counted t.world) s (Some node)) refl;
        waits = set_server (ev.crashes_server (ev.counted t.world) s (Some node)) s node
            (server.crash_node node) at refl (record { limit = refl; waits = λ x i. absurd i });
      }

  started : (s : ServerId) (node : ServerNode) → node_of t.world s ≡ Some node →
      AreAsked after (ev.starts_server (ev.counted t.world) s (Some node))
  unfolding ev.starts_server server.start server.begin_epoch
  started s node at =
      record {
        clients = same_clients (ev.starts_server (ev.counted t.world) s (Some node)) refl;
        requests = same_requests (ev.starts_server (ev.counted t.world) s (Some node)) refl;
        grants = same_grants (ev.starts_server (ev.counted t.world) s (Some node)) refl;
        waits =
            set_server (ev.starts_server (ev.counted t.world) s (Some node)) s node
            (server.start_node node (clock_of (ev.counted t.world) (nodes.Server s))) at refl
            (record { limit = refl; waits = λ x i. absurd i });
      }

  pub asked_on : world_step t.world e ≡ Ok sc → AreAsked after sc.world
  asked_on f =
      event_takes t.world e (AreAsked after) alike
      (λ v a b c i site old same at k last l. client_step v a b c i site old same at k last l)
      (λ s i node at run b l. server_step s i node at run b l) stopped begun crashed started sc f

-- At the start.
pub asked_begins : (k : Config) (clients servers disks blocks form : ℕ) →
    AreAsked (asks_of []) (fresh_world k clients servers disks blocks form)
unfolding fresh_world cl.fresh_client server.fresh_server
asked_begins k clients servers disks blocks form =
    record {
      clients = λ c site at a i. none c site (fresh_is (fresh_site k servers) clients c.0 site at) a
          i;
      requests = λ m i s from to. absurd i;
      grants = λ m i s from. absurd i;
      waits = λ s node at.
          subst (λ (y : ServerNode). AllWait (λ c ino. WasAsked (asks_of []) c s ino) y.state.locks)
          (sym (fresh_is (node_at_start k servers disks blocks) servers s.0 node at))
          (record { limit = refl; waits = λ x i. absurd i });
    }
  where
    nothing : (c : ClientId) (a : Association) → a.session ≡ None →
        AsksAt (WasAsked (asks_of []) c) a
    nothing c a q = subst (SessionAsks (AskedBody (WasAsked (asks_of []) c) a.server)) (sym q) tt

    none : (c : ClientId) (site : WorldClient) → site ≡ fresh_site k servers c.0 →
        (a : Association) →
        Has a site.node.state.associations → AsksAt (WasAsked (asks_of []) c) a
    none c site e a i =
        let z = has_map cl.fresh_association (numbers 1 servers) a
        (subst (λ (y : WorldClient). Has a y.node.state.associations) e i) in
        nothing c a (ap (λ (y : Association). y.session) z.2)
