-- Requests of a life before the last one were served. So a client's request is past once its server serves another one of the client; and once the client has
-- a lease that lasts in a later life.
use Rattle.st_lemmas.proofs.Words
use Words.{◌≡◌, ◌≢◌, ◌⊎◌, ℕ, zero, suc, ◌+◌, ◌-◌, ◌<◌, ◌≤◌, arith, Bool, true, false, List, Option, Some, None, refl, sym, ap, ◌∙◌, subst, inl, inr}
use Words.{Ask, Body, ClientId, Message, Request, ServerId, Session, SessionState}
use Words.asks
use Words.bodies
use Words.nodes
use Words.states
use Words.ClientState.{Association, ClientSession, reasserts}
use Words.History.{Traced}
use Words.Lists.{Has}
use Words.Lookups.{some_is}
use Words.Safety.{Step}
use Words.Server.{ServerNode}
use Words.Sessions as sessions
use Words.Tables.{same_or_not}
use Words.Truth.{below_or_not, clash}
use Words.World.{World, WorldClient, clock_of, node_of}
use Rattle.st_protocol.specs.Assoc as net
use Rattle.st_protocol.proofs.Invariant.{Invariant}
use Rattle.st_protocol.proofs.World.{invariant}
use Rattle.st_laws_refine.specs.Client.Invariants.{Lasts}
use Rattle.st_laws_refine.specs.Server.Invariants.{pairs}
use Rattle.st_laws_refine.specs.Server.Pair.{client_in}
use Rattle.st_laws_refine.specs.Views.Halves.{client_of, due_in, epoch_in, leased_in, life_view}
use Rattle.st_laws_leases.specs.Sides.World.{AllStand}
use Rattle.st_laws_reads.specs.AllClients.Law.{Running}
use Rattle.st_laws_requests.specs.Cuts.Cuts.{AsksFor, Early, Waits, WaitsAt}
use Rattle.st_laws_requests.specs.Cuts.Cuts as cuts
use Rattle.st_laws_requests.specs.Replies.ServedRequests.{IsBehind, Reached}
use Rattle.st_laws_extents.specs.CutRequests.Asks.{AsksStand, Of, open_from}
use Rattle.st_laws_extents.specs.CutRequests.EndedLives.{IsPast}
use Rattle.st_laws_extents.specs.CutRequests.Law.{gifts}
use Rattle.st_laws_extents.specs.CutRequests.World.{IsServed}
use Rattle.st_laws_extents.proofs.CutRequests.EndedLives.{behind_less}
use Rattle.st_laws_extents.proofs.CutRequests.Standing.{own_session, whole}
use Rattle.st_laws_cuts.specs.EndedRequests.{AllPast}
use Rattle.st_laws_cuts.specs.ServedRequests.{IsServedBy}
use Rattle.st_laws_names.specs.OutstandingKeys.{SameKey}
use Rattle.st_laws_names.proofs.Changes.{ChangesHold}
use Rattle.st_laws_names.proofs.Waiting.{Pending}
use Rattle.st_laws_names.proofs.World.{Asked, waits_at}

-- the message with the number before
abbrev pub earlier : Message → Message
earlier m = record m { header = record m.header { number = m.header.number - 1 } }

reached_none : (x : SessionState) → Reached 0 x
reached_none (states.Live last reply) = omega arith
reached_none states.Ended = tt

asks_itself : (a : Ask) (b : Body) → AsksFor a b → reasserts b ≡ false
asks_itself (asks.Cut f p) (bodies.Cut ino g q) h = refl
asks_itself (asks.Name s k) (bodies.Name op) h = refl
asks_itself a b h = absurd h

-- the session of an association, in which a request was sent
pub record SessionOf (a : Association) (m : Message) : Type 0 where
  pub session : ClientSession
  pub has : a.session ≡ Some session
  pub epoch : m.header.epoch ≡ session.epoch.0

-- A client that runs, and a request of its present life that an operation waits for.
module _ (k : net.Config) (count : ℕ) (past : List Step) (t : Traced) (h : ChangesHold k count past t) (c : ClientId) (site : WorldClient)
    (run : Running t.world c.0 site) (a : Association) (i : Has a site.node.state.associations) (m : Message) (life : m.header.life ≡ a.life.0)
    (pos : 1 ≤ m.header.number) (z : Pending past (gifts k count t.world h.names_.all.base.all c a.server) t.world c a.server site.node.state.operations m)
  where
    module _ (x : ClientSession) (e : a.session ≡ Some x) (q : Request) (f : x.requests.asked ≡ Some q) (asks_ : AsksFor z.operation.ask q.body) where
      here : Asked past t.world c z.operation.op
      here =
          record {
            at = t.world;
            among = inr refl;
            server = a.server;
            life_ = a.life.0;
            epoch_ = x.epoch.0;
            number_ = q.number;
            waits = waits_at t.world c site run.there a i z.operation z.there z.asked x e q f;
          }

      same : SameKey z.row.asked.server a.server z.row.asked.life_ z.row.asked.epoch_ z.row.asked.number_ a.life.0 x.epoch.0 q.number
      unfolding here
      same = h.pairs.pairs c z.operation.op z.row.asked here

      epoch : m.header.epoch ≡ x.epoch.0
      epoch = sym z.row.same.epoch_ ∙ same.epoch_

      number : m.header.number ≡ q.number
      number = sym z.row.same.number_ ∙ same.number_

      stands : AsksStand (IsServed t.world c) (gifts k count t.world h.names_.all.base.all c) a.server a.life.0 x.epoch.0 x.requests x.cutting x.due
      stands =
          subst (Of (AsksStand (IsServed t.world c) (gifts k count t.world h.names_.all.base.all c)) a.server a.life.0) e
          (h.names_.all.base.asks c site run.there a i)

      due : x.due ≡ false
      due = go x.due refl
        where
          go : (b : Bool) → x.due ≡ b → b ≡ false
          go false d = refl
          go true d = clash (stands.first.only q f d) (asks_itself z.operation.ask q.body asks_)

      module _ (node : ServerNode) (at : node_of t.world a.server ≡ Some node) where
        abbrev w : net.World
        w = pairs a.server.0 (h.names_.all.base.all.servers a.server.0 node at).ended t.world node (h.names_.all.base.all.servers a.server.0 node at).ghosts

        inv : Invariant k (w.at c.0)
        inv = invariant k w h.names_.all.base.all.sound (h.names_.all.base.all.servers a.server.0 node at).both.stands.reached c.0

        own : client_in t.world c.0 a.server.0 ((h.names_.all.base.all.servers a.server.0 node at).ended c.0) ≡
            client_of ((h.names_.all.base.all.servers a.server.0 node at).ended c.0) (clock_of t.world (nodes.Client c)).0 a
        own = whole k count t.world h.names_.all.base.all a.server.0 node at c.0 site run a i refl

        ahead : x.epoch.0 ≤ node.state.stable.epoch.0
        ahead = let l = inv.timing_.ahead in let y = ap (λ (d : net.Client). d.epoch) own ∙ ap epoch_in e in omega (arith, l, y)

        begun : node.running ≡ true → x.epoch.0 ≡ node.state.stable.epoch.0 → (o : Option Session) → sessions.session_of node.state.sessions c ≡ o →
            IsBehind o a.life.0 0
        begun r g o is =
            by o is
            (let l = inv.locks_.joined r (ap (λ (d : net.Client). d.epoch) own ∙ (ap epoch_in e ∙ g)) (ap (λ (d : net.Client). d.leased) own ∙ ap leased_in e)
            (ap (λ (d : net.Client). d.due) own ∙ (ap due_in e ∙ due)) in
            let y = ap (λ (d : net.Client). d.life) own in
            omega (arith, l, y))
            (let l = inv.locks_.born in let y = ap (λ (d : net.Client). d.life) own in omega (arith, l, y))
          where
            by : (o : Option Session) → sessions.session_of node.state.sessions c ≡ o → a.life.0 ≤ life_view (sessions.session_of node.state.sessions c) →
                1 ≤ a.life.0 → IsBehind o a.life.0 0
            by None is l b = let y = ap life_view is in absurd (omega (arith, l, b, y))
            by (Some s) is l b = go (below_or_not a.life.0 s.life.0)
              where
                go : (a.life.0 < s.life.0) ⊎ (s.life.0 ≤ a.life.0) → (a.life.0 < s.life.0) ⊎ ((a.life.0 ≡ s.life.0) × Reached 0 s.state)
                go (inl u) = inl u
                go (inr u) = inr ((let y = ap life_view is in omega (arith, u, l, y)), reached_none s.state)

        behind : node.running ≡ true → x.epoch.0 ≡ node.state.stable.epoch.0 → (n : ℕ) → m.header.number - 1 ≡ n →
            IsBehind (sessions.session_of node.state.sessions c) a.life.0 n
        behind r g zero d = begun r g (sessions.session_of node.state.sessions c) refl
        behind r g (suc j) d =
            (stands.served node at (suc j) (omega arith)
            (subst (λ o. suc j + 1 ≡ open_from x.requests.next o) (sym f) (omega (arith, d, pos, number)))).behind r g

        earlier_past : IsPast c node (earlier m)
        earlier_past = go (same_or_not x.epoch.0 node.state.stable.epoch.0)
          where
            go : (x.epoch.0 ≡ node.state.stable.epoch.0) ⊎ (x.epoch.0 ≢ node.state.stable.epoch.0) → IsPast c node (earlier m)
            go (inr n) = inl (let l = ahead in omega (arith, l, n, epoch))
            go (inl g) =
                inr (
                  epoch ∙ g,
                  λ r. subst (λ l. IsBehind (sessions.session_of node.state.sessions c) l (m.header.number - 1)) (sym life)
                      (behind r g (m.header.number - 1) refl),
                )

    both : AllPast t.world c a.server (earlier m) × SessionOf a m
    both = by a.session refl (((h.names_.all.base.cuts.clients c site run.there).all run.runs a i).waits z.operation z.there z.asked)
      where
        asked_ : (x : ClientSession) → a.session ≡ Some x → (o : Option Request) → x.requests.asked ≡ o →
            WaitsAt (Early past c) a.server a.life.0 x.epoch.0 o z.operation → AllPast t.world c a.server (earlier m) × SessionOf a m
        asked_ x e None f w = absurd w
        asked_ x e (Some q) f w =
            (λ node at. earlier_past x e q f w.0 node at, record { session = x; has = e; epoch = epoch x e q f w.0 })

        by : (o : Option ClientSession) → a.session ≡ o → Waits (Early past c) a.server a.life.0 (cuts.view o) z.operation →
            AllPast t.world c a.server (earlier m) × SessionOf a m
        by None e w = absurd w
        by (Some x) e w = asked_ x e x.requests.asked refl w

    pub served_before : AllPast t.world c a.server (earlier m)
    served_before = both.0

    pub session_there : SessionOf a m
    session_there = both.1

-- A client with a lease that lasts, in a later life than that of a request.
pub met_past : (k : net.Config) (count : ℕ) (w : World) (all : AllStand k count w) (c : ClientId) (site : WorldClient) → Running w c.0 site →
    (b : Association) → Has b site.node.state.associations → (x : ClientSession) → b.session ≡ Some x →
    Lasts site.node.state.config.lease (clock_of w (nodes.Client c)).0 b.session → (m : Message) → m.header.life < b.life.0 →
    AllPast w c b.server (earlier m) → AllPast w c b.server m
met_past k count w all c site run b i x e lasts m less before node at = one (before node at)
  where
    one : IsPast c node (earlier m) → IsPast c node m
    one (inl l) = inl l
    one (inr (q, f)) = inr (q, λ r. go r (sessions.session_of node.state.sessions c) refl (f r))
      where
        go : node.running ≡ true → (o : Option Session) → sessions.session_of node.state.sessions c ≡ o → IsBehind o m.header.life (m.header.number - 1) →
            IsBehind o m.header.life m.header.number
        go r None is z = absurd z
        go r (Some y) is (inl l) = inl l
        go r (Some y) is (inr (l, z)) = by (sessions.is_live y) refl y.state refl
          where
            by : (live : Bool) → sessions.is_live y ≡ live → (st : SessionState) → y.state ≡ st →
                (m.header.life < y.life.0) ⊎ ((m.header.life ≡ y.life.0) × Reached m.header.number y.state)
            by true live st v =
                let d = own_session k count w all b.server.0 node at c.0 site run b i refl x e lasts r y is live in
                let u = d.0 in absurd (omega (arith, u, l, less))
            by false live states.Ended v = inr (l, subst (Reached m.header.number) (sym v) tt)
            by false live (states.Live last reply) v = clash (ap sessions.is_live_state v) live

-- A server serves a request: another one of this client is past after that.
pub passed_by : (w v : World) → ((c : ClientId) (s : ServerId) (m : Message) → AllPast w c s m → AllPast v c s m) → (c : ClientId) (s : ServerId)
    (node : ServerNode) → node_of w s ≡ Some node → node.running ≡ true → (other : Message) → IsServedBy node.state other → other.header.from ≡ c.0 →
    AllPast v c s other → (m : Message) → AllPast w c s (earlier m) → AllPast v c s m
passed_by w v on c s node at run other served from over m before = go (before node at)
  where
    here : IsPast c node m → AllPast v c s m
    here p = on c s m (λ n q. subst (λ (y : ServerNode). IsPast c y m) (some_is (sym at ∙ q)) p)

    session : sessions.session_of node.state.sessions c ≡ Some served.session
    session = subst (λ (d : ClientId). sessions.session_of node.state.sessions d ≡ Some served.session) (ap (λ n. record { 0 = n }) from) served.is

    last : m.header.epoch ≡ node.state.stable.epoch.0 → m.header.life ≡ served.session.life.0 → m.header.number - 1 ≤ served.last → AllPast v c s m
    last e l n p q = by (over p q)
      where
        less : m.header.number ≤ other.header.number
        less = let y = served.next in omega (arith, y, n)

        by : IsPast c p other → IsPast c p m
        by (inl u) = let y = served.of_epoch in inl (omega (arith, u, y, e))
        by (inr (u, f)) =
            inr (
              (let y = served.of_epoch in omega (arith, u, y, e)),
              λ r. behind_less (sessions.session_of p.state.sessions c) m.header.life other.header.number m.header.number less
                  (subst (λ d. IsBehind (sessions.session_of p.state.sessions c) d other.header.number) (sym (l ∙ served.of_life)) (f r)),
            )

    go : IsPast c node (earlier m) → AllPast v c s m
    go (inl l) = here (inl l)
    go (inr (e, f)) = by (subst (λ o. IsBehind o m.header.life (m.header.number - 1)) session (f run))
      where
        by : IsBehind (Some served.session) m.header.life (m.header.number - 1) → AllPast v c s m
        by (inl l) = here (inr (e, λ r. subst (λ o. IsBehind o m.header.life m.header.number) (sym session) (inl l)))
        by (inr (l, z)) = last e l (subst (Reached (m.header.number - 1)) served.state z)
