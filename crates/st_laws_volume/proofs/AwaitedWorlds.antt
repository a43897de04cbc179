-- An event keeps what waits at a client for the reply to an outstanding request: after every event,
-- an operation waits for it that had come before the request was sent; or the client's lease doesn't
-- serve, and no operation of the server is left that was not sent, but syncs.
use Rattle.st_lemmas.proofs.Words
use Words.{◌≡◌, ◌⊎◌, ℕ, ◌≤◌, Bool, true, false, List, [], ◌∷◌, ◌++◌, Option, Some, None, Ok, refl, sym, ap, ◌∙◌, subst, inl, inr, le-leb, map, nat_le}
use Words.{Body, ClientId, Config, Event, KnownExtent, Message, Operation, PageCommand, Request, ServerId, Stamp}
use Words.bodies
use Words.io
use Words.nodes
use Words.Client as cl
use Words.ClientState as cs
use Words.ClientState.{Association, ClientSession, ClientState}
use Words.Events as ev
use Words.Events.{WorldTurn, world_step}
use Words.History.{Traced}
use Words.Lists.{Has}
use Words.Lookups.{some_is}
use Words.Extents.{numbers}
use Words.Numbers.{numbered_below, numbered_has}
use Words.Safety as safety
use Words.Safety.{Step, is_after_ask, step}
use Words.Tables.{has_append, has_map}
use Words.Truth.{clash, none_not_some}
use Words.World.{World, WorldClient, clock_of, fresh_site, fresh_world, site_of}
use Rattle.st_laws_leases.specs.Dates.Dates.{messages}
use Rattle.st_laws_pages.proofs.Asks.World.{asks_of}
use Rattle.st_laws_requests.specs.Cuts.Cuts.{AssociationOk, CutsHold, Early, Keyed}
use Rattle.st_laws_requests.proofs.Cuts.Step.{onces}
use Rattle.st_laws_volume.proofs.AwaitedAsks as awaited
use Rattle.st_laws_volume.proofs.AwaitedReplies.{IsWaiting, WaitsFor}
use Rattle.st_laws_volume.proofs.AwaitedKinds.{rests_on, works, writes}
use Rattle.st_laws_volume.proofs.AwaitedSteps as steps
use Rattle.st_laws_volume.proofs.AwaitedSteps.{All, HeardTells, Quiet}
use Rattle.st_laws_volume.proofs.Clocks.{clocks_go_on}
use Rattle.st_laws_volume.proofs.EventClients.{Crashes, SiteNext, SiteStep, Starts, Stays, Steps, event_clients}
use Rattle.st_laws_volume.proofs.KnownLocks.{LocksKnown}
use Rattle.st_laws_volume.proofs.OutstandingReads.{AllClean}

-- the lease doesn't serve, and no operation of the server is left that was not sent, but syncs
abbrev pub Idle : Config → Stamp → ServerId → List Operation → ClientSession → Type 0
Idle k now s os x = (cs.is_serving k x now ≡ false) × Quiet s os

-- at a server
pub record AwaitsAt (Known : ServerId → ℕ → Type 0) (past : List Step) (w : World) (c : ClientId) (site : WorldClient) (a : Association) : Type 0 where
  pub locked : (x : ClientSession) → a.session ≡ Some x → LocksKnown Known a.server x.locks
  pub reads : (y : PageCommand) → Has y a.store.commands → y.kind ≡ io.Read → Known a.server y.ino
  pub waits :
      (x : ClientSession) (q : Request) → a.session ≡ Some x → x.requests.asked ≡ Some q →
      WaitsFor (Early past c) Known (Idle site.node.state.config (clock_of w (nodes.Client c)) a.server site.node.state.operations) a.server a.life.0 x
      a.store.extents site.node.state.operations q.number q.body

-- of a client that runs
abbrev pub AwaitsOf : (ServerId → ℕ → Type 0) → List Step → World → ClientId → Type 0
AwaitsOf Known past w c =
    (site : WorldClient) → site_of w c ≡ Some site → site.node.running ≡ true → (a : Association) → Has a site.node.state.associations →
    AwaitsAt Known past w c site a

-- More is known.
waiting_more : (B D : ServerId → ℕ → ℕ → ℕ → ℕ → Type 0) (test : Operation → Bool) (s : ServerId) (life epoch n : ℕ) (os : List Operation) →
    ((o : Operation) → Has o os → B s life epoch n o.op → D s life epoch n o.op) → IsWaiting B test s life epoch n os → IsWaiting D test s life epoch n os
waiting_more B D test s life epoch n os f w = record { o = w.o; there = w.there; picked = w.picked; before = f w.o w.there w.before }

waits_more : (B D : ServerId → ℕ → ℕ → ℕ → ℕ → Type 0) (K L : ServerId → ℕ → Type 0) (I J : ClientSession → Type 0) (s : ServerId) (life : ℕ)
    (x : ClientSession) (xs : List KnownExtent) (os : List Operation) (n : ℕ) (b : Body) →
    ((o : Operation) → Has o os → B s life x.epoch.0 n o.op → D s life x.epoch.0 n o.op) → ((ino : ℕ) → K s ino → L s ino) → (I x → J x) →
    WaitsFor B K I s life x xs os n b → WaitsFor D L J s life x xs os n b
waits_more B D K L I J s life x xs os n (bodies.Allocate ino g p count) f h i (m, (inl w, d)) =
    (m, (inl (waiting_more B D (writes s ino p) s life x.epoch.0 n os f w), h ino d))
waits_more B D K L I J s life x xs os n (bodies.Allocate ino g p count) f h i (m, (inr q, d)) = (m, (inr (i q), h ino d))
waits_more B D K L I J s life x xs os n (bodies.Acquire ino mode) f h i (inl (inl w)) =
    inl (inl (waiting_more B D (works s ino) s life x.epoch.0 n os f w))
waits_more B D K L I J s life x xs os n (bodies.Acquire ino mode) f h i (inl (inr q)) = inl (inr (i q))
waits_more B D K L I J s life x xs os n (bodies.Acquire ino mode) f h i (inr q) = inr (h ino q)
waits_more B D K L I J s life x xs os n (bodies.Map ino g p) f h i w = h ino w
waits_more B D K L I J s life x xs os n (bodies.Cut ino g p) f h i w = h ino w
waits_more B D K L I J s life x xs os n b f h i w = tt

-- One event.
module _ (past : List Step) (t : Traced) (e : Event) (sc : WorldTurn) (happened : world_step t.world e ≡ Ok sc) (cuts : CutsHold past t)
    (clean : AllClean t.world) (c : ClientId) (K L : ServerId → ℕ → Type 0)
    (more : (s : ServerId) (ino : ℕ) → K s ino → L s ino)
    (tells : (r : SiteStep t.world sc c) → HeardTells L r.site.node.state.associations r.input) where
  abbrev now : Stamp
  now = clock_of t.world (nodes.Client c)

  -- an ask that had come before this event had come before its step
  early_on : (site : WorldClient) → site_of t.world c ≡ Some site → (s : ServerId) (life epoch number : ℕ) (o : Operation) →
      Has o site.node.state.operations → Early past c s life epoch number o.op → Early (past ++ step t e sc ∷ []) c s life epoch number o.op
  early_on site at s life epoch number o i h y m j z q = go (has_append past (step t e sc ∷ []) y j)
    where
      low : o.op ≤ site.asks
      low =
          let k = cuts.clients c site at in
          subst (λ n. o.op ≤ n) k.count (numbered_below (asks_of past c) o.op o.ask (k.asked o i)).1

      go : Has y past ⊎ Has y (step t e sc ∷ []) → is_after_ask c o.op y ≡ true
      go (inl j) = h y m j z q
      go (inr (inl v)) =
          subst (λ (u : Step). is_after_ask c o.op u ≡ true) (sym v)
          (subst (λ a. nat_le o.op (safety.asks_at a) ≡ true) (sym at) (le-leb o.op site.asks low))
      go (inr (inr j)) = absurd j

  -- a new key
  fresh : (s : ServerId) (life epoch number op : ℕ) → ((m : Message) → Has m (messages t.world) → Keyed c s life epoch number m → ⊥) →
      Early (past ++ step t e sc ∷ []) c s life epoch number op
  fresh s life epoch number op n y m j z q = absurd (n m (was (has_append past (step t e sc ∷ []) y j)) q)
    where
      was : Has y past ⊎ Has y (step t e sc ∷ []) → Has m (messages t.world)
      was (inl j) = cuts.grown y j m z
      was (inr (inl v)) = subst (λ (u : Step). Has m (messages u.before.world)) v z
      was (inr (inr j)) = absurd j

  -- the client stays as it was
  stays : site_of sc.world c ≡ site_of t.world c → AwaitsOf K past t.world c → AwaitsOf L (past ++ step t e sc ∷ []) sc.world c
  stays q h site at runs a i =
      record {
        locked = λ x s l j. more a.server l.ino (z.locked x s l j);
        reads = λ y j r. more a.server y.ino (z.reads y j r);
        waits =
            λ x r s f. waits_more (Early past c) (Early (past ++ step t e sc ∷ []) c) K L (Idle site.node.state.config now a.server site.node.state.operations)
            (Idle site.node.state.config (clock_of sc.world (nodes.Client c)) a.server site.node.state.operations) a.server a.life.0 x a.store.extents
            site.node.state.operations r.number r.body
            (λ o j y. early_on site was a.server a.life.0 x.epoch.0 r.number o j y) (λ ino y. more a.server ino y)
            (λ y. (rests_on site.node.state.config x.lease now (clock_of sc.world (nodes.Client c)) (clocks_go_on t.world e sc happened c) y.0, y.1))
            (z.waits x r s f);
      }
    where
      was : site_of t.world c ≡ Some site
      was = sym q ∙ at

      z : AwaitsAt K past t.world c site a
      z = h site was runs a i

  -- it takes a step
  module _ (r : SiteStep t.world sc c) (h : AwaitsOf K past t.world c) where
    abbrev Fine : Association → List Operation → Type 0
    Fine a os = awaited.Ok (messages t.world) c (Early (past ++ step t e sc ∷ []) c) fresh L (clock_of t.world (nodes.Client c)) r.site.node.state.config a os

    before : (a : Association) → Has a r.site.node.state.associations → Fine a r.site.node.state.operations
    before a i =
        record {
          numbered = record { lives = ok.numbers.lives; placed = ok.numbers.placed; counts = ok.numbers.counts };
          locked = locked a.session refl;
          reads = λ y j q. more a.server y.ino (z.reads y j q);
          waits = session a.session refl;
        }
      where
        ok : AssociationOk past (messages t.world) c r.site.node.state.operations a
        ok = (cuts.clients c r.site r.there).all r.runs a i

        z : AwaitsAt K past t.world c r.site a
        z = h r.site r.there r.runs a i

        locked : (o : Option ClientSession) → a.session ≡ o →
            awaited.OfLocks (messages t.world) c (Early (past ++ step t e sc ∷ []) c) fresh L (clock_of t.world (nodes.Client c)) r.site.node.state.config
            a.server o
        locked None q = tt
        locked (Some x) q = λ l j. more a.server l.ino (z.locked x q l j)

        request : (x : ClientSession) → a.session ≡ Some x → (o : Option Request) → x.requests.asked ≡ o →
            awaited.OfRequest (messages t.world) c (Early (past ++ step t e sc ∷ []) c) fresh L (clock_of t.world (nodes.Client c)) r.site.node.state.config
            a.server a.life.0 x a.store.extents r.site.node.state.operations o
        request x q None f = tt
        request x q (Some y) f =
            waits_more (Early past c) (Early (past ++ step t e sc ∷ []) c) K L
            (Idle r.site.node.state.config (clock_of t.world (nodes.Client c)) a.server r.site.node.state.operations)
            (λ v. cs.is_serving r.site.node.state.config v (clock_of t.world (nodes.Client c)) ≡ false) a.server a.life.0 x a.store.extents
            r.site.node.state.operations y.number y.body (λ o j d. early_on r.site r.there a.server a.life.0 x.epoch.0 y.number o j d)
            (λ ino d. more a.server ino d) (λ d. d.0) (z.waits x y q f)

        session : (o : Option ClientSession) → a.session ≡ o →
            awaited.OfSession (messages t.world) c (Early (past ++ step t e sc ∷ []) c) fresh L (clock_of t.world (nodes.Client c)) r.site.node.state.config
            a.server a.life.0 a.store.extents r.site.node.state.operations o
        session None q = tt
        session (Some x) q = request x q x.requests.asked refl

    abbrev Quieted : Association → List Operation → Type 0
    Quieted a os =
        steps.Quieted (messages t.world) c (Early (past ++ step t e sc ∷ []) c) fresh L (clock_of t.world (nodes.Client c)) r.site.node.state.config a os

    done : All r.site.node.state.config Quieted (cl.client_step r.site.node.state (clock_of t.world (nodes.Client c)) r.input)
    done =
        steps.stepped (messages t.world) c (Early (past ++ step t e sc ∷ []) c) fresh L (clock_of t.world (nodes.Client c)) r.site.node.state.config
        r.site.node.state r.input refl
        (onces r.site.node.state.associations (cuts.fates.lives.lives.sites c r.site r.there).once)
        (λ a i. (before a i, clean c r.site r.there a i)) (tells r)

    stepped : AwaitsOf L (past ++ step t e sc ∷ []) sc.world c
    stepped site at runs a i =
        record {
          locked = λ x q. subst (awaited.OfLocks (messages t.world) c (Early (past ++ step t e sc ∷ []) c) fresh L now k_ a.server) q z.0.locked;
          reads = z.0.reads;
          waits = waits;
        }
      where
        k_ : Config
        k_ = r.site.node.state.config

        here : r.after ≡ site
        here = some_is (sym r.left ∙ at)

        state_is : site.node.state ≡ (cl.client_step r.site.node.state (clock_of t.world (nodes.Client c)) r.input).state
        state_is = ap (λ (v : WorldClient). v.node.state) (sym here) ∙ ap (λ (n : cl.ClientNode). n.state) r.node

        config : site.node.state.config ≡ r.site.node.state.config
        config = ap (λ (v : ClientState). v.config) state_is ∙ done.config

        z : Quieted a site.node.state.operations
        z =
            subst (λ (v : ClientState). Quieted a v.operations) (sym state_is)
            (done.all a (subst (λ (v : ClientState). Has a v.associations) state_is i))

        waits : (x : ClientSession) (q : Request) → a.session ≡ Some x → x.requests.asked ≡ Some q →
            WaitsFor (Early (past ++ step t e sc ∷ []) c) L
            (Idle site.node.state.config (clock_of sc.world (nodes.Client c)) a.server site.node.state.operations) a.server a.life.0 x a.store.extents
            site.node.state.operations q.number q.body
        waits x q f g =
            waits_more (Early (past ++ step t e sc ∷ []) c) (Early (past ++ step t e sc ∷ []) c) L L
            (λ v. cs.is_serving r.site.node.state.config v (clock_of t.world (nodes.Client c)) ≡ false)
            (Idle site.node.state.config (clock_of sc.world (nodes.Client c)) a.server site.node.state.operations) a.server a.life.0 x a.store.extents
            site.node.state.operations q.number q.body (λ o j y. y) (λ ino y. y)
            (λ y. (
              ap (λ d. cs.is_serving d x (clock_of sc.world (nodes.Client c))) config
                  ∙ rests_on r.site.node.state.config x.lease (clock_of t.world (nodes.Client c)) (clock_of sc.world (nodes.Client c))
                  (clocks_go_on t.world e sc happened c) y,
              z.1 x f y,
            ))
            (subst
            (awaited.OfRequest (messages t.world) c (Early (past ++ step t e sc ∷ []) c) fresh L (clock_of t.world (nodes.Client c))
            r.site.node.state.config a.server a.life.0 x a.store.extents site.node.state.operations) g
            (subst
            (awaited.OfSession (messages t.world) c (Early (past ++ step t e sc ∷ []) c) fresh L (clock_of t.world (nodes.Client c))
            r.site.node.state.config a.server a.life.0 a.store.extents site.node.state.operations) f z.0.waits))

  -- it starts
  starts : (old : WorldClient) → site_of sc.world c ≡ Some (ev.started_site old) → AwaitsOf L (past ++ step t e sc ∷ []) sc.world c
  unfolding cl.start
  starts old q site at runs a i =
      record {
        locked = λ x s. absurd (none_not_some x (sym (ap (λ (v : Association). v.session) z.2) ∙ s));
        reads = λ y j r. absurd (subst (λ (v : Association). Has y v.store.commands) z.2 j);
        waits = λ x r s f. absurd (none_not_some x (sym (ap (λ (v : Association). v.session) z.2) ∙ s));
      }
    where
      here : ev.started_site old ≡ site
      here = some_is (sym q ∙ at)

      z : (b : Association) × Has b old.node.state.associations × (a ≡ cl.started_association b)
      z = has_map cl.started_association old.node.state.associations a (subst (λ (v : WorldClient). Has a v.node.state.associations) (sym here) i)

  pub awaits_on : AwaitsOf K past t.world c → AwaitsOf L (past ++ step t e sc ∷ []) sc.world c
  awaits_on h = go ((event_clients t.world e sc happened).sites c)
    where
      go : SiteNext t.world e sc c → AwaitsOf L (past ++ step t e sc ∷ []) sc.world c
      go (Stays q) = stays q h
      go (Steps r _ _) = stepped r h
      go (Crashes site f at stopped) = λ s q runs. clash runs (ap (λ (v : WorldClient). v.node.running) (some_is (sym q ∙ at)) ∙ stopped)
      go (Starts old f stopped at) = starts old at

-- At the start no client has a session.
pub awaits_begin : (k : Config) (clients servers disks blocks form : ℕ) (c : ClientId) (K : ServerId → ℕ → Type 0) →
    AwaitsOf K [] (fresh_world k clients servers disks blocks form) c
unfolding fresh_world cl.fresh_client
awaits_begin k clients servers disks blocks form c K site at runs a i =
    record {
      locked = λ x s. absurd (none_not_some x (sym (ap (λ (v : Association). v.session) z.2) ∙ s));
      reads = λ y j r. absurd (subst (λ (v : Association). Has y v.store.commands) z.2 j);
      waits = λ x r s f. absurd (none_not_some x (sym (ap (λ (v : Association). v.session) z.2) ∙ s));
    }
  where
    y : (n : ℕ) × Has n (numbers 1 clients) × (site ≡ fresh_site k servers n)
    y =
        has_map (fresh_site k servers) (numbers 1 clients) site
        (numbered_has (map (fresh_site k servers) (numbers 1 clients)) c.0 site at)

    z : (n : ℕ) × Has n (numbers 1 servers) × (a ≡ cl.fresh_association n)
    z =
        has_map cl.fresh_association (numbers 1 servers) a
        (subst (λ (v : WorldClient). Has a v.node.state.associations) y.2 i)
