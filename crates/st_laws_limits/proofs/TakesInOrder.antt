-- A client takes an input: lives and epochs stay in order between clients and servers.
use Rattle.st_lemmas.proofs.Words
use Words.{◌≡◌, ◌≢◌, ◌≤◌, ◌<◌, ◌⊎◌, ℕ, Bool, true, false, Some, length, pred, refl, sym, ap, ◌∙◌, subst, inl, inr, arith}
use Words.{ClientId, Message, ServerId, Session}
use Words.bodies
use Words.nodes
use Words.Client as plain
use Words.ClientState.{Association, ClientState}
use Words.Events as ev
use Words.Grace as grace
use Words.Keys.{server_node}
use Words.Lists.{Has}
use Words.Lookups.{some_is}
use Words.Numbers.{numbered_below, numbered_other, numbered_own, set_length}
use Words.Server.{ServerNode}
use Words.Sessions.{session_of}
use Words.Tables.{same_or_not}
use Words.World.{World, WorldClient, clock_of, numbered, site_of}
use Rattle.st_third.specs.declared.event.ThirdEvent.{ThirdEvent}
use Rattle.st_third.specs.declared.event.ThirdInput.{ThirdInput}
use Rattle.st_third.specs.Events as every
use Rattle.st_third.specs.State.{ClientBeside, ThirdClientTurn}
use Rattle.st_third.specs.World.{ThirdWorld, beside_of}
use Rattle.st_laws_third.specs.Living.{heard_in}
use Rattle.st_laws_third.specs.Changes.{Heard}
use Rattle.st_laws_third.proofs.DemandsSeen.{People}
use Rattle.st_laws_third.proofs.EventWalk.{Client_step, ClientTakes}
use Rattle.st_laws_third.proofs.Moves.{took_core}
use Rattle.st_laws_third.proofs.Sound.{Sound}
use Rattle.st_laws_leaving.specs.Going.{ClientGoes, HasBegunBy, IsWelcomed, Went}
use Rattle.st_laws_leaving.specs.Quiet.{Between, IsSent, IsTo, Standing}
use Rattle.st_laws_leaving.proofs.ClientSteps.{pairs_back}
use Rattle.st_laws_leaving.proofs.Posts.{ClientSays, Post, took_post}
use Rattle.st_laws_leaving.proofs.TakesStanding as took
use Rattle.st_laws_limits.proofs.Welcomed.{AllInOrder, IsAsked, IsOff, IsWelcome, LivesInOrder, in_order_as, off_same}

module _ (e : ThirdEvent) (w : ThirdWorld) (so : Sound w) (pe : People w) (st : Standing w.world) (all : AllInOrder w.world) (c : ClientId)
    (old site : WorldClient) (b : ClientBeside) (input : ThirdInput) (there : site_of w.world c ≡ Some old) (same : site.node ≡ old.node)
    (beside : beside_of w c ≡ Some b) (why : ClientTakes w c old e site input) where
  abbrev Turn : ThirdClientTurn
  Turn = Client_step w c site b input

  abbrev V : World
  V = (every.client_took w c site Turn).third.world

  abbrev New : WorldClient
  New = ev.at_node (record site.node { state = Turn.client.plain }) site

  abbrev got : Heard
  got = heard_in input

  state_same : site.node.state ≡ old.node.state
  state_same = ap (λ (x : plain.ClientNode). x.state) same

  few : c.0 ≤ 64
  few = pe.few c.0 old there

  goes : ClientGoes got (every.third_client site b) Turn.client Turn.out
  goes = took.goes e w so pe st c old site b input there same beside why

  own : (m : Message) → ClientSays Turn.out m → m.header.from ≡ c.0
  own m h = (goes.sent m h).0 ∙ ap (λ (x : ClientState). x.id.0) state_same ∙ pe.ids c.0 old there

  post_of : Post w.world V (ClientSays Turn.out)
  post_of = took_post w c site Turn

  clocks : V.clocks ≡ w.world.clocks
  clocks = ap (λ x. x.plain.clocks) (took_core w c site Turn)

  clients : length V.clients ≡ length w.world.clients
  clients = ap (λ x. length x.plain.clients) (took_core w c site Turn) ∙ set_length w.world.clients (pred c.0) New

  -- a server's message was there, and so was another client's
  post : (s : ServerId) (m : Message) → IsSent V m → m.header.from ≡ server_node s → IsSent w.world m
  post s m h f = go (post_of.sent m h)
    where
      go : (IsSent w.world m) ⊎ (ClientSays Turn.out m) → IsSent w.world m
      go (inl i) = i
      go (inr x) = let o = own m x in absurd (omega (arith, f, o, few))

  mail : (n : ℕ) (m : Message) → n ≢ c.0 → IsSent V m → m.header.from ≡ n → IsSent w.world m
  mail n m ne h f = go (post_of.sent m h)
    where
      go : (IsSent w.world m) ⊎ (ClientSays Turn.out m) → IsSent w.world m
      go (inl i) = i
      go (inr x) = absurd (ne (sym f ∙ own m x))

  -- At one server.
  module _ (a d : Association) (node : ServerNode) (h : Has a site.node.state.associations) (x : Went got a Turn.out d)
      (at : numbered w.world.servers d.server.0 ≡ Some node) where
    here : Has a old.node.state.associations
    here = subst (λ (z : ClientState). Has a z.associations) state_same h

    at_a : numbered w.world.servers a.server.0 ≡ Some node
    at_a = ap (λ (z : ServerId). numbered w.world.servers z.0) (sym x.server) ∙ at

    bt : Between w.world c old a node
    bt = st.between c.0 old a node there here at_a

    l : LivesInOrder w.world c a node
    l = all c.0 old a node there here at_a

    done : IsOff w.world a node → IsOff V d node
    done o = ap (λ (s : ServerId). grace.is_on node.state.grace (clock_of V (nodes.Server s))) x.server ∙ off_same w.world V a node clocks clients o

    abbrev Asked : Message → Type 0
    Asked m = IsAsked w.world c a.server m

    record Says (m : Message) : Type 0 where
      since : a.life.0 ≤ m.header.life
      begun : HasBegunBy got a m.header.life

    to_a : (m : Message) → IsTo c d.server m → IsTo c a.server m
    to_a m t = (t.0, t.1 ∙ ap (λ (z : ServerId). server_node z) x.server)

    -- a message is old, or is said in this step
    asked_of : (m : Message) → IsAsked V c d.server m → (Asked m) ⊎ (Says m)
    asked_of m i = go (post_of.sent m i.sent)
      where
        t : IsTo c a.server m
        t = to_a m i.to

        go : (IsSent w.world m) ⊎ (ClientSays Turn.out m) → (Asked m) ⊎ (Says m)
        go (inl j) = inl (record { sent = j; to = t; other = i.other })
        go (inr j) = by (x.sent m j t.1).begun
          where
            by : (m.body ≡ bodies.Hello) ⊎ (HasBegunBy got a m.header.life) → (Asked m) ⊎ (Says m)
            by (inl z) = absurd (i.other z)
            by (inr z) = inr (record { since = (x.sent m j t.1).since; begun = z })

    welcome_of : (p : Message) → IsWelcome V c d.server p → IsWelcome w.world c a.server p
    welcome_of p i =
        let f : p.header.from ≡ server_node a.server = i.from ∙ ap (λ (z : ServerId). server_node z) x.server in
        record { sent = post a.server p i.sent f; from = f; to = i.to; is = i.is }

    -- a welcome that is heard was sent
    heard_is : (life : ℕ) → (y : IsWelcomed got a.server life) → IsWelcome w.world c a.server y.message
    heard_is life y =
        let z = took.heard e w so pe st c old site b input there same beside why y.message y.heard.0 in
        record { sent = z.0; from = y.heard.1; to = z.1; is = y.welcome }

    high : (p : Message) → IsWelcome w.world c a.server p → p.header.life ≤ a.life.0
    high p i = bt.welcomes p i.sent i.from i.to i.is

    up_to : (p : Message) → IsWelcome w.world c a.server p → p.header.epoch ≤ node.state.stable.epoch.0
    up_to p i = st.epochs a.server.0 node at_a p i.sent i.from

    high_life : (life : ℕ) → HasBegunBy got a life → life ≤ a.life.0
    high_life life (inl z) = let q = z.1 in omega (arith, q)
    high_life life (inr y) = let k = high y.message (heard_is life y) in let q = y.of_life in omega (arith, k, q)

    -- an older message has the server's epoch only if grace is over
    older : (m : Message) → Asked m → (life : ℕ) → HasBegunBy got a life → m.header.life < life → m.header.epoch ≡ node.state.stable.epoch.0 →
        IsOff w.world a node
    older m i life (inl z) o q = let k = z.1 in l.begun z.0.0 z.0.1 m i (omega (arith, o, k)) q
    older m i life (inr y) o q =
        let p = heard_is life y in
        let k = y.of_life in
        let z = l.later m y.message i p (omega (arith, o, k)) in
        let u = up_to y.message p in l.welcomed y.message p (omega (arith, z, u, q))

    -- so has an older session
    served_older : (z : Session) → session_of node.state.sessions c ≡ Some z → (life : ℕ) → HasBegunBy got a life → z.life.0 < life → IsOff w.world a node
    served_older z q life (inl y) o = let k = y.1 in l.serves z q y.0.0 y.0.1 (omega (arith, o, k))
    served_older z q life (inr y) o = go (grace.is_on node.state.grace (clock_of w.world (nodes.Server a.server))) refl
      where
        go : (i : Bool) → grace.is_on node.state.grace (clock_of w.world (nodes.Server a.server)) ≡ i → IsOff w.world a node
        go false k = k
        go true k =
            let p = heard_is life y in
            let n = y.of_life in
            let u = l.known (λ f. no (sym k ∙ f)) z q y.message p (omega (arith, o, n)) in
            let v = up_to y.message p in l.welcomed y.message p (omega (arith, u, v))
          where
            no : true ≡ false → ⊥
            no r = cc r

    went_in_order : LivesInOrder V c d node
    went_in_order =
        record {
          later = λ m p i j o. later m p (asked_of m i) (welcome_of p j) o;
          welcomed = λ p i q. done (l.welcomed p (welcome_of p i) q);
          asked = λ m k i j o q. done (asked m k (asked_of m i) (asked_of k j) o q);
          begun = λ u q m i o k. done (begun m (asked_of m i) (x.begun u q) o k);
          served = λ z q m i o. done (served z q m (asked_of m i) o);
          serves = λ z q u k o. done (served_older z q d.life.0 (x.begun u k) o);
          known = λ on z q p i o. l.known (λ f. on (done f)) z q p (welcome_of p i) o;
        }
      where
        later : (m p : Message) → (Asked m) ⊎ (Says m) → IsWelcome w.world c a.server p → m.header.life < p.header.life → m.header.epoch ≤ p.header.epoch
        later m p (inl i) j o = l.later m p i j o
        later m p (inr y) j o = let z = y.since in let k = high p j in absurd (omega (arith, z, k, o))

        asked : (m k : Message) → (Asked m) ⊎ (Says m) → (Asked k) ⊎ (Says k) → m.header.life < k.header.life →
            m.header.epoch ≡ node.state.stable.epoch.0 → IsOff w.world a node
        asked m k (inl i) (inl j) o q = l.asked m k i j o q
        asked m k (inl i) (inr y) o q = older m i k.header.life y.begun o q
        asked m k (inr z) (inl j) o q = let y = z.since in let u = bt.lives k j.sent j.to in absurd (omega (arith, y, u, o))
        asked m k (inr z) (inr y) o q = let u = z.since in let v = high_life k.header.life y.begun in absurd (omega (arith, u, v, o))

        begun : (m : Message) → (Asked m) ⊎ (Says m) → HasBegunBy got a d.life.0 → m.header.life < d.life.0 → m.header.epoch ≡ node.state.stable.epoch.0 →
            IsOff w.world a node
        begun m (inl i) y o q = older m i d.life.0 y o q
        begun m (inr z) y o q = let u = z.since in let v = high_life d.life.0 y in absurd (omega (arith, u, v, o))

        served : (z : Session) → session_of node.state.sessions c ≡ Some z → (m : Message) → (Asked m) ⊎ (Says m) → z.life.0 < m.header.life →
            IsOff w.world a node
        served z q m (inl i) o = l.served z q m i o
        served z q m (inr y) o = served_older z q m.header.life y.begun o

  at_own : numbered V.clients c.0 ≡ Some New
  at_own = ap (λ x. numbered x.plain.clients c.0) (took_core w c site Turn) ∙ numbered_own w.world.clients c.0 New old there

  at_other : (n : ℕ) → n ≢ c.0 → numbered V.clients n ≡ numbered w.world.clients n
  at_other n ne =
      ap (λ x. numbered x.plain.clients n) (took_core w c site Turn) ∙ numbered_other w.world.clients c.0 n New (numbered_below w.world.clients c.0 old there).0 ne

  pub takes_in_order : AllInOrder V
  takes_in_order n z d node q h at = go (same_or_not n c.0)
    where
      at_w : numbered w.world.servers d.server.0 ≡ Some node
      at_w = ap (λ xs. numbered xs d.server.0) (sym post_of.servers) ∙ at

      go : (n ≡ c.0) ⊎ (n ≢ c.0) → LivesInOrder V (record { 0 = n }) d node
      go (inl i) =
          let s : New ≡ z = some_is (sym at_own ∙ sym (ap (numbered V.clients) i) ∙ q) in
          let k = pairs_back (λ a d. Went got a Turn.out d) _ _ goes.pairs d (subst (λ (y : WorldClient). Has d y.node.state.associations) (sym s) h) in
          subst (λ j. LivesInOrder V (record { 0 = j }) d node) (sym i) (went_in_order k.0 d node k.1.0 k.1.1 at_w)
      go (inr ne) =
          in_order_as w.world V (record { 0 = n }) d node (λ m i t. mail n m ne i t.0) (λ m i f. post d.server m i f)
          (off_same w.world V d node clocks clients) (all n z d node (sym (at_other n ne) ∙ q) h at_w)
