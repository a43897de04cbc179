-- Lives and epochs stay in order between clients and servers in each event of the third form.
use Rattle.st_lemmas.proofs.Words
use Words.{◌≡◌, ◌≢◌, ◌≤◌, ◌+◌, ◌⊎◌, ℕ, zero, suc, pred, false, List, [], ◌∷◌, map, find, Option, Some, None, length, unwrap_or, slice_get, refl, sym, ap, ◌∙◌, subst, inl, inr, arith, le-ltb, ltb-false}
use Words.{ClientId, Message, ServerId, Session, Stamp}
use Words.nodes
use Words.Client as plain
use Words.ClientState.{Association}
use Words.Events as ev
use Words.Grace as grace
use Words.Grace.{Grace}
use Words.Keys.{server_node}
use Words.Lists.{Has}
use Words.Lookups.{some_is}
use Words.Numbers.{set_length}
use Words.Server as server
use Words.Server.{ServerNode}
use Words.Sessions as sessions
use Words.Sessions.{session_of}
use Words.Tables.{has_map, same_or_not}
use Words.Truth.{none_not_some}
use Words.World.{World, WorldClient, clock_of, node_of, numbered, site_of, stamp, with_numbered}
use Rattle.st_third.specs.declared.event.ThirdEvent.{ThirdEvent}
use Rattle.st_third.specs.declared.limits.Limits.{Limits}
use Rattle.st_third.specs.Events as every
use Rattle.st_third.specs.Events.{ThirdWorldTurn}
use Rattle.st_third.specs.Limits.{limited_association, limited_node, limited_site}
use Rattle.st_third.specs.World.{ThirdWorld}
use Rattle.st_laws_third.proofs.DemandsSeen.{People}
use Rattle.st_laws_third.proofs.EventWalk.{EventLawOf, walk_by_event}
use Rattle.st_laws_third.proofs.Sound.{Sound}
use Rattle.st_laws_leaving.specs.Quiet.{Between, IsSent, Standing}
use Rattle.st_laws_leaving.proofs.Betweens.{standing_as}
use Rattle.st_laws_leaving.proofs.Posts.{lost_sent}
use Rattle.st_laws_leaving.proofs.Standing.{twice_other, twice_own}
use Rattle.st_laws_limits.proofs.ServesInOrder.{serves_all_in_order}
use Rattle.st_laws_limits.proofs.TakesInOrder.{takes_in_order}
use Rattle.st_laws_limits.proofs.Welcomed.{AllInOrder, IsAsked, IsOff, IsWelcome, LivesInOrder, in_order_as, off_same}

-- In a world with the same nodes and clocks, and without a new message.
pub all_as : (w v : World) → v.clients ≡ w.clients → v.servers ≡ w.servers → v.clocks ≡ w.clocks → ((m : Message) → IsSent v m → IsSent w m) → AllInOrder w →
    AllInOrder v
all_as w v p q t f all n site a node e h i =
    in_order_as w v (record { 0 = n }) a node (λ m j k. f m j) (λ m j k. f m j) (off_same w v a node t (ap (λ xs. length xs) p))
    (all n site a node (sym (ap (λ xs. numbered xs n) p) ∙ e) h (sym (ap (λ xs. numbered xs a.server.0) q) ∙ i))

-- Time passes.

advanced_up : (ds : List ℕ) (ts : List Stamp) (n : ℕ) → (unwrap_or (slice_get ts n) (stamp 0)).0 ≤ (unwrap_or (slice_get (ev.advanced ds ts) n) (stamp 0)).0
unfolding ev.advanced
advanced_up [] ts n = omega arith
advanced_up (d ∷ ds) [] n = omega arith
advanced_up (d ∷ ds) (u ∷ ts) zero = omega arith
advanced_up (d ∷ ds) (u ∷ ts) (suc n) = advanced_up ds ts n

clock_up : (w : World) (steps : List ℕ) (s : ServerId) → (clock_of w (nodes.Server s)).0 ≤ (clock_of (ev.with_clocks steps w) (nodes.Server s)).0
clock_up w steps s = go (length w.clients + s.0)
  where
    go : (n : ℕ) → (unwrap_or (numbered w.clocks n) (stamp 0)).0 ≤ (unwrap_or (numbered (ev.advanced steps w.clocks) n) (stamp 0)).0
    go zero = omega arith
    go (suc n) = advanced_up steps w.clocks n

off_later : (g : Option Grace) (a b : Stamp) → a.0 ≤ b.0 → grace.is_on g a ≡ false → grace.is_on g b ≡ false
off_later None a b l e = refl
off_later (Some g) a b l e = let z = ltb-false a.0 (g.start.0 + g.wait) e in le-ltb b.0 (g.start.0 + g.wait) (omega (arith, z, l))

advances_in_order : (w : World) (steps : List ℕ) → AllInOrder w → AllInOrder (ev.advances w steps).world
unfolding ev.advances ev.marks
advances_in_order w steps all n site a node e h i =
    in_order_as w _ (record { 0 = n }) a node (λ m j k. j) (λ m j k. j) (off_later node.state.grace _ _ (clock_up w steps a.server)) (all n site a node e h i)

-- A client crashes or starts: it has no session.
module _ (w v : World) (c : ClientId) (a d : Association) (node : ServerNode) (sent : (m : Message) → IsSent v m → IsSent w m) (same : d.server ≡ a.server)
    (none : d.session ≡ None) (clocks : v.clocks ≡ w.clocks) (clients : length v.clients ≡ length w.clients) (l : LivesInOrder w c a node) where
  asked_back : (m : Message) → IsAsked v c d.server m → IsAsked w c a.server m
  asked_back m i = record { sent = sent m i.sent; to = (i.to.0, i.to.1 ∙ ap (λ (s : ServerId). server_node s) same); other = i.other }

  welcome_back : (m : Message) → IsWelcome v c d.server m → IsWelcome w c a.server m
  welcome_back m i = record { sent = sent m i.sent; from = i.from ∙ ap (λ (s : ServerId). server_node s) same; to = i.to; is = i.is }

  done : IsOff w a node → IsOff v d node
  done o = ap (λ s. grace.is_on node.state.grace (clock_of v (nodes.Server s))) same ∙ off_same w v a node clocks clients o

  begun_in_order : LivesInOrder v c d node
  begun_in_order =
      record {
        later = λ m p h i o. l.later m p (asked_back m h) (welcome_back p i) o;
        welcomed = λ p i e. done (l.welcomed p (welcome_back p i) e);
        asked = λ m k h i o e. done (l.asked m k (asked_back m h) (asked_back k i) o e);
        begun = λ u q m h o e. absurd (none_not_some u (sym none ∙ q));
        served = λ x q m h o. done (l.served x q m (asked_back m h) o);
        serves = λ x q u e o. absurd (none_not_some u (sym none ∙ e));
        known = λ on x q p i o. l.known (λ z. on (done z)) x q p (welcome_back p i) o;
      }

module _ (w v : World) (c : ClientId) (old new : WorldClient) (there : site_of w c ≡ Some old) (at_own : numbered v.clients c.0 ≡ Some new)
    (at_other : (n : ℕ) → n ≢ c.0 → numbered v.clients n ≡ numbered w.clients n) (servers : v.servers ≡ w.servers) (clocks : v.clocks ≡ w.clocks)
    (clients : length v.clients ≡ length w.clients) (sent : (m : Message) → IsSent v m → IsSent w m) (f : Association → Association) (k : Limits)
    (is : new.node.state.associations ≡ map (limited_association k) (map f old.node.state.associations)) (same : (a : Association) → (f a).server ≡ a.server)
    (none : (a : Association) → (f a).session ≡ None) (all : AllInOrder w) where
  client_in_order : AllInOrder v
  client_in_order n z d node q h at = go (same_or_not n c.0)
    where
      at_w : numbered w.servers d.server.0 ≡ Some node
      at_w = sym (ap (λ xs. numbered xs d.server.0) servers) ∙ at

      own : Has d new.node.state.associations → LivesInOrder v c d node
      own h =
          let x = has_map (limited_association k) (map f old.node.state.associations) d (subst (Has d) is h) in
          let y = has_map f old.node.state.associations x.0 x.1 in
          let e : d ≡ limited_association k (f y.0) = x.2 ∙ ap (limited_association k) y.2 in
          let s : d.server ≡ y.0.server = ap (λ (g : Association). g.server) e ∙ same y.0 in
          begun_in_order w v c y.0 d node sent s (ap (λ (g : Association). g.session) e ∙ none y.0) clocks clients
          (all c.0 old y.0 node there y.1 (sym (ap (λ (g : ServerId). numbered w.servers g.0) s) ∙ at_w))

      go : (n ≡ c.0) ⊎ (n ≢ c.0) → LivesInOrder v (record { 0 = n }) d node
      go (inl i) =
          let s : new ≡ z = some_is (sym at_own ∙ sym (ap (numbered v.clients) i) ∙ q) in
          subst (λ j. LivesInOrder v (record { 0 = j }) d node) (sym i)
          (own (subst (λ (y : WorldClient). Has d y.node.state.associations) (sym s) h))
      go (inr ne) =
          in_order_as w v (record { 0 = n }) d node (λ m i t. sent m i) (λ m i t. sent m i) (off_same w v d node clocks clients)
          (all n z d node (sym (at_other n ne) ∙ q) h at_w)

-- A server crashes or starts: it has no sessions, and no grace or a later epoch.
module _ (w v : World) (s : ServerId) (node new : ServerNode) (there : node_of w s ≡ Some node) (at_own : numbered v.servers s.0 ≡ Some new)
    (at_other : (k : ℕ) → k ≢ s.0 → numbered v.servers k ≡ numbered w.servers k) (same : v.clients ≡ w.clients) (clocks : v.clocks ≡ w.clocks)
    (sent : (m : Message) → IsSent v m → IsSent w m) (served : new.state.sessions.rows ≡ [])
    (fresh : (new.state.grace ≡ None) ⊎ (node.state.stable.epoch.0 + 1 ≤ new.state.stable.epoch.0)) (st : Standing w) (all : AllInOrder w) where
  nobody : (c : ClientId) (x : Session) → session_of new.state.sessions c ≡ Some x → ⊥
  nobody c x e = none_not_some x (sym (ap (λ xs. find (sessions.is_session_of c) xs) served) ∙ e)

  module _ (n : ℕ) (site : WorldClient) (a : Association) (here : numbered w.clients n ≡ Some site) (h : Has a site.node.state.associations)
      (is : a.server.0 ≡ s.0) where
    abbrev C : ClientId
    C = record { 0 = n }

    at : numbered w.servers a.server.0 ≡ Some node
    at = ap (numbered w.servers) is ∙ there

    bt : Between w C site a node
    bt = st.between n site a node here h at

    l : LivesInOrder w C a node
    l = all n site a node here h at

    old_asked : (m : Message) → IsAsked v C a.server m → IsAsked w C a.server m
    old_asked m i = record { sent = sent m i.sent; to = i.to; other = i.other }

    old_welcome : (m : Message) → IsWelcome v C a.server m → IsWelcome w C a.server m
    old_welcome m i = record { sent = sent m i.sent; from = i.from; to = i.to; is = i.is }

    -- no message has a later epoch than before
    off_if : (m : Message) → m.header.epoch ≤ node.state.stable.epoch.0 → m.header.epoch ≡ new.state.stable.epoch.0 → IsOff v a new
    off_if m u q = go fresh
      where
        go : (new.state.grace ≡ None) ⊎ (node.state.stable.epoch.0 + 1 ≤ new.state.stable.epoch.0) → IsOff v a new
        go (inl e) = ap (λ g. grace.is_on g (clock_of v (nodes.Server a.server))) e
        go (inr k) = absurd (omega (arith, u, q, k))

    server_in_order : LivesInOrder v C a new
    server_in_order =
        record {
          later = λ m p i j o. l.later m p (old_asked m i) (old_welcome p j) o;
          welcomed = λ p i q. let j = old_welcome p i in off_if p (st.epochs a.server.0 node at p j.sent j.from) q;
          asked = λ m k i j o q. let y = old_asked m i in off_if m (bt.epochs m y.sent y.to y.other) q;
          begun = λ u z m i o q. let y = old_asked m i in off_if m (bt.epochs m y.sent y.to y.other) q;
          served = λ x q m i o. absurd (nobody C x q);
          serves = λ x q u e o. absurd (nobody C x q);
          known = λ on x q p i o. absurd (nobody C x q);
        }

  servers_in_order : AllInOrder v
  servers_in_order n site a x q h p = go (same_or_not a.server.0 s.0)
    where
      here : numbered w.clients n ≡ Some site
      here = sym (ap (λ xs. numbered xs n) same) ∙ q

      go : (a.server.0 ≡ s.0) ⊎ (a.server.0 ≢ s.0) → LivesInOrder v (record { 0 = n }) a x
      go (inl i) =
          let y : new ≡ x = some_is (sym at_own ∙ sym (ap (numbered v.servers) i) ∙ p) in
          subst (λ z. LivesInOrder v (record { 0 = n }) a z) y (server_in_order n site a here h i)
      go (inr ne) =
          in_order_as w v (record { 0 = n }) a x (λ m i t. sent m i) (λ m i t. sent m i) (off_same w v a x clocks (ap (λ xs. length xs) same))
          (all n site a x here h (sym (at_other a.server.0 ne) ∙ p))

-- Each event.

abbrev StaysInOrder : ThirdWorld → ThirdWorldTurn → Type 0
StaysInOrder w sc = Sound w → People w → Standing w.world → AllInOrder w.world → AllInOrder sc.third.world

twice_long : {A : Type 0} (xs : List A) (n : ℕ) (mid new : A) → length (with_numbered n new (with_numbered n mid xs)) ≡ length xs
twice_long xs n mid new = set_length (with_numbered n mid xs) (pred n) new ∙ set_length xs (pred n) mid

order_law : (e : ThirdEvent) → EventLawOf e StaysInOrder
unfolding ev.effects ev.marks ev.crashes_client ev.crashes_server ev.starts_client ev.starts_server every.client_begins every.server_begins server.crash
    server.start server.begin_epoch plain.crash plain.start
order_law e =
    record {
      still = λ w so pe st all. all;
      takes = λ w c old site b input there same q why r so pe st all. takes_in_order e w so pe st all c old site b input there same q why;
      serves = λ w s node input there why up so pe st all. serves_all_in_order e w so pe st all s node input there why up;
      loses = λ w k m q so pe st all. all_as w.world _ refl refl refl (lost_sent w.world k m q) all;
      cuts = λ w from to so pe st all. all_as w.world _ refl refl refl (λ m h. h) all;
      heals = λ w from to so pe st all. all_as w.world _ refl refl refl (λ m h. h) all;
      advances = λ w steps so pe st all. advances_in_order w.world steps all;
      effects = λ w k so pe st all. all_as w.world _ refl refl refl (λ m h. h) all;
      reports =
          λ w k ok sc which h so pe st all. h (record { fits = record { sites = so.fits.sites; there = so.fits.there; pairs = so.fits.pairs }; form = so.form })
          (record { asks = pe.asks; ids = pe.ids; servers = pe.servers; few = pe.few }) (standing_as w.world _ refl refl (λ m i. i) st)
          (all_as w.world _ refl refl refl (λ m i. i) all);
      client_crashes =
          λ w c site q so pe st all. let mid : WorldClient = ev.stopped_site site in
          client_in_order w.world _ c site (limited_site w.limits mid) q (twice_own w.world.clients c.0 site mid (limited_site w.limits mid) q)
          (λ n ne. twice_other w.world.clients c.0 n site mid (limited_site w.limits mid) q ne) refl refl
          (twice_long w.world.clients c.0 mid (limited_site w.limits mid)) (λ m h. h) plain.crashed_association w.limits refl
          (λ a. refl) (λ a. refl) all;
      server_crashes =
          λ w s node q so pe st all. let mid : ServerNode = server.crash_node node in
          servers_in_order w.world _ s node (limited_node w.limits mid) q (twice_own w.world.servers s.0 node mid (limited_node w.limits mid) q)
          (λ n ne. twice_other w.world.servers s.0 n node mid (limited_node w.limits mid) q ne) refl refl (λ m h. h) refl (inl refl) st all;
      client_starts =
          λ w c site q which so pe st all. let mid : WorldClient = ev.started_site site in
          client_in_order w.world _ c site (limited_site w.limits mid) q (twice_own w.world.clients c.0 site mid (limited_site w.limits mid) q)
          (λ n ne. twice_other w.world.clients c.0 n site mid (limited_site w.limits mid) q ne) refl refl
          (twice_long w.world.clients c.0 mid (limited_site w.limits mid)) (λ m h. h) plain.started_association w.limits refl
          (λ a. refl) (λ a. refl) all;
      server_starts =
          λ w s node q which so pe st all. let mid : ServerNode = server.start_node node (clock_of w.world (nodes.Server s)) in
          servers_in_order w.world _ s node (limited_node w.limits mid) q (twice_own w.world.servers s.0 node mid (limited_node w.limits mid) q)
          (λ n ne. twice_other w.world.servers s.0 n node mid (limited_node w.limits mid) q ne) refl refl (λ m h. h) refl (inr (omega arith)) st all;
    }

pub stays_in_order : (w : ThirdWorld) (e : ThirdEvent) → Sound w → People w → Standing w.world → AllInOrder w.world → AllInOrder (every.happens w e).third.world
stays_in_order w e so = walk_by_event e StaysInOrder (order_law e) w so.form so
