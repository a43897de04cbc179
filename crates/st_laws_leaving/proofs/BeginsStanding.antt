-- A node crashes or starts: what is between clients and servers is kept.
use Rattle.st_lemmas.proofs.Words
use Words.{◌≡◌, ◌≢◌, ◌≤◌, ◌+◌, ◌⊎◌, ℕ, true, List, [], ◌∷◌, map, Some, None, refl, sym, ap, ◌∙◌, subst, inl, inr, arith}
use Words.{ClientId, Message, ServerId, Session}
use Words.bodies
use Words.ClientState.{Association}
use Words.Events.{quiet}
use Words.Keys.{server_node}
use Words.Lists.{Has}
use Words.Lookups.{some_is}
use Words.Server as server
use Words.Server.{ServerNode}
use Words.Sessions as sessions
use Words.Sessions.{session_of}
use Words.Tables.{has_map, same_or_not}
use Words.Truth.{none_not_some}
use Words.World.{World, WorldClient, node_of, numbered, site_of}
use Rattle.st_third.specs.declared.limits.Limits.{Limits}
use Rattle.st_third.specs.Limits.{limited_association}
use Rattle.st_laws_leaving.specs.Going.{Apart, IsNumbered}
use Rattle.st_laws_leaving.specs.Quiet.{AtClient, AtServer, Between, HasBegun, IsQuiet, IsSent, IsTo, OnItsWay, Standing}
use Rattle.st_laws_leaving.specs.Serving.{HasNothing, IsCalm, IsHarmless, IsServing}
use Rattle.st_laws_leaving.proofs.Betweens.{between_as, calm_or, client_standing}

-- A node that crashes or starts.

-- a client whose sessions are gone
module _ (w v : World) (c : ClientId) (site new : WorldClient) (a d : Association) (node : ServerNode) (sent : (m : Message) → IsSent v m → IsSent w m)
    (bt : Between w c site a node) (server : d.server ≡ a.server) (none : d.session ≡ None) (life : a.life.0 ≤ d.life.0)
    (risen : new.node.running ≡ true → a.life.0 + 1 ≤ d.life.0) where
  back_to : (m : Message) → IsTo c d.server m → IsTo c a.server m
  back_to m t = (t.0, t.1 ∙ ap (λ (z : ServerId). server_node z) server)

  from_there : (m : Message) → m.header.from ≡ server_node d.server → m.header.from ≡ server_node a.server
  from_there m f = f ∙ ap (λ (z : ServerId). server_node z) server

  pub begun_between : Between v c new d node
  begun_between =
      record {
        lives = λ m i t. let z = bt.lives m (sent m i) (back_to m t) in omega (arith, z, life);
        epochs = λ m i t ne. bt.epochs m (sent m i) (back_to m t) ne;
        session = λ u e. absurd (none_not_some u (sym none ∙ e));
        served = λ x e. let z = bt.served x e in omega (arith, z, life);
        welcomes = λ m i f t e. let z = bt.welcomes m (sent m i) (from_there m f) t e in omega (arith, z, life);
        calm = λ r u m i t l. let z = bt.lives m (sent m i) (back_to m t) in let y = risen r in absurd (omega (arith, z, y, l));
        quiet = λ r u g. absurd (nothing r g);
      }
    where
      nothing : new.node.running ≡ true → HasBegun v c d node → ⊥
      nothing r (AtServer x e l) = let z = bt.served x e in let y = risen r in omega (arith, z, y, l)
      nothing r (OnItsWay m i f t e l) = let z = bt.welcomes m (sent m i) (from_there m f) t e in let y = risen r in omega (arith, z, y, l)
      nothing r (AtClient u e) = none_not_some u (sym none ∙ e)

-- a server that has nothing of anybody
module _ (w v : World) (s : ServerId) (node new : ServerNode) (there : node_of w s ≡ Some node) (at_own : numbered v.servers s.0 ≡ Some new)
    (at_other : (k : ℕ) → k ≢ s.0 → numbered v.servers k ≡ numbered w.servers k) (clients : v.clients ≡ w.clients)
    (sent : (m : Message) → IsSent v m → IsSent w m) (id : new.state.id ≡ node.state.id) (rows : new.state.locks.rows ≡ [])
    (waits : new.state.locks.waiters ≡ [])
    (served : new.state.sessions.rows ≡ []) (suspects : new.state.authority.suspects ≡ []) (epoch : node.state.stable.epoch.0 ≤ new.state.stable.epoch.0)
    (risen : new.running ≡ true → node.state.stable.epoch.0 + 1 ≤ new.state.stable.epoch.0) (st : Standing w) where
  nobody : (c : ClientId) (x : Session) → session_of new.state.sessions c ≡ Some x → ⊥
  nobody c x e = none_not_some x (sym (ap (λ xs. Words.find (sessions.is_session_of c) xs) served) ∙ e)

  nothing_left : (c : ClientId) → HasNothing new.state c
  nothing_left c =
      record {
        rows = λ r h e. subst (Has r) rows h;
        waits = λ x h e. subst (Has x) waits h;
        free = ap (λ xs. Words.not (Words.is_some (Words.find (Words.Authority.is_suspect c) xs))) suspects;
        live = λ x e. absurd (nobody c x e);
      }

  between_new : (n : ℕ) (site : WorldClient) (a : Association) → Between w (record { 0 = n }) site a node → Between v (record { 0 = n }) site a new
  between_new n site a bt =
      record {
        lives = λ m i t. bt.lives m (sent m i) t;
        epochs = λ m i t ne. let z = bt.epochs m (sent m i) t ne in omega (arith, z, epoch);
        session = λ u e. let z = bt.session u e in omega (arith, z, epoch);
        served = λ x e. absurd (nobody (record { 0 = n }) x e);
        welcomes = λ m i f t e. bt.welcomes m (sent m i) f t e;
        calm = λ r u m i t l. bt.calm r u m (sent m i) t l;
        quiet = λ r u g. record { nothing = nothing_left (record { 0 = n }); harmless = λ up m i t. harmless up m i t (calm_or m.body) };
      }
    where
      harmless : new.running ≡ true → (m : Message) → IsSent v m → IsTo (record { 0 = n }) a.server m → (IsCalm m.body) ⊎ (m.body ≡ bodies.Hello → ⊥) →
          IsHarmless new.state (record { 0 = n }) m
      harmless up m i t (inl x) = inl x
      harmless up m i t (inr ne) = let z = bt.epochs m (sent m i) t ne in let y = risen up in inr (inl (omega (arith, z, y)))

  pub by_node : (P : ℕ → ServerNode → Type 0) → P s.0 new → ((k : ℕ) (x : ServerNode) → k ≢ s.0 → numbered w.servers k ≡ Some x → P k x) →
      (k : ℕ) (x : ServerNode) →
      numbered v.servers k ≡ Some x → P k x
  by_node P p f k x q = go (same_or_not k s.0)
    where
      go : (k ≡ s.0) ⊎ (k ≢ s.0) → P k x
      go (inl i) = subst (λ y. P y x) (sym i) (subst (P s.0) (some_is (sym at_own ∙ sym (ap (numbered v.servers) i) ∙ q)) p)
      go (inr ne) = f k x ne (sym (at_other k ne) ∙ q)

  -- who got nothing of a later epoch has nothing
  pub begun_quiet : (c : ClientId) (r : ServerId) →
      ((m : Message) → IsSent w m → IsTo c r m → (IsCalm m.body) ⊎ (m.header.epoch ≤ node.state.stable.epoch.0)) → IsQuiet v c r new
  begun_quiet c r f = record { nothing = nothing_left c; harmless = λ up m i t. harmless up m (f m (sent m i) t) }
    where
      harmless : new.running ≡ true → (m : Message) → (IsCalm m.body) ⊎ (m.header.epoch ≤ node.state.stable.epoch.0) → IsHarmless new.state c m
      harmless up m (inl x) = inl x
      harmless up m (inr l) = let y = risen up in inr (inl (omega (arith, l, y)))

  pub server_standing : Standing v
  server_standing =
      record {
        apart = λ n site q. st.apart n site (sym (ap (λ xs. numbered xs n) clients) ∙ q);
        requests = λ n site q. st.requests n site (sym (ap (λ xs. numbered xs n) clients) ∙ q);
        ids = by_node (λ k x. x.state.id.0 ≡ k) (ap (λ (x : ServerId). x.0) id ∙ st.ids s.0 node there) (λ k x ne q. st.ids k x q);
        serving =
            by_node (λ k x. IsServing x.state)
            (record {
              rows = λ r h. absurd (subst (Has r) rows h);
              waits = λ x h. absurd (subst (Has x) waits h);
              kept = λ x h. absurd (subst (Has x) served h);
            })
            (λ k x ne q. st.serving k x q);
        epochs =
            by_node (λ k x. (m : Message) → IsSent v m → m.header.from ≡ 32768 + k → m.header.epoch ≤ x.state.stable.epoch.0)
            (λ m i f. let z = st.epochs s.0 node there m (sent m i) f in omega (arith, z, epoch)) (λ k x ne q m i f. st.epochs k x q m (sent m i) f);
        between =
            λ n site a x q h p. by_node (λ k x. a.server.0 ≡ k → Between v (record { 0 = n }) site a x)
            (λ d. between_new n site a (st.between n site a node (sym (ap (λ xs. numbered xs n) clients) ∙ q) h (ap (numbered w.servers) d ∙ there)))
            (λ k x ne e d. between_as w v (record { 0 = n }) site a x (λ m i t. sent m i) (λ m i f. sent m i)
            (st.between n site a x (sym (ap (λ xs. numbered xs n) clients) ∙ q) h (ap (numbered w.servers) d ∙ e)))
            a.server.0 x p refl;
      }

-- a client that crashes or starts
module _ (w v : World) (c : ClientId) (old new : WorldClient) (there : site_of w c ≡ Some old) (at_own : numbered v.clients c.0 ≡ Some new)
    (at_other : (n : ℕ) → n ≢ c.0 → numbered v.clients n ≡ numbered w.clients n) (servers : v.servers ≡ w.servers)
    (sent : (m : Message) → IsSent v m → IsSent w m) (f : Association → Association) (k : Limits)
    (is : new.node.state.associations ≡ map (limited_association k) (map f old.node.state.associations)) (server : (a : Association) → (f a).server ≡ a.server)
    (none : (a : Association) → (f a).session ≡ None) (life : (a : Association) → a.life.0 ≤ (f a).life.0)
    (risen : new.node.running ≡ true → (a : Association) → a.life.0 + 1 ≤ (f a).life.0) (few : c.0 ≤ 64) (st : Standing w) where
  comes_from : (d : Association) → Has d new.node.state.associations →
      (a : Association) × (Has a old.node.state.associations × (d ≡ limited_association k (f a)))
  comes_from d h =
      let x = has_map (limited_association k) (map f old.node.state.associations) d (subst (Has d) is h) in
      let y = has_map f old.node.state.associations x.0 x.1 in (y.0, (y.1, x.2 ∙ ap (limited_association k) y.2))

  apart_map : (as_ : List Association) → Apart as_ → Apart (map (limited_association k) (map f as_))
  apart_map [] x = tt
  apart_map (a ∷ as_) x = record { first = first; rest = apart_map as_ x.rest }
    where
      first : (d : Association) → Has d (map (limited_association k) (map f as_)) → d.server.0 ≢ (f a).server.0
      first d h e =
          let y = has_map (limited_association k) (map f as_) d h in
          let z = has_map f as_ y.0 y.1 in
          x.first z.0 z.1
          (ap (λ (s : ServerId). s.0) (sym (server z.0)) ∙ ap (λ (q : Association). q.server.0) (sym (y.2 ∙ ap (limited_association k) z.2)) ∙ e
          ∙ ap (λ (s : ServerId). s.0) (server a))

  pub begun_standing : Standing v
  begun_standing =
      client_standing w v c new at_own at_other servers (λ m. ⊥) (λ m h. inl (sent m h)) (λ m h. absurd h) few st
      (subst Apart (sym is) (apart_map old.node.state.associations (st.apart c.0 old there)))
      (λ d h. let z = comes_from d h in subst (λ (q : Association). IsNumbered q.session) (sym z.1.1) (subst IsNumbered (sym (none z.0)) tt))
      (λ d node h at. let z = comes_from d h in
      subst (λ (q : Association). Between v c new q node) (sym z.1.1)
      (begun_between w v c old new z.0 (limited_association k (f z.0)) node sent
      (st.between c.0 old z.0 node there z.1.0
      (ap (λ (q : ServerId). numbered w.servers q.0) (sym (server z.0) ∙ ap (λ (q : Association). q.server) (sym z.1.1)) ∙ at))
      (server z.0) (none z.0) (life z.0) (λ r. risen r z.0)))
