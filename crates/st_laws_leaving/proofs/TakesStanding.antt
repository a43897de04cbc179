-- A client takes an input: what is between clients and servers is kept.
use Rattle.st_lemmas.proofs.Words
use Words.{◌≡◌, ◌≢◌, ◌≤◌, ◌⊎◌, ℕ, true, Some, length, sym, ap, ◌∙◌, subst, inl, inr, arith}
use Words.{ClientId, Message, ServerId}
use Words.bodies
use Words.nodes
use Words.Client as plain
use Words.ClientState.{Association, ClientSession, ClientState}
use Words.Events as ev
use Words.Keys.{server_node}
use Words.Lists.{Has}
use Words.Numbers.{numbered_below, numbered_has, numbered_other, numbered_own}
use Words.Server.{ServerNode}
use Words.Tables.{same_or_not}
use Words.Truth.{none_not_some}
use Words.World.{World, WorldClient, clock_of, numbered, site_of}
use Rattle.st_laws_steps.specs.Client.Losses.{Fit}
use Rattle.st_third.specs.declared.event.ThirdEvent.{ThirdEvent}
use Rattle.st_third.specs.declared.event.ThirdInput.{ThirdInput}
use Rattle.st_third.specs.Events as every
use Rattle.st_third.specs.State.{ClientBeside, ThirdClientTurn}
use Rattle.st_third.specs.World.{ThirdWorld, beside_of}
use Rattle.st_laws_third.specs.Changes.{Heard, HeardMessage}
use Rattle.st_laws_third.specs.Living.{heard_in}
use Rattle.st_laws_third.proofs.DemandsSeen.{People}
use Rattle.st_laws_third.proofs.EventWalk.{Client_step, ClientGets, ClientTakes, ClientTicks, IsAsked, IsAskedToLeave, IsTold}
use Rattle.st_laws_third.proofs.Moves.{took_core}
use Rattle.st_laws_third.proofs.Sound.{Sound}
use Rattle.st_laws_leaving.specs.Going.{AllNumbered, Apart, ClientGoes, EpochOf, IsWelcomed, OfMessage, OfSession, Unasked, Went}
use Rattle.st_laws_leaving.specs.Quiet.{AtClient, AtServer, Between, HasBegun, IsQuiet, IsSent, IsTo, OnItsWay, Standing}
use Rattle.st_laws_leaving.specs.Serving.{IsCalm, IsHarmless}
use Rattle.st_laws_leaving.proofs.ClientSteps.{apart_on, clients_are_calm_until_they_ask, pairs_back}
use Rattle.st_laws_leaving.proofs.Posts.{ClientSays, Post, took_post}
use Rattle.st_laws_leaving.proofs.Betweens.{client_number, client_standing}

-- A client takes an input.
module _ (e : ThirdEvent) (w : ThirdWorld) (so : Sound w) (pe : People w) (st : Standing w.world) (c : ClientId) (old site : WorldClient) (b : ClientBeside)
    (input : ThirdInput) (there : site_of w.world c ≡ Some old) (same : site.node ≡ old.node) (beside : beside_of w c ≡ Some b)
    (why : ClientTakes w c old e site input) where
  abbrev Turn : ThirdClientTurn
  Turn = Client_step w c site b input

  abbrev V : World
  V = (every.client_took w c site Turn).third.world

  abbrev New : WorldClient
  New = ev.at_node (record site.node { state = Turn.client.plain }) site

  abbrev got : Heard
  got = heard_in input

  state_same : site.node.state ≡ old.node.state
  state_same = ap (λ (x : plain.ClientNode). x.state) same

  few : c.0 ≤ 64
  few = pe.few c.0 old there

  pub goes : ClientGoes got (every.third_client site b) Turn.client Turn.out
  goes =
      clients_are_calm_until_they_ask w.limits (every.third_client site b) (clock_of w.world (nodes.Client c)) input
      (so.fits.pairs c.0 old b there beside ∙ sym (ap (λ (x : ClientState). length x.associations) state_same))
      (subst (λ (x : ClientState). (a : Association) → Has a x.associations → Fit a) (sym state_same) (so.fits.sites c.0 old there).fit)
      (subst (λ (x : ClientState). AllNumbered x.associations) (sym state_same) (st.requests c.0 old there))
      (subst (λ (x : ClientState). Apart x.associations) (sym state_same) (st.apart c.0 old there))

  own : (m : Message) → ClientSays Turn.out m → m.header.from ≡ c.0
  own m h = (goes.sent m h).0 ∙ ap (λ (x : ClientState). x.id.0) state_same ∙ pe.ids c.0 old there

  post_of : Post w.world V (ClientSays Turn.out)
  post_of = took_post w c site Turn

  -- what was heard was sent to this client
  pub heard : (m : Message) → got ≡ Some (HeardMessage m) → (IsSent w.world m) × (m.header.to ≡ c.0)
  heard m q = go why q
    where
      go : {ev2 : ThirdEvent} {site : WorldClient} {input : ThirdInput} → ClientTakes w c old ev2 site input → heard_in input ≡ Some (HeardMessage m) →
          (IsSent w.world m) × (m.header.to ≡ c.0)
      go ClientTicks q = absurd (none_not_some _ q)
      go (IsAsked ask) q = absurd (none_not_some _ q)
      go (IsAskedToLeave s) q = cc q
      go (ClientGets k x found receiver) q =
          let z : x.message ≡ m = is q in (
            (x, (numbered_has w.world.net.messages k x found, z)),
            ap (λ (y : Message). y.header.to) (sym z) ∙
                client_number w.world.form x.message.header.to c so.form receiver,
          )
        where
          is : Some (HeardMessage x.message) ≡ Some (HeardMessage m) → x.message ≡ m
          is q = cc q
      go (IsTold k ok x found own) q = absurd (none_not_some _ q)

  -- At one server.
  module _ (a d : Association) (node : ServerNode) (h : Has a site.node.state.associations) (x : Went got a Turn.out d)
      (at : numbered w.world.servers d.server.0 ≡ Some node) where
    server_same : d.server ≡ a.server
    server_same = x.server

    bt : Between w.world c old a node
    bt =
        st.between c.0 old a node there (subst (λ (z : ClientState). Has a z.associations) state_same h)
        (ap (λ (z : ServerId). numbered w.world.servers z.0) (sym server_same) ∙ at)

    back : (m : Message) → IsTo c d.server m → IsTo c a.server m
    back m t = (t.0, t.1 ∙ ap (λ (z : ServerId). server_node z) server_same)

    known : (epoch : ℕ) → EpochOf got a epoch → epoch ≤ node.state.stable.epoch.0
    known epoch (OfSession s q r) = let z = bt.session s q in omega (arith, z, r)
    known epoch (OfMessage m q r) =
        let z = st.epochs a.server.0 node (ap (λ (z : ServerId). numbered w.world.servers z.0) (sym server_same) ∙ at) m (heard m q.0).0 q.1 in
        omega (arith, z, r)

    runs : New.node.running ≡ true → old.node.running ≡ true
    runs r = ap (λ (z : plain.ClientNode). z.running) (sym same) ∙ r

    -- a message is old, or was said in this step
    by : (P : Message → Type 0) (m : Message) → IsSent V m → (IsSent w.world m → P m) → (ClientSays Turn.out m → P m) → P m
    by P m i f g = go (post_of.sent m i)
      where
        go : (IsSent w.world m) ⊎ (ClientSays Turn.out m) → P m
        go (inl j) = f j
        go (inr j) = g j

    old_post : (m : Message) → IsSent V m → m.header.from ≡ server_node a.server → IsSent w.world m
    old_post m i f = by (λ m. IsSent w.world m) m i (λ j. j) (λ j. let o = own m j in absurd (omega (arith, f, o, few)))

    welcomed : (life : ℕ) → IsWelcomed got a.server life → life ≤ a.life.0
    welcomed life z =
        let y = heard z.message z.heard.0 in
        let l = bt.welcomes z.message y.0 z.heard.1 y.1 z.welcome in let o = z.of_life in omega (arith, l, o)

    went_quiet : New.node.running ≡ true → Unasked d.session → HasBegun V c d node → IsQuiet V c d.server node
    went_quiet r u g = go (same_or_not d.life.0 a.life.0)
      where
        old_begun : d.life.0 ≡ a.life.0 → HasBegun V c d node → HasBegun w.world c a node
        old_begun l (AtServer y q k) = AtServer y q (k ∙ l)
        old_begun l (OnItsWay m i f t q k) =
            let f2 : m.header.from ≡ server_node a.server = f ∙ ap (λ (z : ServerId). server_node z) server_same in OnItsWay m (old_post m i f2) f2 t q (k ∙ l)
        old_begun l (AtClient y q) = from (x.begun y q)
          where
            from : (((s : ClientSession) × (a.session ≡ Some s)) × (d.life.0 ≡ a.life.0)) ⊎ (IsWelcomed got a.server d.life.0) → HasBegun w.world c a node
            from (inl z) = AtClient z.0.0 z.0.1
            from (inr z) = let y = heard z.message z.heard.0 in OnItsWay z.message y.0 z.heard.1 y.1 z.welcome (z.of_life ∙ l)

        risen : HasBegun V c d node → d.life.0 ≤ a.life.0
        risen (AtServer y q k) = let z = bt.served y q in omega (arith, z, k)
        risen (OnItsWay m i f t q k) =
            let f2 : m.header.from ≡ server_node a.server = f ∙ ap (λ (z : ServerId). server_node z) server_same in
            let z = bt.welcomes m (old_post m i f2) f2 t q in omega (arith, z, k)
        risen (AtClient y q) = from (x.begun y q)
          where
            from : (((s : ClientSession) × (a.session ≡ Some s)) × (d.life.0 ≡ a.life.0)) ⊎ (IsWelcomed got a.server d.life.0) → d.life.0 ≤ a.life.0
            from (inl z) = let l = z.1 in omega (arith, l)
            from (inr z) = welcomed d.life.0 z

        go : (d.life.0 ≡ a.life.0) ⊎ (d.life.0 ≢ a.life.0) → IsQuiet V c d.server node
        go (inl l) =
            let q = bt.quiet (runs r) (x.unasked u l) (old_begun l g) in
            record {
              nothing = q.nothing;
              harmless = λ up m i t. by (IsHarmless node.state c) m i (λ j. q.harmless up m j (back m t)) (λ j. inl (calm m j t l));
            }
          where
            calm : (m : Message) → ClientSays Turn.out m → IsTo c d.server m → d.life.0 ≡ a.life.0 → IsCalm m.body
            calm m j t l =
                let z = x.sent m j (back m t).1 in
                let p = z.since in let q = z.until in x.calm u m j (back m t).1 (omega (arith, p, q, l))
        go (inr ne) = let z = risen g in let y = x.life in absurd (ne (omega (arith, z, y)))

    pub went_between : Between V c New d node
    went_between =
        record {
          lives = λ m i t. by (λ m. m.header.life ≤ d.life.0) m i (λ j. let z = bt.lives m j (back m t) in let y = x.life in omega (arith, z, y))
              (λ j. (x.sent m j (back m t).1).until);
          epochs = λ m i t n. by (λ m. m.header.epoch ≤ node.state.stable.epoch.0) m i (λ j. bt.epochs m j (back m t) n)
              (λ j. epoch_said m n (x.sent m j (back m t).1).epoch);
          session = λ u q. known u.epoch.0 (x.epoch u q);
          served = λ y q. let z = bt.served y q in let l = x.life in omega (arith, z, l);
          welcomes = λ m i f t q. let f2 : m.header.from ≡ server_node a.server = f ∙ ap (λ (z : ServerId). server_node z) server_same in
              let z = bt.welcomes m (old_post m i f2) f2 t q in let l = x.life in omega (arith, z, l);
          calm = λ r u m i t l. by (λ m. IsCalm m.body) m i (λ j. old_calm r u m j t l) (λ j. x.calm u m j (back m t).1 l);
          quiet = went_quiet;
        }
      where
        epoch_said : (m : Message) → (m.body ≡ bodies.Hello → ⊥) → (m.body ≡ bodies.Hello) ⊎ (EpochOf got a m.header.epoch) →
            m.header.epoch ≤ node.state.stable.epoch.0
        epoch_said m n (inl q) = absurd (n q)
        epoch_said m n (inr q) = known m.header.epoch q

        old_calm : New.node.running ≡ true → Unasked d.session → (m : Message) → IsSent w.world m → IsTo c d.server m → m.header.life ≡ d.life.0 → IsCalm m.body
        old_calm r u m j t l =
            let z = bt.lives m j (back m t) in
            let y = x.life in
            let q : d.life.0 ≡ a.life.0 = omega (arith, z, y, l) in bt.calm (runs r) (x.unasked u q) m j (back m t) (l ∙ q)

  pub takes_standing : Standing V
  takes_standing =
      let k = took_core w c site Turn in
      client_standing w.world V c New (ap (λ x. numbered x.plain.clients c.0) k ∙ numbered_own w.world.clients c.0 New old there)
      (λ n ne. ap (λ x. numbered x.plain.clients n) k ∙ numbered_other w.world.clients c.0 n New (numbered_below w.world.clients c.0 old there).0 ne)
      post_of.servers (ClientSays Turn.out) post_of.sent own few st
      (apart_on (λ a d. Went got a Turn.out d) (λ a d x. x.server) _ _ goes.pairs
      (subst (λ (x : ClientState). Apart x.associations) (sym state_same) (st.apart c.0 old there)))
      (λ d h. (pairs_back (λ a d. Went got a Turn.out d) _ _ goes.pairs d h).1.1.numbered)
      (λ d node h at. let z = pairs_back (λ a d. Went got a Turn.out d) _ _ goes.pairs d h in went_between z.0 d node z.1.0 z.1.1 at)
