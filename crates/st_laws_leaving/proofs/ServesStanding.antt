-- A server takes an input: what is between clients and servers is kept.
use Rattle.st_lemmas.proofs.Words
use Words.{◌≡◌, ◌≢◌, ◌≤◌, ◌<◌, ◌+◌, ◌⊎◌, ℕ, true, Option, Some, None, Ok, refl, sym, ap, ◌∙◌, subst, inl, inr, arith}
use Words.{ClientId, Message, ServerId, ServerInput, Session, Stamp}
use Words.bodies
use Words.nodes
use Words.outputs
use Words.ClientState.{Association}
use Words.Events as ev
use Words.Events.{quiet}
use Words.Keys.{client, server_node}
use Words.Lists.{Has}
use Words.Lookups.{some_is}
use Words.Numbers.{numbered_below, numbered_has, numbered_other, numbered_own}
use Words.Server as server
use Words.Server.{ServerNode}
use Words.Sessions.{session_of}
use Words.Tables.{same_or_not}
use Words.Truth.{none_not_some}
use Words.World.{World, WorldClient, clock_of, node_of, numbered}
use Rattle.st_rules.specs.declared.input.ServerInput.TheVariants as serving
use Rattle.st_third.specs.declared.event.ThirdEvent.{ThirdEvent}
use Rattle.st_third.specs.Events as every
use Rattle.st_third.specs.Server as hearing
use Rattle.st_third.specs.World.{ThirdWorld}
use Rattle.st_laws_third.proofs.DemandsSeen.{People}
use Rattle.st_laws_third.proofs.EventWalk.{ServerGets, ServerTakes, ServerTicks, Server_step}
use Rattle.st_laws_third.proofs.Sound.{Sound}
use Rattle.st_laws_leaving.specs.Going.{Unasked}
use Rattle.st_laws_leaving.specs.Quiet.{AtClient, AtServer, Between, HasBegun, IsQuiet, IsSent, IsTo, OnItsWay, Standing}
use Rattle.st_laws_leaving.specs.Serving.{HasCome, HasNothing, IsCalm, IsHarmless, IsServing, LifeFrom, LivesOn, NotOfLife, Reasserts, ServesOn, WasThere}
use Rattle.st_laws_leaving.proofs.BegunSessions.{sessions_begin_with_nothing}
use Rattle.st_laws_leaving.proofs.Posts.{Post, server_all_post}
use Rattle.st_laws_leaving.proofs.QuietClients.{servers_stay_quiet}
use Rattle.st_laws_leaving.proofs.ServedClients.{servers_serve_on}
use Rattle.st_laws_leaving.proofs.Betweens.{between_as, calm_or, ne_below, server_number}

-- A server takes an input.
module _ (e : ThirdEvent) (w : ThirdWorld) (so : Sound w) (pe : People w) (st : Standing w.world) (s : ServerId) (node : ServerNode) (input : ServerInput)
    (there : node_of w.world s ≡ Some node) (why : ServerTakes w s e input) (up : node.running ≡ true) where
  abbrev now : Stamp
  now = clock_of w.world (nodes.Server s)

  abbrev Step : server.ServerTurn
  Step = hearing.server_step w.world.form node.state now input

  abbrev Left : ServerNode
  Left = record node { state = Step.state }

  abbrev U : World
  U = (every.as_plain w (ev.server_took w.world s (Ok (Server_step w s node input)))).third.world

  low : 1 ≤ s.0
  low = (numbered_below w.world.servers s.0 node there).0

  id_is : server_node node.state.id ≡ server_node s
  id_is = let z = st.ids s.0 node there in omega (arith, z)

  on : ServesOn node.state input Step
  on = servers_serve_on w.world.form node.state now input (st.serving s.0 node there)

  pub step_post : (Post (ev.with_node s Left w.world) U (λ m. Has (outputs.Send m) Step.out)) × (U.clients ≡ w.world.clients)
  unfolding ev.server_took
  step_post = server_all_post s Step.out (quiet (ev.with_node s Left w.world))

  pub epoch_same : Step.state.stable.epoch.0 ≡ node.state.stable.epoch.0
  epoch_same = ap (λ (x : Words.Epoch). x.0) on.epoch

  -- the message that comes was sent to this server
  pub comes : (m : Message) → input ≡ serving.Control m → (IsSent w.world m) × (m.header.to ≡ server_node s)
  comes m q = go why q
    where
      go : {ev2 : ThirdEvent} {i : ServerInput} → ServerTakes w s ev2 i → i ≡ serving.Control m → (IsSent w.world m) × (m.header.to ≡ server_node s)
      go ServerTicks q = cc q
      go (ServerGets k x found receiver) q =
          let z : x.message ≡ m = is q in (
            (x, (numbered_has w.world.net.messages k x found, z)),
            ap (λ (y : Message). y.header.to) (sym z) ∙ server_number w.world.form x.message.header.to s so.form low receiver,
          )
        where
          is : serving.Control x.message ≡ serving.Control m → x.message ≡ m
          is q = cc q

  -- a message of another node is old
  pub old_mail : (n : ℕ) (m : Message) → n ≤ 64 → IsSent U m → m.header.from ≡ n → IsSent w.world m
  old_mail n m l i f = go (step_post.0.sent m i)
    where
      go : (IsSent w.world m) ⊎ (Has (outputs.Send m) Step.out) → IsSent w.world m
      go (inl j) = j
      go (inr j) = let o = (on.said m j).from in absurd (omega (arith, f, o, l))

  pub old_post : (k : ℕ) (m : Message) → k ≢ s.0 → IsSent U m → m.header.from ≡ 32768 + k → IsSent w.world m
  old_post k m ne i f = go (step_post.0.sent m i)
    where
      go : (IsSent w.world m) ⊎ (Has (outputs.Send m) Step.out) → IsSent w.world m
      go (inl j) = j
      go (inr j) = let o = (on.said m j).from in let p = id_is in absurd (ne (omega (arith, f, o, p)))

  at_server : numbered U.servers s.0 ≡ Some Left
  at_server = ap (λ xs. numbered xs s.0) step_post.0.servers ∙ numbered_own w.world.servers s.0 Left node there

  at_other : (k : ℕ) → k ≢ s.0 → numbered U.servers k ≡ numbered w.world.servers k
  at_other k ne = ap (λ xs. numbered xs k) step_post.0.servers ∙ numbered_other w.world.servers s.0 k Left low ne

  pub by_server : (P : ℕ → ServerNode → Type 0) → P s.0 Left → ((k : ℕ) (x : ServerNode) → k ≢ s.0 → numbered w.world.servers k ≡ Some x → P k x) →
      (k : ℕ) (x : ServerNode) →
      numbered U.servers k ≡ Some x → P k x
  by_server P p f k x q = go (same_or_not k s.0)
    where
      go : (k ≡ s.0) ⊎ (k ≢ s.0) → P k x
      go (inl i) = subst (λ y. P y x) (sym i) (subst (P s.0) (some_is (sym at_server ∙ sym (ap (numbered U.servers) i) ∙ q)) p)
      go (inr ne) = f k x ne (sym (at_other k ne) ∙ q)

  still_harmless : (c : ClientId) (m : Message) → LivesOn node.state c Step.state → IsHarmless node.state c m → IsHarmless Step.state c m
  still_harmless c m l (inl x) = inl x
  still_harmless c m l (inr (inl x)) = let z = epoch_same in inr (inl (omega (arith, x, z)))
  still_harmless c m l (inr (inr x)) =
      let y = l x.1.0 x.1.1 in
      let p = x.1.2 in let q = y.2 in inr (inr (x.0 ∙ sym epoch_same, (y.0, y.1, omega (arith, p, q))))

  -- a server that is quiet stays quiet
  pub quiet_on : (n : ℕ) (r : ServerId) → n ≤ 64 → r.0 ≡ s.0 → IsQuiet w.world (record { 0 = n }) r node → IsQuiet U (record { 0 = n }) r Left
  quiet_on n r l is q =
      let z = servers_stay_quiet w.world.form node.state now input (record { 0 = n })
      (λ m i f. let y = comes m i in q.harmless up m y.0 (f, y.1 ∙ ap (λ k. 32768 + k) (sym is))) q.nothing in
      record {
        nothing = z.0;
        harmless = λ up2 m i t. still_harmless (record { 0 = n }) m z.1 (q.harmless up m (old_mail n m l i t.0) t);
      }

  -- One client at this server.
  module _ (n : ℕ) (site : WorldClient) (a : Association) (here : numbered w.world.clients n ≡ Some site) (h : Has a site.node.state.associations)
      (is : a.server.0 ≡ s.0) where
    abbrev C : ClientId
    C = record { 0 = n }

    few : n ≤ 64
    few = pe.few n site here

    bt : Between w.world C site a node
    bt = st.between n site a node here h (ap (numbered w.world.servers) is ∙ there)

    to_here : server_node s ≡ server_node a.server
    to_here = ap (λ k. 32768 + k) (sym is)

    -- what comes from the client was sent to the server
    came : (m : Message) → input ≡ serving.Control m → m.header.from ≡ n → (IsSent w.world m) × IsTo C a.server m
    came m q f = let z = comes m q in (z.0, (f, z.1 ∙ to_here))

    old : (m : Message) → IsSent U m → IsTo C a.server m → IsSent w.world m
    old m i t = old_mail n m few i t.0

    module _ (r : site.node.running ≡ true) (u : Unasked a.session) where
      quiet_old : HasBegun w.world C a node → IsQuiet U C a.server Left
      quiet_old b = quiet_on n a.server few is (bt.quiet r u b)

      -- the session at the server is of this life
      module _ (x : Session) (q : session_of Step.state.sessions C ≡ Some x) (l : x.life.0 ≡ a.life.0) where
        harmless : (m : Message) → IsSent U m → IsTo C a.server m → IsHarmless Step.state C m
        harmless m i t = go (calm_or m.body)
          where
            j : IsSent w.world m
            j = old m i t

            past : (m.body ≡ bodies.Hello → ⊥) → m.header.life < a.life.0 → IsHarmless Step.state C m
            past ne p = at (same_or_not m.header.epoch Step.state.stable.epoch.0)
              where
                at : (m.header.epoch ≡ Step.state.stable.epoch.0) ⊎ (m.header.epoch ≢ Step.state.stable.epoch.0) → IsHarmless Step.state C m
                at (inl d) = inr (inr (d, (x, q, omega (arith, p, l))))
                at (inr d) = let b = bt.epochs m j t ne in let z = epoch_same in
                    inr (inl (ne_below m.header.epoch Step.state.stable.epoch.0 d (omega (arith, b, z))))

            by_life : (m.body ≡ bodies.Hello → ⊥) → (m.header.life ≡ a.life.0) ⊎ (m.header.life ≢ a.life.0) → IsHarmless Step.state C m
            by_life ne (inl d) = inl (bt.calm r u m j t d)
            by_life ne (inr d) = let b = bt.lives m j t in past ne (ne_below m.header.life a.life.0 d b)

            go : (IsCalm m.body) ⊎ (m.body ≡ bodies.Hello → ⊥) → IsHarmless Step.state C m
            go (inl y) = inl y
            go (inr ne) = by_life ne (same_or_not m.header.life a.life.0)

        begins : NotOfLife node.state C a.life.0 → IsQuiet U C a.server Left
        begins other = go (sessions_begin_with_nothing w.world.form node.state now input C a.life.0 (st.serving s.0 node there) other)
          where
            go : (NotOfLife Step.state C a.life.0) ⊎ ((HasNothing Step.state C) ⊎ (Reasserts input C a.life.0)) → IsQuiet U C a.server Left
            go (inl f) = absurd (f x q l)
            go (inr (inl y)) = record { nothing = y; harmless = λ up2 m i t. harmless m i t }
            go (inr (inr y)) =
                let z = came y.message y.is y.from in
                absurd (subst IsCalm y.asks (bt.calm r u y.message z.0 z.1 y.of_life))

        quiet_at : IsQuiet U C a.server Left
        quiet_at = go (session_of node.state.sessions C) refl
          where
            go : (o : Option Session) → session_of node.state.sessions C ≡ o → IsQuiet U C a.server Left
            go None p = begins (λ y i k. none_not_some y (sym p ∙ i))
            go (Some y) p = at (same_or_not y.life.0 a.life.0)
              where
                at : (y.life.0 ≡ a.life.0) ⊎ (y.life.0 ≢ a.life.0) → IsQuiet U C a.server Left
                at (inl k) = quiet_old (AtServer y p k)
                at (inr ne) = begins (λ z i k. ne (ap (λ (v : Session). v.life.0) (some_is (sym p ∙ i)) ∙ k))

      quiet_then : HasBegun U C a Left → IsQuiet U C a.server Left
      quiet_then (AtServer x q l) = quiet_at x q l
      quiet_then (AtClient z p) = quiet_old (AtClient z p)
      quiet_then (OnItsWay m i f t q l) = go (step_post.0.sent m i)
        where
          go : (IsSent w.world m) ⊎ (Has (outputs.Send m) Step.out) → IsQuiet U C a.server Left
          go (inl j) = quiet_old (OnItsWay m j f t q l)
          go (inr j) =
              let z = on.welcomed m j q in
              quiet_at z.0 (ap (λ (k : ℕ). session_of Step.state.sessions (client k)) (sym t) ∙ z.1) (z.2 ∙ l)

    serves_between : Between U C site a Left
    serves_between =
        record {
          lives = λ m i t. bt.lives m (old m i t) t;
          epochs = λ m i t ne. let z = bt.epochs m (old m i t) t ne in let y = epoch_same in omega (arith, z, y);
          session = λ u q. let z = bt.session u q in let y = epoch_same in omega (arith, z, y);
          served = λ y q. served y (on.lives C y q);
          welcomes = λ m i f t q. welcomes m t q f (step_post.0.sent m i);
          calm = λ r u m i t l. bt.calm r u m (old m i t) t l;
          quiet = λ r u g. quiet_then r u g;
        }
      where
        served : (y : Session) → LifeFrom node.state input C y.life.0 → y.life.0 ≤ a.life.0
        served y (WasThere x q l) = let z = bt.served x q in omega (arith, z, l)
        served y (HasCome m i f l) = let z = came m i f in let k = bt.lives m z.0 z.1 in omega (arith, k, l)

        welcomes : (m : Message) → m.header.to ≡ n → m.body ≡ bodies.Welcome → m.header.from ≡ server_node a.server →
            (IsSent w.world m) ⊎ (Has (outputs.Send m) Step.out) → m.header.life ≤ a.life.0
        welcomes m t q f (inl j) = bt.welcomes m j f t q
        welcomes m t q f (inr j) =
            let g = (on.said m j).welcome q in
            let z = came g.greeting g.is (sym g.from ∙ t) in
            let k = bt.lives g.greeting z.0 z.1 in let l = g.life in omega (arith, k, l)

  pub serves_standing : Standing U
  serves_standing =
      record {
        apart = λ n site q. st.apart n site (sym (ap (λ xs. numbered xs n) step_post.1) ∙ q);
        requests = λ n site q. st.requests n site (sym (ap (λ xs. numbered xs n) step_post.1) ∙ q);
        ids = by_server (λ k x. x.state.id.0 ≡ k) (ap (λ (x : ServerId). x.0) on.id ∙ st.ids s.0 node there) (λ k x ne q. st.ids k x q);
        serving = by_server (λ k x. IsServing x.state) on.serving (λ k x ne q. st.serving k x q);
        epochs =
            by_server (λ k x. (m : Message) → IsSent U m → m.header.from ≡ 32768 + k → m.header.epoch ≤ x.state.stable.epoch.0)
            (λ m i f. own_epoch m f (step_post.0.sent m i)) (λ k x ne q m i f. st.epochs k x q m (old_post k m ne i f) f);
        between =
            λ n site a x q h p. by_server (λ k x. a.server.0 ≡ k → Between U (record { 0 = n }) site a x)
            (λ d. serves_between n site a (sym (ap (λ xs. numbered xs n) step_post.1) ∙ q) h d)
            (λ k x ne p d. other n site a x (sym (ap (λ xs. numbered xs n) step_post.1) ∙ q) h (λ z. ne (sym d ∙ z)) (ap (numbered w.world.servers) d ∙ p))
            a.server.0 x p refl;
      }
    where
      own_epoch : (m : Message) → m.header.from ≡ 32768 + s.0 → (IsSent w.world m) ⊎ (Has (outputs.Send m) Step.out) →
          m.header.epoch ≤ Left.state.stable.epoch.0
      own_epoch m f (inl j) = let z = st.epochs s.0 node there m j f in let y = epoch_same in omega (arith, z, y)
      own_epoch m f (inr j) = let z = (on.said m j).epoch in let y = epoch_same in omega (arith, z, y)

      other : (n : ℕ) (site : WorldClient) (a : Association) (x : ServerNode) → numbered w.world.clients n ≡ Some site → Has a site.node.state.associations →
          a.server.0 ≢ s.0 → numbered w.world.servers a.server.0 ≡ Some x → Between U (record { 0 = n }) site a x
      other n site a x q h ne p =
          between_as w.world U (record { 0 = n }) site a x (λ m i t. old_mail n m (pe.few n site q) i t.0) (λ m i f. old_post a.server.0 m ne i f)
          (st.between n site a x q h p)
