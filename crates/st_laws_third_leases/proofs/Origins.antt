-- In every run of the third form: the numbers of a client's messages to a server are its own, and each reply of the server, and each session of the client
-- there, belongs to a life in which the client sent it a message.
use Rattle.st_lemmas.proofs.Words
use Words.{◌≡◌, ◌≢◌, ℕ, ◌+◌, ◌≤◌, ◌⊎◌, Bool, true, false, List, [], Option, Some, None, refl, sym, ap, ◌∙◌, subst, inl, inr, arith}
use Words.{ClientId, ClientInput, Config, Event, Life, Message, ServerId, ServerInput, Session, Stamp}
use Words.nodes
use Words.outputs
use Words.serving
use Words.ClientState.{Association}
use Words.Keys.{server_node}
use Words.Lists.{Has}
use Words.Lookups.{some_is}
use Words.Numbers.{numbered_below, numbered_has, numbered_other, numbered_own}
use Words.Server as server
use Words.Server.{ServerNode, ServerState, ServerTurn, thefts}
use Words.Sessions.{session_of}
use Words.Tables.{has_map_in, same_or_not}
use Words.Truth.{not_both}
use Words.World.{World, WorldClient, clock_of, node_of, numbered, site_of}
use Rattle.st_laws_healthy.proofs.Happening.{BringsServer, Delivers}
use Rattle.st_laws_healthy.proofs.Lives.{ComesFrom, IsOf, IsOlder, comes_from}
use Rattle.st_laws_healthy.proofs.Origins.{Origins, SaidIn, before_thefts}
use Rattle.st_laws_healthy.proofs.Served.{From}
use Rattle.st_laws_healthy.proofs.Serving.{Answers, does_of}
use Rattle.st_laws_healthy.proofs.Telling.{IsUnasked, step_sends_of, step_sessions_of, tick_sends_of, tick_sessions_of}
use Rattle.st_laws_leases.specs.Dates.Dates.{message_in, messages}
use Rattle.st_laws_requests.specs.Cuts.Cuts.{Between, OneBody, view}
use Rattle.st_laws_steps.specs.Lives.Lives.{Pairwise}
use Rattle.st_laws_third.proofs.EventWalk.{Client_step, Server_step}
use Rattle.st_third.specs.Events.{ThirdWorldTurn}
use Rattle.st_third.specs.World.{ThirdWorld}
use Rattle.st_trace.specs.Server.Steps.{step_of, take_of}
use Rattle.st_laws_third_leases.proofs.Happening.{ClientSteps, ServerSteps, client_from, client_is, server_from, server_is, server_number}
use Rattle.st_laws_third_leases.proofs.Idle.{Sent}
use Rattle.st_laws_third_leases.proofs.Nodes.{Known}
use Rattle.st_laws_third_leases.proofs.Numbering as numbering
use Rattle.st_laws_third_leases.proofs.Numbering.{IsFromStep, one_body, place_after}
use Rattle.st_laws_third_leases.proofs.OneStep as one
use Rattle.st_laws_third_leases.proofs.Placing.{Place, Resting}
use Rattle.st_laws_third_leases.proofs.ServerSays.{Near, step_says, third_step_is}
use Rattle.st_laws_third_leases.proofs.Stepping.{ThirdWalk, plain_input}
use Rattle.st_laws_third_leases.proofs.Stories.{ByClient, ByServer, IsAsBefore, IsBegun, IsQuiet, Restarts, Story}

module _ (c : ClientId) (s : ServerId) where
  -- The messages to the server belong to no later life than an association has, and have one body under each number. While the client runs, the numbers are
  -- the association's.
  pub record IsPlaced (ms : List Message) (running : Bool) (a : Association) : Type 0 where
    pub lives : (m : Message) → Has m ms → Between c s m → m.header.life ≤ a.life.0
    pub one : OneBody (λ m. Has m ms) c s
    pub place : running ≡ true → Place ms c s a.life.0 (view a.session)

  -- What holds of a world.
  pub record Origin (w : World) : Type 0 where
    pub said : Origins c s w
    pub epochs : (node : ServerNode) → node_of w s ≡ Some node → node.state.sessions.epoch ≡ node.state.stable.epoch
    pub placed : (site : WorldClient) → site_of w c ≡ Some site → (a : Association) → Has a site.node.state.associations → a.server ≡ s →
        IsPlaced (messages w) site.node.running a

  -- more messages, none of which is from the client to the server
  more_placed : (ms ns : List Message) → ((m : Message) → Has m ns → Between c s m → Has m ms) → (r : Bool) (a : Association) → IsPlaced ms r a →
      IsPlaced ns r a
  more_placed ms ns less r a p =
      record {
        lives = λ m h x. p.lives m (less m h x) x;
        one = λ m q h i x y. p.one m q (less m h x) (less q i y) x y;
        place = λ e. let z = p.place e in
            record {
              lives = λ m h x. z.lives m (less m h x) x;
              placed = λ m h x. z.placed m (less m h x) x;
              counts = z.counts;
              plain = z.plain;
            };
      }

  -- a life that ended leaves no session
  next_placed : (ms : List Message) (r : Bool) (a b : Association) (q : Bool) → IsPlaced ms q a → b.session ≡ None →
      ((r ≡ false) × (b.life ≡ a.life)) ⊎ (b.life.0 ≡ a.life.0 + 1) → IsPlaced ms r b
  next_placed ms r a b q p none (inl (off, same)) =
      record {
        lives = λ m h x. let l = p.lives m h x in let e = ap (λ (z : Life). z.0) same in omega (arith, l, e);
        one = p.one;
        place = λ e. absurd (not_both r e off);
      }
  next_placed ms r a b q p none (inr up) =
      record {
        lives = λ m h x. let l = p.lives m h x in omega (arith, l, up);
        one = p.one;
        place = λ e. subst (λ o. Place ms c s b.life.0 (view o)) (sym none)
            (record {
              lives = λ m h x. let l = p.lives m h x in omega (arith, l, up);
              placed = λ m h x i. absurd (let l = p.lives m h x in omega (arith, l, up, i));
              counts = tt;
              plain = tt;
            });
      }

none_some : {A : Type 0} {P : Type 0} (x : A) → ◌≡◌ {A = Option A} None (Some x) → P
none_some x q = cc

-- An event.
module _ {k : Config} (w : ThirdWorld) (kn : Known k w) (e : Event) (sc : ThirdWorldTurn) (kn2 : Known k sc.third) (c : ClientId) (s : ServerId)
    (low : c.0 ≤ 64) (more : (m : Message) → Has m (messages w.world) → Has m (messages sc.third.world))
    (resting : (site : WorldClient) → site_of w.world c ≡ Some site → (a : Association) → Has a site.node.state.associations → Resting a)
    (o : Origin c s w.world) where
  abbrev ms : List Message
  ms = messages w.world

  abbrev ns : List Message
  ns = messages sc.third.world

  said_more : (life : ℕ) → SaidIn c s life ms → SaidIn c s life ns
  said_more life z = record { by = z.by; among = more z.by z.among; way = z.way; of_life = z.of_life }

  old_reply : (m : Message) → Has m ms → From c s m → IsUnasked m ⊎ SaidIn c s m.header.life ns
  old_reply m i f = by (o.said.replies m i f)
    where
      by : IsUnasked m ⊎ SaidIn c s m.header.life ms → IsUnasked m ⊎ SaidIn c s m.header.life ns
      by (inl u) = inl u
      by (inr z) = inr (said_more m.header.life z)

  old_life : (node : ServerNode) → node_of w.world s ≡ Some node → (y z : Session) → session_of node.state.sessions c ≡ Some z → y.life ≡ z.life →
      SaidIn c s y.life.0 ns
  old_life node f y z q l = subst (λ (v : Life). SaidIn c s v.0 ns) (sym l) (said_more z.life.0 (o.said.lives node f z q))

  -- A step of the server.
  module _ (y : ServerSteps w e sc c s) where
    abbrev at : Stamp
    at = clock_of w.world (nodes.Server s)

    abbrev n : ServerState
    n = y.node.state

    abbrev u : ServerTurn
    u = thefts (server.turn n []) at

    said_by : (m : Message) → Delivers w.world e m × (m.header.to ≡ server_node s) → m.header.from ≡ c.0 → SaidIn c s m.header.life ns
    said_by m b f =
        record {
          by = m;
          among = more m
              (subst (λ (z : Message). Has z ms) (sym b.0.is)
              (has_map_in message_in w.world.net.messages b.0.sent (numbered_has w.world.net.messages b.0.number b.0.sent b.0.there)));
          way = record { from = f; to = b.1 };
          of_life = refl;
        }

    reply : (i : ServerInput) → BringsServer w.world e (server_node s) i → (r : Message) → Has (outputs.Send r) (step_of Near n at i).out → From c s r →
        IsUnasked r ⊎ SaidIn c s r.header.life ns
    reply serving.Tick b r j f = inl (tick_sends_of Near n at r j)
    reply (serving.Control m) b r j f = by (step_sends_of Near n at m r j)
      where
        by : IsUnasked r ⊎ Answers at m.header u m.body r → IsUnasked r ⊎ SaidIn c s r.header.life ns
        by (inl z) = inl z
        by (inr a) =
            let to = ap (λ (x : Message). x.header.to) a.is in
            let life = ap (λ (x : Message). x.header.life) a.is in
            inr (subst (λ l. SaidIn c s l ns) (sym life) (said_by m b (sym to ∙ f.to)))

    life_of : (i : ServerInput) → BringsServer w.world e (server_node s) i → (z : Session) → session_of (step_of Near n at i).state.sessions c ≡ Some z →
        SaidIn c s z.life.0 ns
    life_of serving.Tick b z q =
        let v = before_thefts c n at z (ap (λ v. session_of v c) (sym (tick_sessions_of Near n at)) ∙ q) in old_life y.node y.there z v.0 v.1 v.2
    life_of (serving.Control m) b z q =
        by (comes_from at m.header u (take_of Near u at (serving.Control m)) m.body c (does_of at m.header Near u m.body) z
        (ap (λ v. session_of v c) (sym (step_sessions_of Near n at m)) ∙ q))
      where
        by : ComesFrom at m.header u (take_of Near u at (serving.Control m)) m.body c z → SaidIn c s z.life.0 ns
        by (IsOlder v f l) = let r = before_thefts c n at v f in old_life y.node y.there z r.0 r.1 (l ∙ r.2)
        by (IsOf f l) = subst (λ n. SaidIn c s n ns) (sym l) (said_by m b f)

    same_turn : Rattle.st_third.specs.Server.server_step w.world.form n at y.input ≡ step_of Near n at y.input
    same_turn = third_step_is w.world.form kn.sound.form n at y.input

    own : node_of sc.third.world s ≡ Some (record y.node { state = (step_of Near n at y.input).state })
    own =
        ap (λ xs. numbered xs s.0) y.servers
        ∙ numbered_own w.world.servers s.0 _ y.node y.there
        ∙ ap (λ (u : ServerTurn). Some (record y.node { state = u.state })) same_turn

    server_said : Origins c s sc.third.world
    server_said =
        record {
          replies = λ m h f. by m f (y.new m h);
          lives = λ node f z q. life_of y.input y.brings z (ap (λ (v : ServerNode). session_of v.state.sessions c) (some_is (sym own ∙ f)) ∙ q);
        }
      where
        by : (m : Message) → From c s m → Has m ms ⊎ Has (outputs.Send m) (Server_step w s y.node y.input).out → IsUnasked m ⊎ SaidIn c s m.header.life ns
        by m f (inl h) = old_reply m h f
        by m f (inr h) = reply y.input y.brings m (subst (λ (u : ServerTurn). Has (outputs.Send m) u.out) same_turn h) f

    server_epochs : (node : ServerNode) → node_of sc.third.world s ≡ Some node → node.state.sessions.epoch ≡ node.state.stable.epoch
    server_epochs node f =
        subst (λ (v : ServerNode). v.state.sessions.epoch ≡ v.state.stable.epoch) (some_is (sym own ∙ f))
        (let z = step_says n Near at y.input in z.sepoch ∙ o.epochs y.node y.there ∙ sym z.epoch)

  -- A step of the client.
  module _ (y : ClientSteps w e sc s c) where
    rest_now : (a : Association) → Has a y.site.node.state.associations → Resting a
    rest_now = subst (λ (n : Words.Client.ClientNode). (a : Association) → Has a n.state.associations → Resting a) (sym y.same) (resting y.old y.there)

    abbrev now : Stamp
    now = clock_of w.world (nodes.Client c)

    abbrev id : ClientId
    id = y.site.node.state.id

    abbrev i : ClientInput
    i = plain_input y.input

    abbrev Said : Message → Type 0
    Said = Sent (Client_step w c y.site y.beside y.input).out

    abbrev al : List Association
    al = y.site.node.state.associations

    abbrev bs : List Association
    bs = (Client_step w c y.site y.beside y.input).client.plain.associations

    pairs : Pairwise (ThirdWalk k id now i Said) al bs
    pairs = one.pairs w kn e sc s c y rest_now kn2

    was : (a : Association) → Has a al → a.server ≡ s → IsPlaced c s ms y.old.node.running a
    was =
        subst (λ (n : Words.Client.ClientNode). (a : Association) → Has a n.state.associations → a.server ≡ s → IsPlaced c s ms y.old.node.running a)
        (sym y.same) (o.placed y.old y.there)

    client_placed : (r : Bool) (b : Association) → Has b bs → b.server ≡ s → IsPlaced c s ns r b
    client_placed r b h at_b = made (numbering.back k c s id now i Said al bs pairs b h)
      where
        came : (m : Message) → Has m ns → Between c s m → Has m ms ⊎ IsFromStep b m
        came m j x = go (y.took.new m j)
          where
            go : Has m ms ⊎ Said m → Has m ms ⊎ IsFromStep b m
            go (inl l) = inl l
            go (inr l) =
                inr (numbering.from_step k c s id now i Said al bs pairs (one.sends w kn e sc s c y rest_now kn2) (one.of w kn e sc s c y rest_now kn2)
                (one.once w kn e sc s c y rest_now kn2) b h at_b m l x)

        made : (a : Association) × Has a al × ThirdWalk k id now i Said a b → IsPlaced c s ns r b
        made (a, ha, v) =
            let p = was a ha (numbering.was_at k c s id now i Said al bs pairs a b v at_b) in
            let q = numbering.place_then k c s id now i Said al bs pairs ms a b v at_b (p.place y.up) in
            let z = place_after c s ms ns b q p.one came in
            record { lives = z.lives; one = one_body c s ms ns b q p.one came; place = λ f. z }

    own_placed : (site : WorldClient) → site_of sc.third.world c ≡ Some site → (b : Association) → Has b site.node.state.associations → b.server ≡ s →
        IsPlaced c s ns site.node.running b
    own_placed site f b j at_b =
        client_placed site.node.running b
        (subst (λ (v : WorldClient). Has b v.node.state.associations) (some_is (sym f ∙ one.here w kn e sc s c y rest_now kn2)) j) at_b

  -- Messages that aren't from the client, or are as before.
  others_placed : ((m : Message) → Has m ns → Between c s m → Has m ms) → site_of sc.third.world c ≡ site_of w.world c → (site : WorldClient) →
      site_of sc.third.world c ≡ Some site → (a : Association) → Has a site.node.state.associations → a.server ≡ s → IsPlaced c s ns site.node.running a
  others_placed less same site f a j at = more_placed c s ms ns less site.node.running a (o.placed site (sym same ∙ f) a j at)

  same_said : (ns ≡ ms) → ((node : ServerNode) → node_of sc.third.world s ≡ Some node → (z : Session) → session_of node.state.sessions c ≡ Some z →
      SaidIn c s z.life.0 ns) → Origins c s sc.third.world
  same_said e f = record { replies = λ m h g. old_reply m (subst (Has m) e h) g; lives = f }

  old_node : node_of sc.third.world s ≡ node_of w.world s → (node : ServerNode) → node_of sc.third.world s ≡ Some node → (z : Session) →
      session_of node.state.sessions c ≡ Some z → SaidIn c s z.life.0 ns
  old_node same node f z q = old_life node (sym same ∙ f) z z q refl

  old_epochs : node_of sc.third.world s ≡ node_of w.world s → (node : ServerNode) → node_of sc.third.world s ≡ Some node →
      node.state.sessions.epoch ≡ node.state.stable.epoch
  old_epochs same node f = o.epochs node (sym same ∙ f)

  -- After the event.
  pub origin_after : Story w e sc → Origin c s sc.third.world
  origin_after (ByClient d old site b input there same up q brings told ticks took) =
      record {
        said = record { replies = λ m h f. by m f (took.new m h); lives = old_node nodes_same };
        epochs = old_epochs nodes_same;
        placed = go (same_or_not c.0 d.0);
      }
    where
      few : (1 ≤ d.0) × (d.0 ≤ 64)
      few = let z = numbered_below w.world.clients d.0 old there in let y = z.1 in let l = kn.few in (z.0, omega (arith, y, l))

      apart : server_node s ≢ d.0
      apart g = let z : 32768 + s.0 ≡ d.0 = g in let y = few.1 in omega (arith, z, y)

      nodes_same : node_of sc.third.world s ≡ node_of w.world s
      nodes_same = ap (λ xs. numbered xs s.0) took.servers

      by : (m : Message) → From c s m → Has m ms ⊎ Sent (Client_step w d site b input).out m → IsUnasked m ⊎ SaidIn c s m.header.life ns
      by m f (inl h) = old_reply m h f
      by m f (inr h) = absurd (apart (sym f.from ∙ client_from w kn d old site b input there same q m h))

      its : ClientSteps w e sc s d
      its = record {
        old = old;
        site = site;
        beside = b;
        input = input;
        there = there;
        same = same;
        up = up;
        is = q;
        brings = brings;
        deaf = told (server_node s) apart;
        took = took;
      }

      less : c.0 ≢ d.0 → (m : Message) → Between c s m → Has m ms ⊎ Sent (Client_step w d site b input).out m → Has m ms
      less ne m x (inl h) = h
      less ne m x (inr h) = absurd (ne (sym x.0 ∙ client_from w kn d old site b input there same q m h))

      go : (c.0 ≡ d.0) ⊎ (c.0 ≢ d.0) → (v : WorldClient) → site_of sc.third.world c ≡ Some v → (a : Association) → Has a v.node.state.associations →
          a.server ≡ s → IsPlaced c s ns v.node.running a
      go (inl z) = own_placed (subst (ClientSteps w e sc s) (client_is c d z) its)
      go (inr ne) =
          others_placed (λ m h x. less ne m x (took.new m h))
          (ap (λ xs. numbered xs c.0) took.clients ∙ numbered_other w.world.clients d.0 c.0 _ few.0 ne)
  origin_after (ByServer r node i there arrives brings told ticks cs ss clocks new says) =
      record {
        said = said (same_or_not s.0 r.0);
        epochs = epochs (same_or_not s.0 r.0);
        placed = others_placed (λ m h x. less m x (new m h)) (ap (λ xs. numbered xs c.0) cs);
      }
    where
      apart : c.0 ≢ server_node r
      apart g = let z : c.0 ≡ 32768 + r.0 = g in omega (arith, z, low)

      its : ServerSteps w e sc c r
      its = record {
        node = node;
        input = i;
        there = there;
        brings = brings;
        deaf = told c.0 apart;
        clients = cs;
        servers = ss;
        clocks = clocks;
        new = new;
        told = says;
      }

      nodes_same : s.0 ≢ r.0 → node_of sc.third.world s ≡ node_of w.world s
      nodes_same ne = ap (λ xs. numbered xs s.0) ss ∙ numbered_other w.world.servers r.0 s.0 _ (numbered_below w.world.servers r.0 node there).0 ne

      by : s.0 ≢ r.0 → (m : Message) → From c s m → Has m ms ⊎ Has (outputs.Send m) (Server_step w r node i).out → IsUnasked m ⊎ SaidIn c s m.header.life ns
      by ne m f (inl h) = old_reply m h f
      by ne m f (inr h) = absurd (ne (server_number s r (sym f.from ∙ server_from w kn r node i there m h)))

      said : (s.0 ≡ r.0) ⊎ (s.0 ≢ r.0) → Origins c s sc.third.world
      said (inl z) = server_said (subst (ServerSteps w e sc c) (server_is s r z) its)
      said (inr ne) = record { replies = λ m h f. by ne m f (new m h); lives = old_node (nodes_same ne) }

      epochs : (s.0 ≡ r.0) ⊎ (s.0 ≢ r.0) → (v : ServerNode) → node_of sc.third.world s ≡ Some v → v.state.sessions.epoch ≡ v.state.stable.epoch
      epochs (inl z) = server_epochs (subst (ServerSteps w e sc c) (server_is s r z) its)
      epochs (inr ne) = old_epochs (nodes_same ne)

      less : (m : Message) → Between c s m → Has m ms ⊎ Has (outputs.Send m) (Server_step w r node i).out → Has m ms
      less m x (inl h) = h
      less m x (inr h) = absurd (apart (sym x.0 ∙ server_from w kn r node i there m h))
  origin_after (Restarts d old there broken begun others told ticks many ss clocks same) =
      record {
        said = same_said same (old_node (ap (λ xs. numbered xs s.0) ss));
        epochs = old_epochs (ap (λ xs. numbered xs s.0) ss);
        placed = go (same_or_not c.0 d.0);
      }
    where
      restarted : c.0 ≡ d.0 → (v : WorldClient) (a : Association) → IsBegun old v a → a.server ≡ s → IsPlaced c s ns v.node.running a
      restarted z v a b its =
          next_placed c s ns v.node.running b.was a old.node.running
          (more_placed c s ms ns (λ m h x. subst (Has m) same h) old.node.running b.was
          (o.placed old (ap (numbered w.world.clients) z ∙ there) b.was b.among (sym b.server ∙ its))) b.session b.life

      go : (c.0 ≡ d.0) ⊎ (c.0 ≢ d.0) → (v : WorldClient) → site_of sc.third.world c ≡ Some v → (a : Association) → Has a v.node.state.associations →
          a.server ≡ s → IsPlaced c s ns v.node.running a
      go (inl z) = λ v f a j there. restarted z v a (begun v a (ap (numbered sc.third.world.clients) (sym z) ∙ f) j) there
      go (inr ne) = others_placed (λ m h x. subst (Has m) same h) (others c ne)
  origin_after (IsQuiet x off told ticks cs ss later same) =
      record {
        said = same_said same (λ node f z q. lives node z q (ss s.0 node f));
        epochs = λ node f. epochs node (ss s.0 node f);
        placed = others_placed (λ m h x. subst (Has m) same h) (ap (λ xs. numbered xs c.0) cs);
      }
    where
      lives : (node : ServerNode) (z : Session) → session_of node.state.sessions c ≡ Some z →
          ((old : ServerNode) × (numbered w.world.servers s.0 ≡ Some old) × (node.state.id ≡ old.state.id) × IsAsBefore old node) → SaidIn c s z.life.0 ns
      lives node z q (old, was, id, kept) = by kept
        where
          by : IsAsBefore old node → SaidIn c s z.life.0 ns
          by (inl e) = old_life old was z z (ap (λ (n : ServerNode). session_of n.state.sessions c) (sym e) ∙ q) refl
          by (inr (empty, f)) = none_some z (sym (empty.none c) ∙ q)

      epochs : (node : ServerNode) →
          ((old : ServerNode) × (numbered w.world.servers s.0 ≡ Some old) × (node.state.id ≡ old.state.id) × IsAsBefore old node) →
          node.state.sessions.epoch ≡ node.state.stable.epoch
      epochs node (old, was, id, kept) = by kept
        where
          by : IsAsBefore old node → node.state.sessions.epoch ≡ node.state.stable.epoch
          by (inl e) = subst (λ (n : ServerNode). n.state.sessions.epoch ≡ n.state.stable.epoch) (sym e) (o.epochs old was)
          by (inr (empty, f)) = empty.epoch
