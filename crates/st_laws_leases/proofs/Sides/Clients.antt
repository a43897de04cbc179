-- A step of a client is one step of the law, for all clients of a server at once: moves of every association, by which the path goes on.
use Rattle.st_lemmas.proofs.Words
use Words.{◌≡◌, ◌≢◌, ℕ, ◌+◌, ◌*◌, ◌<◌, ◌≤◌, ◌⊎◌, Bool, true, false, List, [], ◌∷◌, ◌++◌, ◌==◌, refl, sym, ap, ◌∙◌, subst, inl, inr, arith, length, Option, Some}
use Words.{None, unwrap_or, option_map, if◌then◌else◌, ClientId, ServerId, Life, Stamp, Note, Output, ClientInput, SentMessage, LeaseLife, Message, Body}
use Words.nodes
use Words.notes
use Words.outputs
use Words.Keys.{client, server_node}
use Words.ClientLease.{end_at}
use Words.ClientPages.{empty_store}
use Words.ClientState.{Association, ClientSession, ClientState, ClientTurn}
use Words.Client as cl
use Words.Events as ev
use Words.World.{World, WorldClient, all_servers, numbered, site_of, clock_of, stamp, server}
use Words.Server.{ServerNode}
use Words.Client.{ClientNode}
use Words.Lists.{Has}
use Words.Tables.{has_append}
use Words.Numbers.{numbered_own, numbered_below, set_length}
use Words.bodies as bd
use Words.inputs
use Words.Lookups.{some_is}
use Words.Truth.{not_both}
use Rattle.st_protocol.specs.Assoc as net
use Rattle.st_protocol.specs.Assoc.{Config, ConfigOk, Msg, Moves, Stays, Works, upd, end_now}
use Rattle.st_protocol.proofs.Lists.{upd_all, upd_both}
use Rattle.st_base.specs.Mode.{number_of}
use Rattle.st_protocol.proofs.World.{invariant}
use Rattle.st_laws_refine.specs.Views.Messages.{Received, Fine, Shown, Shows, shown, with_date}
use Rattle.st_laws_refine.specs.Views.Halves.{client_at, client_of, Ghost, half_of}
use Rattle.st_laws_refine.proofs.Views.Moves.{Grows, moves_grow, moved}
use Rattle.st_laws_refine.specs.Server.View.{StandsAt}
use Rattle.st_laws_refine.specs.Server.Pair.{life_now, client_view, client_at_site, client_in, stamp_number, EndedBy, Wire, Wires, Served, pair}
use Rattle.st_laws_refine.proofs.Server.Goes.{sound_more}
use Rattle.st_laws_refine.proofs.Server.Delivery.{wire_more}
use Rattle.st_laws_refine.specs.Server.Invariants.{pairs}
use Rattle.st_laws_refine.specs.Client.Invariants.{Beside, LostNote, Losses}
use Rattle.st_laws_refine.specs.Client.Law.{Comes, ReceivedOf, LifeEnds}
use Rattle.st_laws_refine.specs.Client.World.{sent, Sim, stepped, site_left, world_left, WorldLeft, OwnMoves, lost_life, lost_lives}
use Rattle.st_laws_refine.proofs.Client.Steps.{step_losses}
use Rattle.st_laws_refine.proofs.Client.Sim.{own_moves, others_stay, world_is}
use Rattle.st_laws_leases.specs.Sides.Invariants.{AllPast, Standing, Both, Left}
use Rattle.st_laws_leases.proofs.Sides.Left.{RunsOn, on_then, on_all, on_flushes}
use Rattle.st_laws_leases.proofs.Sides.Pairs.{found_at_place, only_here, own_view, said_has}
use Rattle.st_laws_leases.specs.Sides.Paths.{ClientPath}
use Rattle.st_laws_refine.specs.Server.Paths.{WorkedOn}

-- the lives that outputs say to be lost have their fact
lost_has : (P : ServerId → Life → Type 0) (c : ℕ) (before : ClientState) (os : List Output) (e : LeaseLife) → Losses P os → Has e (lost_lives (client c) before os) →
    P e.server e.life × (e.client.0 ≡ c) × (e.end ≡ cl.lease_end_with before e.server)
lost_has P c before [] e l h = elim h [ ]
lost_has P c before (outputs.Send m ∷ os) e l h = lost_has P c before os e l h
lost_has P c before (outputs.Submit n a w ∷ os) e l h = lost_has P c before os e l h
lost_has P c before (outputs.Answer o a ∷ os) e l h = lost_has P c before os e l h
lost_has P c before (outputs.Note n ∷ os) e l h = note n l h (λ l h. lost_has P c before os e l h)
  where
    note : (n : Note) → LostNote P n (Losses P os) → Has e (lost_life (client c) before n ++ lost_lives (client c) before os) →
        (Losses P os → Has e (lost_lives (client c) before os) → P e.server e.life × (e.client.0 ≡ c) × (e.end ≡ cl.lease_end_with before e.server)) → P e.server e.life × (e.client.0 ≡ c) × (e.end ≡ cl.lease_end_with before e.server)
    note (notes.Lost s life) l (inl q) f =
        (subst (λ (x : LeaseLife). P x.server x.life) (sym q) l.one, ap (λ (x : LeaseLife). x.client.0) q, ap (λ (x : LeaseLife). x.end) q ∙ ap (cl.lease_end_with before) (sym (ap (λ (x : LeaseLife). x.server) q)))
    note (notes.Lost s life) l (inr h) f = f l.rest h
    note n l h f = f l h

-- a client's step leaves the drift, and no byte goes
left_by : (w : World) (c : ClientId) (site : WorldClient) (input : ClientInput) → RunsOn w (world_left w c site input)
unfolding ev.client_took
left_by w c site input =
    on_then w a.world _ (record { drift = refl; bytes = omega arith }) (on_then a.world b.world _ (on_all c site.node.state t.out a) (on_flushes c t.node.state (all_servers b.world) b.world))
  where
    t : cl.NodeTurn
    t = cl.node_turn site.node (stepped w c site input)

    a : ev.WorldTurn
    a = ev.quiet (ev.with_site c (ev.at_node t.node site) w)

    b : ev.WorldTurn
    b = ev.client_says_all c site.node.state t.out a

module _ (k : Config) (s : ℕ) (w : World) (node : ServerNode) (ended : ℕ → ℕ → ℕ) (G : ℕ → Ghost) (c : ℕ) (site0 site : WorldClient) (input : ClientInput) where
  abbrev Now : Stamp
  Now = clock_of w (nodes.Client (client c))

  abbrev Turned : ClientTurn
  Turned = stepped w (client c) site input

  abbrev pub After : World
  After = world_left w (client c) site input

  abbrev Last : WorldClient
  Last = site_left w (client c) site input

  -- after the step everything holds again
  pub steps : Both k s w node ended G → site_of w (client c) ≡ Some site0 → site.node ≡ site0.node → site.node.running ≡ true → Comes (server s) c input (G c).net → ReceivedOf input → ClientPath k s w After node ended G
  steps b there same runs comes received = record { ends_of = E2; ghosts = G2; both = record { stands = record { reached = Works b.stands.reached (record { each = each; table = λ u v z. z }); served = served; compat = b.stands.compat }; clients = clients; ends = ends; few = few }; drift = drift; left = left; keeps = λ H o. WorkedOn o (record { each = each; table = λ u v z. z }) }
    where
      st : Standing k s c site0 w.ended (G c).net
      st = b.clients c site0 there

      a : Association
      a = st.association

      x : Ghost
      x = G c

      sim : Sim k (client c) (server s) site a x.net
      sim = subst (λ (n : ClientNode). Sim k (client c) (server s) (record { node = n; asks = site.asks; starts = site.starts }) a x.net) (sym same) (record { id_ = st.sim.id_; terms = st.sim.terms; place = st.sim.place; born = st.sim.born; kept = st.sim.kept })

      sv : Beside
      sv = record { s = half_of (client c) (clock_of w (nodes.Server (server s))) node.running node.state x; ended = ended c }

      r : OwnMoves k sv w (client c) site input (server s) a x.net
      r = own_moves k sv w (client c) site input (server s) a x.net sim comes

      q : WorldLeft w (client c) site input
      q = world_is w (client c) site input

      y : Ghost
      y = record x { net = r.net }

      E2 : ℕ → ℕ → ℕ
      E2 = upd ended c r.ended

      G2 : ℕ → Ghost
      G2 = upd G c y

      pos : (1 ≤ c) × (c ≤ length w.clients)
      pos = numbered_below w.clients c site0 there

      grows : Grows x.net r.net
      grows = moves_grow r.moves

      many : length After.clients ≡ length w.clients
      many = ap (λ (xs : List WorldClient). length xs) q.clients ∙ set_length w.clients _ Last

      few : length After.clients ≤ 16
      few = let z = b.few in omega (arith, many)

      drift : (d : ℕ) → (G2 d).drift ≡ (G d).drift
      drift d = upd_all (λ d g. g.drift ≡ (G d).drift) G c y refl (λ d n. refl) d

      left : Left w After
      left =
          record {
            servers = q.servers;
            config = q.config;
            clocks = q.clocks;
            drift = on.drift;
            many = many;
            bytes = on.bytes;
            messages = λ m h. sender m (has_append w.net.messages (sent Turned.out) m (subst (Has m) q.messages h));
          }
        where
          on : RunsOn w After
          on = left_by w (client c) site input

          sender : (m : SentMessage) → Has m w.net.messages ⊎ Has m (sent Turned.out) → ((x : SentMessage) × Has x w.net.messages × (x.message ≡ m.message)) ⊎ (m.message.header.from ≤ 16)
          sender m (inl h) = inl (m, h, refl)
          sender m (inr h) = inr (let z = (said_has c (server s) Turned.out r.net m r.said h).0 in let l = b.few in omega (arith, z, pos.1))

      clock_s : clock_of After (nodes.Server (server s)) ≡ clock_of w (nodes.Server (server s))
      clock_s = λ j. unwrap_or (numbered (q.clocks j) (many j + s)) (stamp 0)

      clock_c : (d : ℕ) → clock_of After (nodes.Client (client d)) ≡ clock_of w (nodes.Client (client d))
      clock_c d = λ j. unwrap_or (numbered (q.clocks j) d) (stamp 0)

      here : site_of After (client c) ≡ Some Last
      here = ap (λ xs. numbered xs c) q.clients ∙ numbered_own w.clients c Last site0 there

      -- the client's own association
      own_before : client_in w c s (ended c) ≡ client_of (ended c) Now.0 a
      own_before = own_view w c s (ended c) site0 a there (sym (ap (λ (n : ClientNode). n.running) same) ∙ runs) st.sim.place

      own_after : client_in After c s r.ended ≡ client_of r.ended Now.0 r.last
      own_after = own_view After c s r.ended Last r.last here runs r.sim.place ∙ ap (λ (t : Stamp). client_of r.ended t.0 r.last) (clock_c c)

      own : Moves k (pair c s (ended c) w node x) (pair c s r.ended After node y)
      own = subst (λ z. Moves k z (pair c s r.ended After node y)) (λ j. record { c = sym own_before j; s = sv.s; net = x.net })
          (moved k _ _ _ r.moves (λ j. record { c = sym own_after j; s = half_of (client c) (sym clock_s j) node.running node.state x; net = r.net }))

      -- the others
      site_d : (d : ℕ) → d ≢ c → site_of After (client d) ≡ site_of w (client d)
      site_d d n = (others_stay w (client c) site input).others (client d) pos.0 n

      same_view : (d : ℕ) (e : ℕ → ℕ) (o : Option WorldClient) → client_at_site w d s e o ≡ client_at_site After d s e o
      same_view d e None = λ j. client_at ((sym q.config j).den * (sym clock_s j).0) 1 None empty_store (λ l. 0)
      same_view d e (Some z) = λ j. client_view z.node.running e (sym (clock_c d) j) (cl.association_with z.node.state (server s))

      other : (d : ℕ) → d ≢ c → Moves k (pair d s (ended d) w node (G d)) (pair d s (ended d) After node (G d))
      other d n =
          let v : client_in w d s (ended d) ≡ client_in After d s (ended d) = same_view d (ended d) (site_of w (client d)) ∙ ap (client_at_site After d s (ended d)) (sym (site_d d n)) in
          moved k _ _ _ (Stays (pair d s (ended d) w node (G d))) (λ j. record { c = v j; s = half_of (client d) (sym clock_s j) node.running node.state (G d); net = (G d).net })

      each : (d : ℕ) → Moves k (pair d s (ended d) w node (G d)) (pair d s (E2 d) After node (G2 d))
      each d = upd_both (λ d e g. Moves k (pair d s (ended d) w node (G d)) (pair d s e After node g)) ended G c r.ended y own other d

      -- what is on its way
      wires : (d : ℕ) (N M : List Msg) → Grows N M → Wires d s w.net.messages N → ((m : SentMessage) → Has m (sent Turned.out) → m.message.header.to ≡ 32768 + s → m.message.header.from ≡ d → Received m.message.header m.message.body M) → Wires d s After.net.messages M
      wires d N M g ws f m h = go (has_append w.net.messages (sent Turned.out) m (subst (Has m) q.messages h))
        where
          go : Has m w.net.messages ⊎ Has m (sent Turned.out) → Wire d s m.message M
          go (inl i) = wire_more d s m.message N M g (ws m i)
          go (inr i) =
              let z = (said_has c (server s) Turned.out r.net m r.said i).0 in
              record { to_client = λ e t. let l = b.few in absurd (omega (arith, z, pos.1)); to_server = λ t e o. f m i t o }

      served_at : (d : ℕ) (g h : Ghost) → Served k.wait d s w node g → StandsAt d k.wait (clock_of w (nodes.Server (server s))) node.running node.state h → Wires d s After.net.messages h.net → Served k.wait d s After node h
      served_at d g h sd so wi =
          record { found = ap (λ xs. numbered xs s) q.servers ∙ sd.found; id = sd.id; terms = sd.terms; stands = subst (λ t. StandsAt d k.wait t node.running node.state h) (sym clock_s) so; wires = wi }

      more : (b : Bool) → StandsAt c k.wait (clock_of w (nodes.Server (server s))) b node.state x → StandsAt c k.wait (clock_of w (nodes.Server (server s))) b node.state y
      more true so = sound_more c k.wait _ node.state x y (record { start = refl; gstart = refl; top = refl }) grows so.top so
      more false so = record { emptied = so.emptied; top = so.top }

      served : (d : ℕ) → Served k.wait d s After node (G2 d)
      served d = upd_all (λ d g. Served k.wait d s After node g) G c y
          (let sd = b.stands.served c in
          served_at c x y sd (more node.running sd.stands)
          (wires c x.net r.net grows sd.wires (λ m i t o. (said_has c (server s) Turned.out r.net m r.said i).1 t)))
          (λ d n. let sd = b.stands.served d in
          served_at d (G d) (G d) sd sd.stands (wires d (G d).net (G d).net (λ m i. i) sd.wires (λ m i t o. absurd (n (sym o ∙ (said_has c (server s) Turned.out r.net m r.said i).0))))) d

      -- the lives that are over
      Fact : ServerId → Life → Type 0
      Fact v l = server_node v ≡ server_node (server s) → record { life : l.0 ≡ a.life.0; before : a.life.0 < r.last.life.0; end : stamp_number (cl.lease_end_with site.node.state v) ≤ r.ended l.0 }

      losses : Losses Fact Turned.out
      losses = step_losses k sv Now x.net (server s) Fact site.node.state input received (λ z h ss is over e. fact z (only_here s site.node.state.associations a sim.place z h e) ss is over)
        where
          by_end : (z : Association) → z ≡ a → (ss : ClientSession) → z.session ≡ Some ss → stamp_number (cl.lease_end_with site.node.state z.server) ≡ ss.lease.date.0 + site.node.state.config.lease
          by_end z za ss is =
              ap (λ v. stamp_number (cl.lease_end_with site.node.state v)) (ap (λ (o : Association). o.server) za ∙ sim.place.here)
              ∙ ap (λ o. stamp_number (end_at site.node.state.config (cl.lease_at o))) (found_at_place s site.node.state a sim.place)
              ∙ ap (λ o. stamp_number (end_at site.node.state.config (option_map cl.lease_of_session o))) (sym (ap (λ (o : Association). o.session) za) ∙ is)

          fact : (z : Association) → z ≡ a → (ss : ClientSession) → z.session ≡ Some ss → ss.lease.date.0 + site.node.state.config.lease ≤ Now.0 → record { life : z.life.0 ≡ a.life.0; before : a.life.0 < r.last.life.0; end : stamp_number (cl.lease_end_with site.node.state z.server) ≤ r.ended z.life.0 }
          fact z za ss is over = go r.ends
            where
              held : a.session ≡ Some ss
              held = sym (ap (λ (o : Association). o.session) za) ∙ is

              lf : z.life.0 ≡ a.life.0
              lf = ap (λ (o : Association). o.life.0) za

              go : LifeEnds k Now.0 a r.last.life.0 (ended c) r.ended → record { life : z.life.0 ≡ a.life.0; before : a.life.0 < r.last.life.0; end : stamp_number (cl.lease_end_with site.node.state z.server) ≤ r.ended z.life.0 }
              go (inl u) = let n = subst (λ o. LastsAt o) held u.lasts in let t = sim.terms in absurd (omega arith)
                where
                  LastsAt : Option ClientSession → Type 0
                  LastsAt None = Unit {0}
                  LastsAt (Some s) = Now.0 < s.lease.date.0 + k.lease
              go (inr u) = record { life = lf; before = u.life; end = let p = by_end z za ss is in let e = at_life u.ended in omega arith }
                where
                  at_life : r.ended ≡ upd (ended c) a.life.0 (end_now k (client_of (ended c) Now.0 a)) → r.ended z.life.0 ≡ ss.lease.date.0 + site.node.state.config.lease
                  at_life f = ap r.ended lf ∙ ap (λ (g : ℕ → ℕ). g a.life.0) f ∙ upd_here ∙ now_end
                    where
                      upd_here : upd (ended c) a.life.0 (end_now k (client_of (ended c) Now.0 a)) a.life.0 ≡ end_now k (client_of (ended c) Now.0 a)
                      upd_here = upd_all (λ d v. d ≡ a.life.0 → v ≡ end_now k (client_of (ended c) Now.0 a)) (ended c) a.life.0 _ (λ e. refl) (λ d n e. absurd (n e)) a.life.0 refl

                      now_end : end_now k (client_of (ended c) Now.0 a) ≡ ss.lease.date.0 + site.node.state.config.lease
                      now_end = ap (λ (o : Option ClientSession). end_now k (client_at Now.0 a.life.0 o a.store (ended c))) held ∙ ap (λ n. ss.lease.date.0 + n) (sym sim.terms)

      new_or_old : (e : LeaseLife) → Has e After.ended → Has e w.ended ⊎ (Fact e.server e.life × (e.client.0 ≡ c) × (e.end ≡ cl.lease_end_with site.node.state e.server))
      new_or_old e h = go (has_append w.ended (lost_lives (client c) site.node.state Turned.out) e (subst (Has e) q.ended h))
        where
          go : Has e w.ended ⊎ Has e (lost_lives (client c) site.node.state Turned.out) → Has e w.ended ⊎ (Fact e.server e.life × (e.client.0 ≡ c) × (e.end ≡ cl.lease_end_with site.node.state e.server))
          go (inl i) = inl i
          go (inr i) = inr (lost_has Fact c site.node.state Turned.out e losses i)

      past_own : AllPast c s a.life.0 w.ended
      past_own = subst (λ b. AllPast c s (life_now b a) w.ended) (sym (ap (λ (n : ClientNode). n.running) same) ∙ runs) st.past

      last_life : a.life.0 ≤ r.last.life.0
      last_life = go r.ends
        where
          go : LifeEnds k Now.0 a r.last.life.0 (ended c) r.ended → a.life.0 ≤ r.last.life.0
          go (inl u) = u.life
          go (inr u) = let z = u.life in omega arith

      keeps_ends : (l : ℕ) → l < a.life.0 → ended c l ≤ r.ended l
      keeps_ends l lt = go r.ends
        where
          go : LifeEnds k Now.0 a r.last.life.0 (ended c) r.ended → ended c l ≤ r.ended l
          go (inl u) = let z = ap (λ (g : ℕ → ℕ). g l) u.same in omega arith
          go (inr u) =
              let z = ap (λ (g : ℕ → ℕ). g l) u.ended in
              let n : ended c l ≤ upd (ended c) a.life.0 (end_now k (client_of (ended c) Now.0 a)) l = upd_all (λ d v. d < a.life.0 → ended c d ≤ v) (ended c) a.life.0 _ (λ e. absurd (omega arith)) (λ d n e. omega arith) l lt in
              omega arith

      to_s : (e : LeaseLife) → e.server.0 ≡ s → server_node e.server ≡ server_node (server s)
      to_s e f = ap (λ n. 32768 + n) f

      ends : (d : ℕ) → EndedBy d s (E2 d) After.ended
      ends d = upd_all (λ d f. EndedBy d s f After.ended) ended c r.ended mine theirs d
        where
          mine : EndedBy c s r.ended After.ended
          mine e h ec es = go (new_or_old e h)
            where
              go : Has e w.ended ⊎ (Fact e.server e.life × (e.client.0 ≡ c) × (e.end ≡ cl.lease_end_with site.node.state e.server)) → stamp_number e.end ≤ r.ended e.life.0
              go (inl i) = let p = b.ends c e i ec es in let n = keeps_ends e.life.0 (past_own e i ec es) in omega arith
              go (inr z) = let f = (z.0 (to_s e es)).end in let g = ap stamp_number z.2 in omega arith

          theirs : (d : ℕ) → d ≢ c → EndedBy d s (ended d) After.ended
          theirs d n e h ec es = go (new_or_old e h)
            where
              go : Has e w.ended ⊎ (Fact e.server e.life × (e.client.0 ≡ c) × (e.end ≡ cl.lease_end_with site.node.state e.server)) → stamp_number e.end ≤ ended d e.life.0
              go (inl i) = b.ends d e i ec es
              go (inr z) = absurd (n (sym ec ∙ z.1))

      past_last : AllPast c s r.last.life.0 After.ended
      past_last e h ec es = go (new_or_old e h)
        where
          go : Has e w.ended ⊎ (Fact e.server e.life × (e.client.0 ≡ c) × (e.end ≡ cl.lease_end_with site.node.state e.server)) → e.life.0 < r.last.life.0
          go (inl i) = let p = past_own e i ec es in omega (arith, last_life)
          go (inr z) = let f = z.0 (to_s e es) in let g = f.life in let l = f.before in omega arith

      clients : (d : ℕ) (z : WorldClient) → site_of After (client d) ≡ Some z → Standing k s d z After.ended (G2 d).net
      clients d z f = upd_all (λ d g. site_of After (client d) ≡ Some z → Standing k s d z After.ended g.net) G c y mine theirs d f
        where
          mine : site_of After (client c) ≡ Some z → Standing k s c z After.ended r.net
          mine f = subst (λ z. Standing k s c z After.ended r.net) (some_is (sym here ∙ f))
              (record {
                association = r.last;
                sim = r.sim;
                past = subst (λ b. AllPast c s (life_now b r.last) After.ended) (sym runs) past_last;
                stopped = λ e. absurd (not_both Last.node.running runs e);
              })

          theirs : (d : ℕ) → d ≢ c → site_of After (client d) ≡ Some z → Standing k s d z After.ended (G d).net
          theirs d n f =
              let t = b.clients d z (sym (site_d d n) ∙ f) in
              record { association = t.association; sim = t.sim; past = λ e h ec es. go e ec es (new_or_old e h) t.past; stopped = t.stopped }
            where
              go : (e : LeaseLife) {l : ℕ} → e.client.0 ≡ d → e.server.0 ≡ s → Has e w.ended ⊎ (Fact e.server e.life × (e.client.0 ≡ c) × (e.end ≡ cl.lease_end_with site.node.state e.server)) → AllPast d s l w.ended → e.life.0 < l
              go e ec es (inl i) p = p e i ec es
              go e ec es (inr z) p = absurd (n (sym ec ∙ z.1))

-- what a server showed has a mode if it is a grant
pub fine_shown : (m : Message) (N : List Msg) → Shown m N → ((x : Msg) → net.In x N → net.Fits x.body) → Fine m.body
unfolding with_date
fine_shown m N q f = go m.body q.all
  where
    go : (body : Body) → Shows m.header.life m.header.epoch m.header.stamp (shown m.header.number body) N → Fine body
    go (bd.Granted ino g mode) h = dated (m.header.number == 0) h
      where
        dated : (b : Bool) → Shows m.header.life m.header.epoch m.header.stamp (if b then net.Granted ino g.0 (number_of mode) ∷ [] else net.Ack ∷ net.Granted ino g.0 (number_of mode) ∷ []) N → 1 ≤ number_of mode
        dated true h = f _ h.one
        dated false h = f _ h.rest.one
    go body h = record {}

-- a message that is delivered to a client brings what was shown
pub brings : (k : Config) (s : ℕ) (w : World) (node : ServerNode) (ended : ℕ → ℕ → ℕ) (G : ℕ → Ghost) (c : ℕ) (m : SentMessage) → Both k s w node ended G → Has m w.net.messages →
    ((x : ServerId) → m.message.header.from ≡ server_node x → Fine m.message.body) → Comes (server s) c (inputs.Control m.message) (G c).net
brings k s w node ended G c m b h f = record { shows = λ e t. (((b.stands.served c).wires m h).to_client e t).all; fine = f }

-- the same of any server that runs
pub fine_from : (k : Config) (s : ℕ) (w : World) (node : ServerNode) (ended : ℕ → ℕ → ℕ) (G : ℕ → Ghost) (c : ℕ) (m : SentMessage) → ConfigOk k → Both k s w node ended G → Has m w.net.messages → m.message.header.from ≡ 32768 + s → m.message.header.to ≡ c → Fine m.message.body
fine_from k s w node ended G c m ok b h e t = fine_shown m.message (G c).net (((b.stands.served c).wires m h).to_client e t) (invariant k (pairs s ended w node G) ok b.stands.reached c).fits
