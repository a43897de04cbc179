-- Every event leaves each number of a server with its client and its file.
use Rattle.st_lemmas.proofs.Words
use Words.{◌≡◌, ◌≢◌, ℕ, ◌+◌, ◌*◌, ◌^◌, ◌≤◌, ◌<◌, ◌⊎◌, Bool, true, false, List, [], ◌∷◌, Option, Some, None, Ok, refl, sym, ap, ◌∙◌, subst, inl, inr, arith}
use Words.{nat_le, leb-true, ClientId, Epoch, GrantNo, ServerId, Mode, Message, Output, Event, ClientInput, ServerInput, Session, SentMessage}
use Words.nodes
use Words.bodies as bd
use Words.outputs
use Words.inputs
use Words.serving
use Words.Client as cl
use Words.Client.{ClientNode}
use Words.ClientState.{Association}
use Words.Events as ev
use Words.Events.{WorldTurn, world_step}
use Words.Keys.{client, server_node}
use Words.Locks as locks
use Words.Server as sv
use Words.Server.{ServerNode, ServerState, is_client_node, next_epoch}
use Words.World.{World, WorldClient, clock_of, node_of, numbered, server, site_of, with_numbered}
use Words.Lists.{Has}
use Words.Numbers.{numbered_below}
use Words.Tables.{and_true, has_map, same_or_not}
use Words.Members.{has_right}
use Rattle.st_protocol.specs.Assoc as net
use Rattle.st_protocol.specs.Assoc.{Config, Msg, In}
use Rattle.st_laws_leases.specs.Dates.Dates.{message_in, messages}
use Rattle.st_laws_leases.specs.Sides.Invariants.{Standing}
use Rattle.st_laws_leases.specs.Sides.World.{AllStand, ServerStands}
use Rattle.st_laws_leases.proofs.Dates.Leaving.{Leaves, leaves_from, server_not_client, set_cases}
use Rattle.st_laws_leases.proofs.Sides.Clients.{fine_from}
use Rattle.st_laws_leases.proofs.Sides.Pairs.{only_here}
use Rattle.st_laws_refine.specs.Client.Law.{Comes}
use Rattle.st_laws_refine.specs.Client.Invariants.{Beside, Kept, Said}
use Rattle.st_laws_refine.specs.Client.World.{OwnMoves, Sim}
use Rattle.st_laws_refine.specs.Server.View.{StandsAt}
use Rattle.st_laws_refine.specs.Views.Halves.{client_of, held_in}
use Rattle.st_laws_refine.specs.Views.Messages.{Fine, Received, Shown, lock_in, lock_in_row}
use Rattle.st_laws_refine.proofs.Client.Goes.{kept_any}
use Rattle.st_laws_refine.proofs.Client.Sim.{own_moves}
use Rattle.st_laws_refine.proofs.Server.Counts.{few_grants}
use Rattle.st_laws_refine.proofs.Server.OneRow.{alone}
use Rattle.st_laws_refine.proofs.Views.Moves.{Grows as MoreSent, received_more, moves_grow, shown_more}
use Rattle.st_laws_requests.specs.Replies.ServedRequests.{NewOwed}
use Rattle.st_laws_requests.proofs.Cuts.Seen.{server_sends}
use Rattle.st_laws_requests.proofs.Replies.EachEvent as each
use Rattle.st_laws_requests.proofs.Replies.EachEvent.{ClientTook, NodeAfter, ServerLeft, ServerTook, SiteAfter}
use Rattle.st_laws_grants.specs.Owners.{AllGiveOnce, AllTell, Fits, GivesOnce, Grows, Keeps, LocksOk, Owned, Owner, Pair, RiseFrom, Side, StateOk, Tells}
use Rattle.st_laws_grants.specs.Owners.{WasSent}
use Rattle.st_laws_grants.proofs.Moves.{Down, stays_down}
use Rattle.st_laws_grants.proofs.Locking.{top}
use Rattle.st_laws_grants.proofs.Nets.{add, add_grows, add_shows, add_tells, granted_owned}
use Rattle.st_laws_grants.proofs.Server.{Gives, IsTold, RowsOwned, served, under}

-- a client's message is its own, and its server can receive it
said_out : (id : ℕ) (own : ServerId) (os : List Output) (N : List Msg) (m : Message) → Said id own os N → Has (outputs.Send m) os → (m.header.from ≡ id) × (m.header.to ≡ server_node own → Received m.header m.body N)
said_out id own [] N m q h = absurd h
said_out id own (outputs.Send n ∷ os) N m q (inl e) = subst (λ (x : Message). (x.header.from ≡ id) × (x.header.to ≡ server_node own → Received x.header x.body N)) (sym same) (q.from, q.one)
  where
    same : m ≡ n
    same = cc
said_out id own (outputs.Send n ∷ os) N m q (inr h) = said_out id own os N m q.rest h
said_out id own (outputs.Submit n a w ∷ os) N m q (inl e) = cc e
said_out id own (outputs.Submit n a w ∷ os) N m q (inr h) = said_out id own os N m q h
said_out id own (outputs.Answer n a ∷ os) N m q (inl e) = cc e
said_out id own (outputs.Answer n a ∷ os) N m q (inr h) = said_out id own os N m q h
said_out id own (outputs.Note n ∷ os) N m q (inl e) = cc e
said_out id own (outputs.Note n ∷ os) N m q (inr h) = said_out id own os N m q h

-- what is reasserted is the client's
reasserted_owned : (o : Owner) (m : Message) (N : List Msg) (rows : List (ℕ × GrantNo × Mode)) → m.body ≡ bd.Reassert rows → Received m.header m.body N → AllTell (Owned o m.header.from) N → RowsOwned o m.header.from rows
reasserted_owned o m N rows e h k r i = subst (λ (l : net.Lock). o l.g ≡ Some (m.header.from, r.0)) is (told (subst (λ (l : net.Lock). 1 ≤ l.mode) (sym is) (here.wishes.some r i)))
  where
    here : Received m.header (bd.Reassert rows) N
    here = subst (λ b. Received m.header b N) e h

    is : lock_in rows r.0 ≡ lock_in_row (Some r)
    is = ap lock_in_row (alone rows here.wishes.once r i)

    told : 1 ≤ (lock_in rows r.0).mode → o (lock_in rows r.0).g ≡ Some (m.header.from, r.0)
    told l = k _ here.shows.rest.one r.0 l

-- With more messages.
sent_more : (s : ServerId) (ms ns : List Message) (g : ℕ) → ((m : Message) → Has m ms → Has m ns) → WasSent s ms g → WasSent s ns g
sent_more s ms ns g f z = record { message = z.message; among = f z.message z.among; from = z.from; ino = z.ino; mode = z.mode; body = z.body }

-- With more numbers.
pair_grow : (o p : Owner) → Grows o p → (c : ℕ) (s : ServerId) (w : World) → Pair o c s w → Pair p c s w
pair_grow o p f c s w q =
    record {
      net = q.net;
      tells = λ m h. tells m.body (q.tells m h);
      shows = q.shows;
      receives = q.receives;
      side = λ site e a i here. let z = q.side site e a i here in record { kept = z.kept; held = λ n l. f _ _ (z.held n l) };
    }
  where
    tells : (b : net.Body) → Tells (Owned o c) b → Tells (Owned p c) b
    tells (net.Granted i g mode) k = f g (c, i) k
    tells (net.Demand i g to) k = f g (c, i) k
    tells (net.Reassert held) k = λ i l. f _ _ (k i l)
    tells net.Hello k = tt
    tells net.Plain k = tt
    tells (net.Released i g to) k = tt
    tells net.Welcome k = tt
    tells net.Ack k = tt
    tells net.Reasserted k = tt
    tells net.OfOtherEpoch k = tt

-- messages of others, to others
abbrev pub Foreign : ℕ → ServerId → Message → Type 0
Foreign c s m = (m.header.from ≡ server_node s → ⊥) × (is_client_node m.header.from ≡ true → m.header.from ≡ c → ⊥)

-- a pair whose client is as before, and that sent nothing to each other
pair_on : (o : Owner) (c : ℕ) (s : ServerId) (w v : World) → ((m : Message) → Has m (messages v) → Has m (messages w) ⊎ Foreign c s m) → ((site : WorldClient) → site_of v (client c) ≡ Some site → site_of w (client c) ≡ Some site) → Pair o c s w → Pair o c s v
pair_on o c s w v f at q =
    record {
      net = q.net;
      tells = q.tells;
      shows = λ m h from to. shows m (f m h) from to;
      receives = λ m h to of from. receives m (f m h) to of from;
      side = λ site e. q.side site (at site e);
    }
  where
    shows : (m : Message) → Has m (messages w) ⊎ Foreign c s m → m.header.from ≡ server_node s → m.header.to ≡ c → Shown m q.net
    shows m (inl h) from to = q.shows m h from to
    shows m (inr n) from to = absurd (n.0 from)

    receives : (m : Message) → Has m (messages w) ⊎ Foreign c s m → m.header.to ≡ server_node s → is_client_node m.header.from ≡ true → m.header.from ≡ c → Received m.header m.body q.net
    receives m (inl h) to of from = q.receives m h to of from
    receives m (inr n) to of from = absurd (n.1 of from)

-- no server has the number of a client
of_no_client : (s : ServerId) (n : ℕ) → n ≡ server_node s → is_client_node n ≡ true → ⊥
of_no_client s n e c = let z = leb-true n 16 (and_true (nat_le 1 n) (nat_le n 16) c).1 in omega (arith, e, z)

-- the numbers of an epoch are below those of the next
below_next : (e n g : ℕ) → n < 2 ^ 32 → g ≤ e * 2 ^ 32 + n → g < (e + 1) * 2 ^ 32
below_next e n g l h = omega (arith, l, h)

next_number : (l : locks.Locks) (n : ServerState) → l.epoch ≡ n.stable.epoch → l.grants < 2 ^ 32 → (g : ℕ) → g ≤ locks.first_after l.epoch + l.grants → g < locks.first_after (next_epoch n.stable.epoch)
next_number l n e few g h = subst (λ (x : Epoch). g < locks.first_after (next_epoch x)) e (below_next l.epoch.0 l.grants g few h)

module _ (k : Config) (count : ℕ) (w : World) (all : AllStand k count w) (g : AllGiveOnce w) where
  -- A world with other clients, which are as they were or empty.
  module _ (v : World) (cs : v.clients ≡ w.clients) (ss : v.servers ≡ w.servers) (ms : messages v ≡ messages w) where
    old_message : (c : ℕ) (s : ServerId) (m : Message) → Has m (messages v) → Has m (messages w) ⊎ Foreign c s m
    old_message c s m h = inl (subst (Has m) ms h)

    alike : AllGiveOnce v
    alike s node e =
        let z = g s node (ap (λ x. numbered x s.0) (sym ss) ∙ e) in
        record { owner = z.owner; state = z.state; pairs = λ c. pair_on z.owner c s w v (old_message c s) (λ site f. ap (λ x. numbered x c) (sym cs) ∙ f) (z.pairs c); told = λ n y e. sent_more s (messages w) (messages v) n (λ m h. subst (Has m) (sym ms) h) (z.told n y e) }

  -- A client that is emptied.
  emptied : (v : World) (c : ClientId) (old new : WorldClient) → site_of w c ≡ Some old → v.clients ≡ with_numbered c.0 new w.clients → v.servers ≡ w.servers → messages v ≡ messages w →
      ((a : Association) → Has a new.node.state.associations → a.session ≡ None) → AllGiveOnce v
  emptied v c old new at cs ss ms none s node e =
      let z = g s node (ap (λ x. numbered x s.0) (sym ss) ∙ e) in
      record { owner = z.owner; state = z.state; pairs = λ d. pair z.owner d (z.pairs d); told = λ n y e. sent_more s (messages w) (messages v) n (λ m h. subst (Has m) (sym ms) h) (z.told n y e) }
    where
      pair : (o : Owner) (d : ℕ) → Pair o d s w → Pair o d s v
      pair o d q =
          record {
            net = q.net;
            tells = q.tells;
            shows = λ m h from to. q.shows m (subst (Has m) ms h) from to;
            receives = λ m h to of from. q.receives m (subst (Has m) ms h) to of from;
            side = λ site f. by site (set_cases w.clients c.0 d old new site at (ap (λ x. numbered x d) (sym cs) ∙ f));
          }
        where
          empty : (a : Association) → a.session ≡ None → Side o d a q.net
          empty a f =
              record {
                kept = subst (λ x. Kept a.life.0 a.store x q.net) (sym f) tt;
                held = λ i l. absurd (let y = ap (λ x. (held_in x i).mode) f in omega (arith, l, y));
              }

          by : (site : WorldClient) → ((d ≡ c.0) × (site ≡ new)) ⊎ ((d ≢ c.0) × (site_of w (client d) ≡ Some site)) → (a : Association) → Has a site.node.state.associations → a.server ≡ s → Side o d a q.net
          by site (inl y) a h here = empty a (none a (subst (λ (x : WorldClient). Has a x.node.state.associations) y.1 h))
          by site (inr y) a h here = q.side site y.1 a h here

  stopped : (c : ClientId) (site : WorldClient) → site_of w c ≡ Some site → AllGiveOnce (ev.crashes_client (ev.counted w) c (Some site)).world
  unfolding ev.crashes_client ev.marks cl.crash
  stopped c site at = emptied _ c site (ev.stopped_site site) at refl refl refl (λ a h. let z = has_map cl.crashed_association site.node.state.associations a h in ap (λ (y : Association). y.session) z.2)

  begun : (c : ClientId) (site : WorldClient) → site_of w c ≡ Some site → AllGiveOnce (ev.starts_client (ev.counted w) c (Some site))
  unfolding ev.starts_client cl.start
  begun c site at = emptied _ c site (ev.started_site site) at refl refl refl (λ a h. let z = has_map cl.started_association site.node.state.associations a h in ap (λ (y : Association). y.session) z.2)

  -- A client's step.
  module _ (v : World) (cs : v.clients ≡ w.clients) (ss : v.servers ≡ w.servers) (c : ClientId) (i : ClientInput) (site old : WorldClient) (same : site.node ≡ old.node) (at : site_of w c ≡ Some old) (brings : each.Comes w i)
      (last : World) (l : Leaves (messages w) (ev.with_site c (SiteAfter v c i site) v) last (ClientTook v c i site).out) where
    module _ (s : ServerId) (node : ServerNode) (there : node_of w s ≡ Some node) where
      z : GivesOnce w s node
      z = g s node there

      y : ServerStands k w s.0 node
      y = all.servers s.0 node there

      few : c.0 ≤ 16
      few = let n = (numbered_below w.clients c.0 old at).1 in let f = y.both.few in omega (arith, n, f)

      st : Standing k s.0 c.0 old w.ended (y.ghosts c.0).net
      st = y.both.clients c.0 old at

      q : Pair z.owner c.0 s w
      q = z.pairs c.0

      has : Has st.association old.node.state.associations
      has = subst (Has st.association) (sym st.sim.place.is) (has_right st.sim.place.before (st.association ∷ st.sim.place.after) st.association (inl refl))

      mine : Side z.owner c.0 st.association q.net
      mine = q.side old at st.association has st.sim.place.here

      sim : Sim k c s site st.association q.net
      sim = subst (λ (n : ClientNode). Sim k c s (record { node = n; asks = site.asks; starts = site.starts }) st.association q.net) (sym same) (record { id_ = st.sim.id_; terms = st.sim.terms; place = st.sim.place; born = st.sim.born; kept = mine.kept })

      -- the server is of no part
      down : net.Server
      down =
          record {
            clock = 0;
            drift = 0;
            up = false;
            epoch = 0;
            grace = false;
            gstart = 0;
            gbase = 0;
            glife = 0;
            session = 0;
            live = false;
            row = λ n. net.no_row;
            timed = false;
            start = 0;
            base = 0;
            top = 0;
          }

      beside : Beside
      beside = record { s = down; ended = λ n. 0 }

      fine : (m : Message) → Has m (messages w) → (x : ServerId) → m.header.from ≡ server_node x → Fine m.body
      fine m h x e = go (has_map message_in w.net.messages m h)
        where
          go : (n : SentMessage) × Has n w.net.messages × (m ≡ message_in n) → Fine m.body
          go (n, i, f) =
              let t = all.senders n i x (ap (λ (y : Message). y.header.from) (sym f) ∙ e) in
              let u = all.servers x.0 t.node t.is in
              subst (λ (y : Message). Fine y.body) (sym f) (fine_from k x.0 w t.node u.ended u.ghosts n.message.header.to n all.sound u.both i (ap (λ (y : Message). y.header.from) (sym f) ∙ e) refl)

      comes : (j : ClientInput) → each.Comes w j → Comes s c.0 j q.net
      comes (inputs.Control m) h = record { shows = λ from to. (q.shows m h from to).all; fine = λ x e. fine m h x e }
      comes inputs.Tick h = tt
      comes (inputs.App op ask) h = tt
      comes (inputs.Done number result) h = tt

      r : OwnMoves k beside v c site i s st.association q.net
      r = own_moves k beside v c site i s st.association q.net sim (comes i brings)

      grows : MoreSent q.net r.net
      grows = moves_grow r.moves

      end : Down (Owned z.owner c.0) (record { c = client_of r.ended (clock_of v (nodes.Client c)).0 r.last; s = down; net = r.net })
      unfolding beside down
      end = stays_down (Owned z.owner c.0) k r.moves (record { down = refl; net = q.tells; held = mine.held })

      sent : (m : Message) → Has (outputs.Send m) (ClientTook v c i site).out → (m.header.from ≡ c.0) × (m.header.to ≡ server_node s → Received m.header m.body r.net)
      sent m h = said_out c.0 s (ClientTook v c i site).out r.net m r.said h

      from_where : (m : Message) → Has m (messages last) → Has m (messages w) ⊎ Has (outputs.Send m) (ClientTook v c i site).out
      from_where m h = leaves_from (messages w) (ev.with_site c (SiteAfter v c i site) v) last (ClientTook v c i site).out l m h

      sites : (d : ℕ) (x : WorldClient) → site_of last (client d) ≡ Some x → ((d ≡ c.0) × (x ≡ SiteAfter v c i site)) ⊎ ((d ≢ c.0) × (site_of w (client d) ≡ Some x))
      sites d x e = set_cases w.clients c.0 d old (SiteAfter v c i site) x at (ap (λ u. numbered (with_numbered c.0 (SiteAfter v c i site) u) d) (sym cs) ∙ ap (λ u. numbered u d) (sym l.clients) ∙ e)

      own : Pair z.owner c.0 s last
      own = record { net = r.net; tells = end.net; shows = λ m h from to. shows m (from_where m h) from to; receives = λ m h to of from. receives m (from_where m h) to of from; side = λ x e. side x (sites c.0 x e) }
        where
          shows : (m : Message) → Has m (messages w) ⊎ Has (outputs.Send m) (ClientTook v c i site).out → m.header.from ≡ server_node s → m.header.to ≡ c.0 → Shown m r.net
          shows m (inl h) from to = shown_more m q.net r.net grows (q.shows m h from to)
          shows m (inr h) from to = absurd (server_not_client c.0 s.0 few (sym (sent m h).0 ∙ from))

          receives : (m : Message) → Has m (messages w) ⊎ Has (outputs.Send m) (ClientTook v c i site).out → m.header.to ≡ server_node s → is_client_node m.header.from ≡ true → m.header.from ≡ c.0 → Received m.header m.body r.net
          receives m (inl h) to of from = received_more m.header m.body q.net r.net grows (q.receives m h to of from)
          receives m (inr h) to of from = (sent m h).1 to

          side : (x : WorldClient) → ((c.0 ≡ c.0) × (x ≡ SiteAfter v c i site)) ⊎ ((c.0 ≢ c.0) × (site_of w (client c.0) ≡ Some x)) → (a : Association) → Has a x.node.state.associations → a.server ≡ s → Side z.owner c.0 a r.net
          side x (inr n) a h here = absurd (n.0 refl)
          side x (inl e) a h here = subst (λ (b : Association). Side z.owner c.0 b r.net) (sym is) (record { kept = r.sim.kept; held = end.held })
            where
              is : a ≡ r.last
              is = only_here s.0 (SiteAfter v c i site).node.state.associations r.last r.sim.place a (subst (λ (u : WorldClient). Has a u.node.state.associations) e.1 h) (ap server_node here)

      other : (d : ℕ) → d ≢ c.0 → Pair z.owner d s last
      other d n = pair_on z.owner d s w last (λ m h. foreign m (from_where m h)) (λ x e. at_other x (sites d x e)) (z.pairs d)
        where
          foreign : (m : Message) → Has m (messages w) ⊎ Has (outputs.Send m) (ClientTook v c i site).out → Has m (messages w) ⊎ Foreign d s m
          foreign m (inl h) = inl h
          foreign m (inr h) = inr ((λ from. server_not_client c.0 s.0 few (sym (sent m h).0 ∙ from)), λ of from. n (sym from ∙ (sent m h).0))

          at_other : (x : WorldClient) → ((d ≡ c.0) × (x ≡ SiteAfter v c i site)) ⊎ ((d ≢ c.0) × (site_of w (client d) ≡ Some x)) → site_of w (client d) ≡ Some x
          at_other x (inl e) = absurd (n e.0)
          at_other x (inr e) = e.1

      after : GivesOnce last s node
      after = record { owner = z.owner; state = z.state; pairs = λ d. go d (same_or_not d c.0); told = λ n y e. sent_more s (messages w) (messages last) n l.old (z.told n y e) }
        where
          go : (d : ℕ) → (d ≡ c.0) ⊎ (d ≢ c.0) → Pair z.owner d s last
          go d (inl e) = subst (λ n. Pair z.owner n s last) (sym e) own
          go d (inr n) = other d n

    client_rises : RiseFrom w last
    client_rises s node there m h from ino b mode f = go (from_where s node there m h)
      where
        go : Has m (messages w) ⊎ Has (outputs.Send m) (ClientTook v c i site).out → Has m (messages w) ⊎ (WasSent s (messages w) b.0 ⊎ ((y : Message) → Has y (messages w) → y.header.from ≡ server_node s → (j : ℕ) (c : GrantNo) (by : Mode) → y.body ≡ bd.Granted j c by → c.0 < b.0))
        go (inl k) = inl k
        go (inr k) = absurd (server_not_client c.0 s.0 (few s node there) (sym (sent s node there m k).0 ∙ from))

    client_step : AllGiveOnce last
    client_step s node e = after s node (ap (λ x. numbered x s.0) (sym ss) ∙ ap (λ x. numbered x s.0) (sym l.servers) ∙ e)

  -- A server's step.
  module _ (s : ServerId) (i : ServerInput) (node : ServerNode) (at : node_of w s ≡ Some node) (run : node.running ≡ true) (id : node.state.id ≡ s) (brings : each.Brings w i)
      (l : Leaves (messages w) (ev.with_node s (NodeAfter w s i node) (ev.counted w)) (ServerLeft w s i node).world (ServerTook w s i node).out) where
    abbrev Last : World
    Last = (ServerLeft w s i node).world

    was : GivesOnce w s node
    was = g s node at

    before : LocksOk was.owner node.state.locks × Keeps was.owner node.state.sessions
    before = subst (λ b. StateOk was.owner b node.state) run was.state

    asserted : (m : Message) → i ≡ serving.Control m → m.header.to ≡ server_node s → is_client_node m.header.from ≡ true → (rows : List (ℕ × GrantNo × Mode)) → m.body ≡ bd.Reassert rows → RowsOwned was.owner m.header.from rows
    asserted m e to of rows f =
        let q = was.pairs m.header.from in
        reasserted_owned was.owner m q.net rows f (q.receives m (subst (each.Brings w) e brings) to of refl) q.tells

    u : Gives s was.owner (top node.state.locks) i asserted (ServerTook w s i node)
    u = served s was.owner (top node.state.locks) i asserted node.state (clock_of (ev.counted w) (nodes.Server s)) (record { owner = was.owner; grows = λ n y e. e; id = id; locked = before.0; kept = before.1; sent = λ x h. absurd h; told = λ n y e. inl e; up = omega arith })

    came : (m : Message) → Has m (messages Last) → Has m (messages w) ⊎ Has (outputs.Send m) (ServerTook w s i node).out
    came m h = leaves_from (messages w) (ev.with_node s (NodeAfter w s i node) (ev.counted w)) Last (ServerTook w s i node).out l m h

    said : (m : Message) → Has (outputs.Send m) (ServerTook w s i node).out → Has m (messages Last)
    said m h = server_sends s (ServerTook w s i node).out (ev.quiet (ev.with_node s (NodeAfter w s i node) (ev.counted w))) m h

    site_there : (d : ℕ) (x : WorldClient) → site_of Last (client d) ≡ Some x → site_of w (client d) ≡ Some x
    site_there d x e = ap (λ u. numbered u d) (sym l.clients) ∙ e

    own_node : GivesOnce Last s (NodeAfter w s i node)
    own_node = record { owner = u.owner; state = subst (λ b. StateOk u.owner b (ServerTook w s i node).state) (sym run) (u.locked, u.kept); told = λ n y e. told n y (u.told n y e); pairs = λ d. pair d (pair_grow was.owner u.owner u.grows d s w (was.pairs d)) }
      where
        told : (n : ℕ) (y : ℕ × ℕ) → (was.owner n ≡ Some y) ⊎ ((top node.state.locks < n) × IsTold s (ServerTook w s i node).out n y) → WasSent s (messages Last) n
        told n y (inl e) = sent_more s (messages w) (messages Last) n l.old (was.told n y e)
        told n y (inr (a, e)) = record { message = e.message; among = said e.message e.among; from = e.from; ino = y.1; mode = e.mode; body = e.body }

        pair : (d : ℕ) → Pair u.owner d s w → Pair u.owner d s Last
        pair d q =
            record {
              net = add d (ServerTook w s i node).out q.net;
              tells = add_tells u.owner d (ServerTook w s i node).out q.net (λ m h. (u.sent m h).1) q.tells;
              shows = λ m h from to. shows m (came m h) from to;
              receives = λ m h to of from. receives m (came m h) to of from;
              side = λ x e a h here. let y = q.side x (site_there d x e) a h here in record { kept = kept_any a.life.0 a.store a.session q.net (add d (ServerTook w s i node).out q.net) grows y.kept; held = y.held };
            }
          where
            grows : MoreSent q.net (add d (ServerTook w s i node).out q.net)
            grows = add_grows d (ServerTook w s i node).out q.net

            shows : (m : Message) → Has m (messages w) ⊎ Has (outputs.Send m) (ServerTook w s i node).out → m.header.from ≡ server_node s → m.header.to ≡ d → Shown m (add d (ServerTook w s i node).out q.net)
            shows m (inl h) from to = shown_more m q.net _ grows (q.shows m h from to)
            shows m (inr h) from to = add_shows d (ServerTook w s i node).out q.net m h to

            receives : (m : Message) → Has m (messages w) ⊎ Has (outputs.Send m) (ServerTook w s i node).out → m.header.to ≡ server_node s → is_client_node m.header.from ≡ true → m.header.from ≡ d → Received m.header m.body (add d (ServerTook w s i node).out q.net)
            receives m (inl h) to of from = received_more m.header m.body q.net _ grows (q.receives m h to of from)
            receives m (inr h) to of from = absurd (of_no_client s m.header.from (u.sent m h).0 of)

    other_node : (x : ServerId) (n : ServerNode) → x.0 ≢ s.0 → node_of w x ≡ Some n → GivesOnce Last x n
    other_node x n ne e = let y = g x n e in record { owner = y.owner; state = y.state; pairs = λ d. pair_on y.owner d x w Last (λ m h. foreign d m (came m h)) (site_there d) (y.pairs d); told = λ a b f. sent_more x (messages w) (messages Last) a l.old (y.told a b f) }
      where
        foreign : (d : ℕ) (m : Message) → Has m (messages w) ⊎ Has (outputs.Send m) (ServerTook w s i node).out → Has m (messages w) ⊎ Foreign d x m
        foreign d m (inl h) = inl h
        foreign d m (inr h) = inr ((λ from. ne (let a = (u.sent m h).0 in omega (arith, from, a))), λ of from. of_no_client s m.header.from (u.sent m h).0 of)

    -- its new numbers are above all that it had sent
    server_rises : RiseFrom w Last
    server_rises x n e m h from ino b mode f = go (came m h)
      where
        number : x.0 ≡ s.0 → x ≡ s
        number q = ap (λ (y : ℕ). record { 0 = y }) q

        low : x ≡ s → top node.state.locks < b.0 → (y : Message) → Has y (messages w) → y.header.from ≡ server_node x → (j : ℕ) (c : GrantNo) (by : Mode) → y.body ≡ bd.Granted j c by → c.0 < b.0
        low q up y k r j c by p =
            let pair = was.pairs y.header.to in
            under c.0 (top node.state.locks) b.0 (before.0.low c.0 (y.header.to, j) (granted_owned was.owner y.header.to y pair.net j c by p pair.tells (pair.shows y k (r ∙ ap server_node q) refl))) up

        new : x ≡ s → (y : ℕ × ℕ) → (was.owner b.0 ≡ Some y) ⊎ ((top node.state.locks < b.0) × IsTold s (ServerTook w s i node).out b.0 y) →
            WasSent x (messages w) b.0 ⊎ ((y : Message) → Has y (messages w) → y.header.from ≡ server_node x → (j : ℕ) (c : GrantNo) (by : Mode) → y.body ≡ bd.Granted j c by → c.0 < b.0)
        new q y (inl k) = inl (subst (λ (v : ServerId). WasSent v (messages w) b.0) (sym q) (was.told b.0 y k))
        new q y (inr k) = inr (low q k.0)

        go : Has m (messages w) ⊎ Has (outputs.Send m) (ServerTook w s i node).out → Has m (messages w) ⊎ (WasSent x (messages w) b.0 ⊎ ((y : Message) → Has y (messages w) → y.header.from ≡ server_node x → (j : ℕ) (c : GrantNo) (by : Mode) → y.body ≡ bd.Granted j c by → c.0 < b.0))
        go (inl k) = inl k
        go (inr k) = inr (new (number (let a = (u.sent m k).0 in omega (arith, a, from))) (m.header.to, ino) (u.told b.0 (m.header.to, ino) (subst (Fits u.owner m.header.to) f (u.sent m k).1)))

    server_step : AllGiveOnce Last
    server_step x n e = go (set_cases w.servers s.0 x.0 node (NodeAfter w s i node) n at (ap (λ u. numbered u x.0) (sym l.servers) ∙ e))
      where
        go : ((x.0 ≡ s.0) × (n ≡ NodeAfter w s i node)) ⊎ ((x.0 ≢ s.0) × (node_of w x ≡ Some n)) → GivesOnce Last x n
        go (inl q) = subst (λ y. GivesOnce Last (record { 0 = y }) n) (sym q.0) (subst (GivesOnce Last s) (sym q.1) own_node)
        go (inr q) = other_node x n q.0 q.1

  -- A server that stops or starts.
  another : (v : World) (s : ServerId) (node next : ServerNode) → node_of w s ≡ Some node → v.clients ≡ w.clients → v.servers ≡ with_numbered s.0 next w.servers → messages v ≡ messages w →
      ((o : Owner) → StateOk o node.running node.state → StateOk o next.running next.state) → AllGiveOnce v
  another v s node next at cs ss ms f x n e = go (set_cases w.servers s.0 x.0 node next n at (ap (λ u. numbered u x.0) (sym ss) ∙ e))
    where
      pair : (o : Owner) (y : ServerId) (d : ℕ) → Pair o d y w → Pair o d y v
      pair o y d q = pair_on o d y w v (λ m h. inl (subst (Has m) ms h)) (λ site k. ap (λ u. numbered u d) (sym cs) ∙ k) q

      own : GivesOnce v s next
      own = let z = g s node at in record { owner = z.owner; state = f z.owner z.state; pairs = λ d. pair z.owner s d (z.pairs d); told = λ n y e. sent_more s (messages w) (messages v) n (λ m h. subst (Has m) (sym ms) h) (z.told n y e) }

      go : ((x.0 ≡ s.0) × (n ≡ next)) ⊎ ((x.0 ≢ s.0) × (node_of w x ≡ Some n)) → GivesOnce v x n
      go (inl q) = subst (λ y. GivesOnce v (record { 0 = y }) n) (sym q.0) (subst (GivesOnce v s) (sym q.1) own)
      go (inr q) = let z = g x n q.1 in record { owner = z.owner; state = z.state; pairs = λ d. pair z.owner x d (z.pairs d); told = λ n y e. sent_more x (messages w) (messages v) n (λ m h. subst (Has m) (sym ms) h) (z.told n y e) }

  -- all numbers are below those of the next epoch
  over : (s : ServerId) (node : ServerNode) → node_of w s ≡ Some node → (o : Owner) → StateOk o node.running node.state → StateOk o false node.state
  over s node at o state = go node.running refl state
    where
      y : ServerStands k w s.0 node
      y = all.servers s.0 node at

      go : (b : Bool) → node.running ≡ b → StateOk o b node.state → StateOk o false node.state
      go false e m = m
      go true e m = λ n t q. next_number node.state.locks node.state (subst (λ b. StandsAt 0 k.wait (clock_of w (nodes.Server (server s.0))) b node.state (y.ghosts 0)) e (y.both.stands.served 0).stands).lepoch (few_grants w.net.bytes node.state y.few) n (m.0.low n t q)

  crashed : (s : ServerId) (node : ServerNode) → node_of w s ≡ Some node → AllGiveOnce (ev.crashes_server (ev.counted w) s (Some node))
  unfolding ev.crashes_server sv.crash
  crashed s node at = another _ s node (sv.crash_node node) at refl refl refl (λ o z. over s node at o z)

  started : (s : ServerId) (node : ServerNode) → node_of w s ≡ Some node → AllGiveOnce (ev.starts_server (ev.counted w) s (Some node))
  unfolding ev.starts_server sv.start sv.begin_epoch
  started s node at = another _ s node _ at refl refl refl (λ o z. (record { low = λ n y q. low n (over s node at o z n y q); rows = λ r h. absurd h }, λ c x e. none e))
    where
      low : (n : ℕ) → n < locks.first_after (next_epoch node.state.stable.epoch) → n ≤ locks.first_after (next_epoch node.state.stable.epoch) + 0
      low n h = omega (arith, h)

      none : {A : Type 0} {x : Session} → ◌≡◌ {A = Option Session} None (Some x) → A
      none e = cc

  -- the same messages
  same_rise : (v : World) → messages v ≡ messages w → RiseFrom w v
  same_rise v ms s node e m h from ino b mode f = inl (subst (Has m) ms h)

  -- What an event leaves.
  abbrev pub Goes : World → Type 0
  Goes v = AllGiveOnce v × RiseFrom w v

  stops : (c : ClientId) (site : WorldClient) → site_of w c ≡ Some site → Goes (ev.crashes_client (ev.counted w) c (Some site)).world
  unfolding ev.crashes_client ev.marks
  stops c site at = (stopped c site at, same_rise (ev.crashes_client (ev.counted w) c (Some site)).world refl)

  begins : (c : ClientId) (site : WorldClient) → site_of w c ≡ Some site → Goes (ev.starts_client (ev.counted w) c (Some site))
  unfolding ev.starts_client
  begins c site at = (begun c site at, same_rise (ev.starts_client (ev.counted w) c (Some site)) refl)

  crashes : (s : ServerId) (node : ServerNode) → node_of w s ≡ Some node → Goes (ev.crashes_server (ev.counted w) s (Some node))
  unfolding ev.crashes_server
  crashes s node at = (crashed s node at, same_rise (ev.crashes_server (ev.counted w) s (Some node)) refl)

  starts : (s : ServerId) (node : ServerNode) → node_of w s ≡ Some node → Goes (ev.starts_server (ev.counted w) s (Some node))
  unfolding ev.starts_server
  starts s node at = (started s node at, same_rise (ev.starts_server (ev.counted w) s (Some node)) refl)

  -- every event
  pub goes_on : ((s : ServerId) (node : ServerNode) → node_of w s ≡ Some node → node.state.id ≡ s) → (e : Event) (sc : WorldTurn) → NewOwed (ev.counted w) e → world_step w e ≡ Ok sc → Goes sc.world
  goes_on ids e sc owed taken =
      each.event_leaves w Goes (λ v cs ss ms. (alike v cs ss ms, same_rise v ms))
      (λ v cs ss c i site old same run at comes last l. (client_step v cs ss c i site old same at comes last l, client_rises v cs ss c i site old same at comes last l))
      (λ s i node at run brings fresh l. (server_step s i node at run (ids s node at) brings l, server_rises s i node at run (ids s node at) brings l))
      stops begins crashes starts e sc owed taken
