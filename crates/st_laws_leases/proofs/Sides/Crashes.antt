-- A client that crashes, and one that starts again.
use Rattle.st_lemmas.proofs.Words
use Words.{◌≡◌, ◌≢◌, ℕ, ◌+◌, ◌*◌, ◌<◌, ◌≤◌, ◌⊎◌, true, false, List, [], ◌∷◌, ◌++◌, refl, sym, ap, ◌∙◌, subst, inl, inr, arith, length, map, option_map, Option}
use Words.{Some, None, unwrap_or, ServerId, Stamp, LeaseLife}
use Words.nodes
use Words.Keys.{client, server_node}
use Words.ClientLease.{end_at}
use Words.ClientPages.{empty_store}
use Words.ClientState.{Association, ClientSession}
use Words.Client as cl
use Words.World.{World, WorldClient, numbered, with_numbered, site_of, clock_of, stamp, server, lives_of, life_of_association}
use Words.Server.{ServerNode}
use Words.Events as ev
use Words.Lists.{Has}
use Words.Tables.{has_append, has_map}
use Words.Numbers.{numbered_own, numbered_other, numbered_below, set_length}
use Words.Lookups.{some_is}
use Rattle.st_protocol.specs.Assoc as net
use Rattle.st_protocol.specs.Assoc.{Config, Msg, Moves, Stays, Works, upd, end_now, Crashes}
use Rattle.st_protocol.proofs.Lists.{upd_all}
use Rattle.st_laws_refine.specs.Views.Halves.{client_at, client_of, Ghost, half_of}
use Rattle.st_laws_refine.proofs.Views.Moves.{moved, one}
use Rattle.st_laws_refine.specs.Server.View.{StandsAt}
use Rattle.st_laws_refine.specs.Server.Pair.{life_now, client_view, client_at_site, client_in, stamp_number, EndedBy, Wires, Served, pair}
use Rattle.st_laws_refine.specs.Client.Law.{Apart, Place}
use Rattle.st_laws_refine.specs.Server.Paths.{Leads, WorkedOn}
use Rattle.st_laws_leases.specs.Sides.Invariants.{AllPast, Standing, Both}
use Rattle.st_laws_leases.proofs.Sides.Pairs.{found_at_place, only_here, own_view}

-- associations that each keep their server
abbrev pub KeepsServer : (Association → Association) → Type 0
KeepsServer f = (a : Association) → (f a).server ≡ a.server

map_both : (f : Association → Association) (xs : List Association) (a : Association) (ys : List Association) → map f (xs ++ a ∷ ys) ≡ map f xs ++ f a ∷ map f ys
map_both f [] a ys = refl
map_both f (x ∷ xs) a ys = ap (λ zs. f x ∷ zs) (map_both f xs a ys)

apart_map : (f : Association → Association) → KeepsServer f → (own : ServerId) (xs : List Association) → Apart own xs → Apart own (map f xs)
apart_map f h own [] p = record {}
apart_map f h own (x ∷ xs) p = record { one = λ e. p.one (e ∙ ap (λ v. server_node v) (h x)); rest = apart_map f h own xs p.rest }

pub place_map : (f : Association → Association) → KeepsServer f → (own : ServerId) (xs : List Association) (a : Association) → Place own xs a → Place own (map f xs) (f a)
place_map f h own xs a p = record { before = map f p.before; after = map f p.after; is = ap (map f) p.is ∙ map_both f p.before a p.after; here = h a ∙ p.here; apart_before = apart_map f h own p.before p.apart_before; apart_after = apart_map f h own p.after p.apart_after }

module _ (k : Config) (s : ℕ) (w : World) (node : ServerNode) (ended : ℕ → ℕ → ℕ) (G : ℕ → Ghost) (c : ℕ) (site : WorldClient) where
  -- one client is replaced, and nothing was sent
  pub record Changed (v : World) (last : WorldClient) (E : ℕ → ℕ) : Type 0 where
    pub clients : v.clients ≡ with_numbered c last w.clients
    pub servers : v.servers ≡ w.servers
    pub clocks : v.clocks ≡ w.clocks
    pub config : v.config ≡ w.config
    pub messages : v.net.messages ≡ w.net.messages
    pub moves : (h : net.Server) (N : List Msg) → Moves k (record { c = client_in w c s (ended c); s = h; net = N }) (record { c = client_in v c s E; s = h; net = N })
    pub standing : Standing k s c last v.ended (G c).net
    pub ends : EndedBy c s E v.ended
    pub others : (e : LeaseLife) → Has e v.ended → (e.client.0 ≢ c) → Has e w.ended

  pub changed : (v : World) (last : WorldClient) (E : ℕ → ℕ) → Both k s w node ended G → site_of w (client c) ≡ Some site → Changed v last E → Both k s v node (upd ended c E) G × ((H : net.World) → Leads k H s ended w node G → Leads k H s (upd ended c E) v node G)
  changed v last E b there q =
      (record { stands = record { reached = Works b.stands.reached (record { each = each; table = λ x y z. z }); served = served; compat = b.stands.compat }; clients = clients; ends = ends; few = let z = b.few in omega (arith, many) }, λ H o. WorkedOn o (record { each = each; table = λ x y z. z }))
    where
      many : length v.clients ≡ length w.clients
      many = ap (λ (xs : List WorldClient). length xs) q.clients ∙ set_length w.clients _ last

      clock_s : clock_of v (nodes.Server (server s)) ≡ clock_of w (nodes.Server (server s))
      clock_s = λ j. unwrap_or (numbered (q.clocks j) (many j + s)) (stamp 0)

      site_d : (d : ℕ) → d ≢ c → site_of v (client d) ≡ site_of w (client d)
      site_d d n = ap (λ xs. numbered xs d) q.clients ∙ numbered_other w.clients c d last (numbered_below w.clients c site there).0 n

      same_view : (d : ℕ) (e : ℕ → ℕ) (o : Option WorldClient) → client_at_site w d s e o ≡ client_at_site v d s e o
      same_view d e None = λ j. client_at ((sym q.config j).den * (sym clock_s j).0) 1 None empty_store (λ l. 0)
      same_view d e (Some z) = λ j. client_view z.node.running e (unwrap_or (numbered (sym q.clocks j) d) (stamp 0)) (cl.association_with z.node.state (server s))

      own : Moves k (pair c s (ended c) w node (G c)) (pair c s E v node (G c))
      own = moved k _ _ _ (q.moves (half_of (client c) (clock_of w (nodes.Server (server s))) node.running node.state (G c)) (G c).net) (λ j. record { c = client_in v c s E; s = half_of (client c) (sym clock_s j) node.running node.state (G c); net = (G c).net })

      other : (d : ℕ) → d ≢ c → Moves k (pair d s (ended d) w node (G d)) (pair d s (ended d) v node (G d))
      other d n =
          let z : client_in w d s (ended d) ≡ client_in v d s (ended d) = same_view d (ended d) (site_of w (client d)) ∙ ap (client_at_site v d s (ended d)) (sym (site_d d n)) in
          moved k _ _ _ (Stays (pair d s (ended d) w node (G d))) (λ j. record { c = z j; s = half_of (client d) (sym clock_s j) node.running node.state (G d); net = (G d).net })

      each : (d : ℕ) → Moves k (pair d s (ended d) w node (G d)) (pair d s (upd ended c E d) v node (G d))
      each d = upd_all (λ d e. Moves k (pair d s (ended d) w node (G d)) (pair d s e v node (G d))) ended c E own other d

      served : (d : ℕ) → Served k.wait d s v node (G d)
      served d =
          let z = b.stands.served d in
          record { found = ap (λ xs. numbered xs s) q.servers ∙ z.found; id = z.id; terms = z.terms; stands = subst (λ t. StandsAt d k.wait t node.running node.state (G d)) (sym clock_s) z.stands; wires = subst (λ ms. Wires d s ms (G d).net) (sym q.messages) z.wires }

      clients : (d : ℕ) (z : WorldClient) → site_of v (client d) ≡ Some z → Standing k s d z v.ended (G d).net
      clients d z f = upd_all (λ d e. site_of v (client d) ≡ Some z → Standing k s d z v.ended (G d).net) ended c E mine theirs d f
        where
          mine : site_of v (client c) ≡ Some z → Standing k s c z v.ended (G c).net
          mine f = subst (λ z. Standing k s c z v.ended (G c).net) (some_is (sym (ap (λ xs. numbered xs c) q.clients ∙ numbered_own w.clients c last site there) ∙ f)) q.standing

          theirs : (d : ℕ) → d ≢ c → site_of v (client d) ≡ Some z → Standing k s d z v.ended (G d).net
          theirs d n f = let t = b.clients d z (sym (site_d d n) ∙ f) in record { association = t.association; sim = t.sim; past = λ e h ec es. t.past e (q.others e h (λ x. n (sym ec ∙ x))) ec es; stopped = t.stopped }

      ends : (d : ℕ) → EndedBy d s (upd ended c E d) v.ended
      ends d = upd_all (λ d f. EndedBy d s f v.ended) ended c E q.ends (λ d n e h ec es. b.ends d e (q.others e h (λ x. n (sym ec ∙ x))) ec es) d

  -- Crash
  pub record CrashLeft (b : Both k s w node ended G) (there : site_of w (client c) ≡ Some site) : Type 0 where
    pub ends : ℕ → ℕ
    pub both : Both k s (ev.crashes_client w (client c) (Some site)).world node (upd ended c ends) G
    pub keeps : (H : net.World) → Leads k H s ended w node G → Leads k H s (upd ended c ends) (ev.crashes_client w (client c) (Some site)).world node G
    pub last : ends ≡ upd (ended c) (b.clients c site there).association.life.0 (end_now k (client_of (ended c) (clock_of w (nodes.Client (client c))).0 (b.clients c site there).association))

  pub crashed : (b : Both k s w node ended G) (there : site_of w (client c) ≡ Some site) → site.node.running ≡ true → CrashLeft b there
  unfolding ev.crashes_client ev.marks cl.crash
  crashed b there runs = let z = changed v last E b there (record { clients = refl; servers = refl; clocks = refl; config = refl; messages = refl; moves = moves; standing = standing; ends = ends; others = others }) in record { ends = E; both = z.0; keeps = z.1; last = refl }
    where
      v : World
      v = (ev.crashes_client w (client c) (Some site)).world

      last : WorldClient
      last = ev.stopped_site site

      st : Standing k s c site w.ended (G c).net
      st = b.clients c site there

      a : Association
      a = st.association

      clock : Stamp
      clock = clock_of w (nodes.Client (client c))

      E : ℕ → ℕ
      E = upd (ended c) a.life.0 (end_now k (client_of (ended c) clock.0 a))

      place : Place (server s) last.node.state.associations (cl.crashed_association a)
      place = place_map cl.crashed_association (λ x. refl) (server s) site.node.state.associations a st.sim.place

      here : site_of v (client c) ≡ Some last
      here = numbered_own w.clients c last site there

      before : client_in w c s (ended c) ≡ client_of (ended c) clock.0 a
      before = own_view w c s (ended c) site a there runs st.sim.place

      after : client_in v c s E ≡ client_at clock.0 (a.life.0 + 1) None empty_store E
      after = ap (client_at_site v c s E) here ∙ ap (client_view false E clock) (found_at_place s last.node.state (cl.crashed_association a) place)

      moves : (h : net.Server) (N : List Msg) → Moves k (record { c = client_in w c s (ended c); s = h; net = N }) (record { c = client_in v c s E; s = h; net = N })
      moves h N = subst (λ x. Moves k (record { c = x; s = h; net = N }) (record { c = client_in v c s E; s = h; net = N })) (sym before)
          (moved k _ _ _ (one (Crashes (record { c = client_of (ended c) clock.0 a; s = h; net = N })) refl) (λ j. record { c = sym after j; s = h; net = N }))

      past : AllPast c s a.life.0 w.ended
      past = subst (λ r. AllPast c s (life_now r a) w.ended) runs st.past

      -- a life that the crash ended is the present one
      new : (e : LeaseLife) → Has e (map ev.crashed_life (lives_of site.node.state)) → (e.client.0 ≡ c) × (e.server.0 ≡ s → (e.life.0 ≡ a.life.0) × (stamp_number e.end ≤ end_now k (client_of (ended c) clock.0 a)))
      new e h =
          let x = has_map ev.crashed_life (lives_of site.node.state) e h in
          let y = has_map (life_of_association site.node.state.config site.node.state.id) site.node.state.associations x.0 x.1 in (
            ap (λ (l : LeaseLife). l.client.0) x.2 ∙ ap (λ (l : LeaseLife). l.client.0) y.2 ∙ st.sim.id_,
            λ es.
                let same : y.0 ≡ a = only_here s site.node.state.associations a st.sim.place y.0 y.1 (ap (λ n. 32768 + n) (sym (ap (λ (l : LeaseLife). l.server.0) x.2 ∙ ap (λ (l : LeaseLife). l.server.0) y.2) ∙ es)) in
                let end : stamp_number e.end ≡ stamp_number (end_at site.node.state.config (cl.lease_at (Some a))) = ap (λ (l : LeaseLife). stamp_number l.end) x.2 ∙ ap (λ (l : LeaseLife). stamp_number l.end) y.2 ∙ ap (λ o. stamp_number (end_at site.node.state.config (cl.lease_at (Some o)))) same in
                (ap (λ (l : LeaseLife). l.life.0) x.2 ∙ ap (λ (l : LeaseLife). l.life.0) y.2 ∙ ap (λ (o : Association). o.life.0) same, (let z = at_end a.session in omega arith)),
          )
        where
          at_end : (o : Option ClientSession) → stamp_number (end_at site.node.state.config (option_map cl.lease_of_session o)) ≤ end_now k (client_at clock.0 a.life.0 o a.store (ended c))
          at_end None = omega arith
          at_end (Some ss) = let t = st.sim.terms in omega arith

      split : (e : LeaseLife) → Has e v.ended → Has e w.ended ⊎ Has e (map ev.crashed_life (lives_of site.node.state))
      split e h = has_append w.ended (map ev.crashed_life (lives_of site.node.state)) e h

      standing : Standing k s c last v.ended (G c).net
      standing = record { association = cl.crashed_association a; sim = record { id_ = st.sim.id_; terms = st.sim.terms; place = place; born = st.sim.born; kept = record {} }; past = λ e h ec es. go e ec es (split e h); stopped = λ e. (refl, refl) }
        where
          go : (e : LeaseLife) → e.client.0 ≡ c → e.server.0 ≡ s → Has e w.ended ⊎ Has e (map ev.crashed_life (lives_of site.node.state)) → e.life.0 < a.life.0 + 1
          go e ec es (inl i) = let p = past e i ec es in omega arith
          go e ec es (inr i) = let p = ((new e i).1 es).0 in omega arith

      ends : EndedBy c s E v.ended
      ends e h ec es = go (split e h)
        where
          go : Has e w.ended ⊎ Has e (map ev.crashed_life (lives_of site.node.state)) → stamp_number e.end ≤ E e.life.0
          go (inl i) =
              let p = b.ends c e i ec es in
              let n : ended c e.life.0 ≤ E e.life.0 = upd_all (λ d v. d < a.life.0 → ended c d ≤ v) (ended c) a.life.0 _ (λ x. absurd (omega arith)) (λ d n x. omega arith) e.life.0 (past e i ec es) in omega arith
          go (inr i) =
              let q = (new e i).1 es in
              let n : end_now k (client_of (ended c) clock.0 a) ≤ E e.life.0 = upd_all (λ d v. d ≡ a.life.0 → end_now k (client_of (ended c) clock.0 a) ≤ v) (ended c) a.life.0 _ (λ x. omega arith) (λ d n x. absurd (n x)) e.life.0 q.0 in
              let m = q.1 in omega arith

      others : (e : LeaseLife) → Has e v.ended → (e.client.0 ≢ c) → Has e w.ended
      others e h n = go (split e h)
        where
          go : Has e w.ended ⊎ Has e (map ev.crashed_life (lives_of site.node.state)) → Has e w.ended
          go (inl i) = i
          go (inr i) = absurd (n (new e i).0)

  -- Start
  pub started : Both k s w node ended G → site_of w (client c) ≡ Some site → site.node.running ≡ false → (E : ℕ → ℕ) × Both k s (ev.starts_client w (client c) (Some site)) node (upd ended c E) G × ((H : net.World) → Leads k H s ended w node G → Leads k H s (upd ended c E) (ev.starts_client w (client c) (Some site)) node G)
  unfolding ev.starts_client cl.start
  started b there stops = let z = changed v last (ended c) b there (record { clients = refl; servers = refl; clocks = refl; config = refl; messages = refl; moves = moves; standing = standing; ends = b.ends c; others = λ e h n. h }) in (ended c, z.0, z.1)
    where
      v : World
      v = ev.starts_client w (client c) (Some site)

      last : WorldClient
      last = ev.started_site site

      st : Standing k s c site w.ended (G c).net
      st = b.clients c site there

      a : Association
      a = st.association

      clock : Stamp
      clock = clock_of w (nodes.Client (client c))

      place : Place (server s) last.node.state.associations (cl.started_association a)
      place = place_map cl.started_association (λ x. refl) (server s) site.node.state.associations a st.sim.place

      here : site_of v (client c) ≡ Some last
      here = numbered_own w.clients c last site there

      empty : (a.session ≡ None) × (a.store ≡ empty_store)
      empty = st.stopped stops

      before : client_in w c s (ended c) ≡ client_at clock.0 (a.life.0 + 1) None empty_store (ended c)
      before =
          ap (client_at_site w c s (ended c)) there ∙ ap (λ r. client_view r (ended c) clock (cl.association_with site.node.state (server s))) stops
          ∙ ap (client_view false (ended c) clock) (found_at_place s site.node.state a st.sim.place) ∙ (λ j. client_at clock.0 (a.life.0 + 1) (empty.0 j) (empty.1 j) (ended c))

      after : client_in v c s (ended c) ≡ client_at clock.0 (a.life.0 + 1) None empty_store (ended c)
      after = ap (client_at_site v c s (ended c)) here ∙ ap (client_view true (ended c) clock) (found_at_place s last.node.state (cl.started_association a) place)

      moves : (h : net.Server) (N : List Msg) → Moves k (record { c = client_in w c s (ended c); s = h; net = N }) (record { c = client_in v c s (ended c); s = h; net = N })
      moves h N = moved k _ _ _ (Stays (record { c = client_in w c s (ended c); s = h; net = N })) (λ j. record { c = (before ∙ sym after) j; s = h; net = N })

      standing : Standing k s c last v.ended (G c).net
      standing =
          record {
            association = cl.started_association a;
            sim = record { id_ = st.sim.id_; terms = st.sim.terms; place = place; born = (let z = st.sim.born in omega arith); kept = record {} };
            past = subst (λ r. AllPast c s (life_now r a) w.ended) stops st.past;
            stopped = λ e. cc;
          }
