-- Places and asks, at each event and over whole runs.
use Rattle.st_lemmas.proofs.Words
use Words.{◌≡◌, ℕ, ◌+◌, ◌-◌, ◌%◌, ◌≤◌, ◌<◌, Bool, true, false, not, ◌&&◌, ◌||◌, List, [], ◌∷◌, ◌++◌, ◌==◌, Option, Some, None, Ok, Err, refl, sym, ap, ◌∙◌}
use Words.{subst, inl, inr, arith, if◌then◌else◌, le-leb, leb-true, ◌⊎◌, length, map, nat_le, pred, slice_get, suc, cons_option, list_any, eqb-true}
use Words.{eq-eqb, Config, BlockAt, ClientId, NodeId, ServerId, Stamp, Ask, Event, Body, Output, ClientInput, KnownExtent, MappedBlock, Operation, ServerInput}
use Words.{Fate, LogEntry, Observation, IssuedCommand, SentMessage, append-nil}
use Words.nodes
use Words.events
use Words.bodies
use Words.outputs
use Words.inputs
use Words.serving
use Words.fates
use Words.Admissible as adm
use Words.Client as cl
use Words.ClientState.{Association}
use Words.Disks as disks
use Words.Events as ev
use Words.Events.{WorldTurn}
use Words.Extents as extents
use Words.History.{Traced, traced, traced_after}
use Words.Keys.{same_client, client}
use Words.Server as server
use Words.Server.{ServerNode}
use Words.World as world
use Words.World.{World, WorldClient, site_of, node_of, site_runs, numbered, with_numbered, clock_of, same_node, message_of, receiver_of, issued_of}
use Words.World.{all_clients, all_servers, fresh_world}
use Words.Safety as safety
use Words.Safety.{Step, IsHead, AsksAreAnsweredOnce, answers_in, ask_in, is_expired, step, takes_step, uses_server}
use Words.WorldInvariants.{maps_own, tells_own, knows_own, is_own_extent, is_own_row, is_own_known, knows_own_at, is_on_disk_of, is_own_mapping, tells_own_rows}
use Words.Lists.{Has}
use Words.Numbers.{numbered_has, numbered_below, numbered_old, get_last, has_get, set_length}
use Words.Tables.{all_pass, and_both, and_true, has_append}
use Words.Lengths.{length_map, numbers_length}
use Words.Members.{has_set}
use Words.Truth.{or_second}
use Words.Worlds.{can_step, server_at_node}
use Rattle.st_rules.specs.declared.node.StepRefusal.TheVariants.{Crashed}
use Rattle.st_lemmas.proofs.Steps.{throughout, step_happens}
use Rattle.st_laws_steps.specs.Lives.Lives.{LivesHold}
use Rattle.st_laws_pages.specs.Disks.Obligations.{FatesHold}
use Rattle.st_laws_pages.proofs.Disks.Steps.{fates_law}
use Rattle.st_laws_pages.proofs.Disks.Whole.{fresh_fates}
use Rattle.st_laws_pages.specs.Asks.Law.{ExpiredLeasesUseNothing, InEveryRun, PlacesHold, PlacesAfter, WrittenIsLogged, is_unused, all_unused}
use Rattle.st_laws_pages.proofs.Asks.Places.{Knows, On, OwnBody}
use Rattle.st_laws_pages.proofs.Asks.Client.{key}
use Rattle.st_laws_pages.proofs.Asks.Step.{Takes}
use Rattle.st_laws_pages.proofs.Asks.Server.{ExtentsOwn, Kept, Own, served}
use Rattle.st_laws_pages.proofs.Asks.Asks.{Pending, Apart, Nothing, Holds, asks_taken}
use Rattle.st_laws_pages.proofs.Asks.Says.{Owed, AllDull, Leaves, dull_owed, server_dull, server_leaves}
use Rattle.st_laws_pages.proofs.Asks.World.{SentBy, NodeOwn, SiteKnows, Places, ClientAsks, AllAsks, SitesStay, ClientStep, ClientLeft, asks_of, asks_more}
use Rattle.st_laws_pages.proofs.Asks.World.{asks_same, client_step_left, node_case, quiet_asks, sent_told, site_case}
use Rattle.std.proofs.lemmas.List.{length_push}

-- What an event leaves.
pub record Done (past : List Step) (n : ℕ) (x : Step) : Type 0 where
  pub places : Places n x.after.world
  pub asks : AllAsks (past ++ x ∷ []) x.after.world
  pub owed : Owed past x x.seen
  pub unused : (c : ClientId) (s : ServerId) → takes_step x.before.world c x.event ≡ true → is_expired x.before.world c s ≡ true → list_any (uses_server past x s) x.seen ≡ false

-- it isn't an ask
abbrev pub NoAsk : Event → Type 0
NoAsk e = (c : ClientId) → ask_in c e ≡ None

-- An event in which no client takes a step.
silent : (past : List Step) (n : ℕ) (t : Traced) (e : Event) (sc : WorldTurn) → NoAsk e → AllDull sc.seen → (sc.seen ≡ [] ⊎ ((c : ClientId) → takes_step t.world c e ≡ true → ⊥)) → SitesStay t.world sc.world → Places n sc.world → AllAsks past t.world →
    Done past n (step t e sc)
silent past n t e sc na d w st pl al =
    record { places = pl; asks = quiet_asks past (step t e sc) t.world sc.world na d st al; owed = dull_owed past (step t e sc) sc.seen d; unused = λ c s y z. go c s w y }
  where
    go : (c : ClientId) (s : ServerId) → (sc.seen ≡ [] ⊎ ((c : ClientId) → takes_step t.world c e ≡ true → ⊥)) → takes_step t.world c e ≡ true → list_any (uses_server past (step t e sc) s) sc.seen ≡ false
    go c s (inl q) y = ap (λ os. list_any (uses_server past (step t e sc) s) os) q
    go c s (inr f) y = absurd (f c y)

same_sites : (w v : World) → v.clients ≡ w.clients → SitesStay w v
same_sites w v e = record { old = λ c site i. (site, sym (ap (λ z. numbered z c.0) e) ∙ i, refl, inl refl) }

same_places : (n : ℕ) (w v : World) → v.clients ≡ w.clients → v.servers ≡ w.servers → v.net.messages ≡ w.net.messages → Places n w → Places n v
same_places n w v c s m pl =
    record {
      count = ap (λ (y : List ServerNode). length y) s ∙ pl.count;
      few = subst (λ y. y ≤ 16) (sym (ap (λ (y : List WorldClient). length y) c)) pl.few;
      nodes = λ d y i. pl.nodes d y (sym (ap (λ (z : List ServerNode). numbered z d.0) s) ∙ i);
      told = λ y i. pl.told y (subst (Has y) m i);
      known = λ d y i. pl.known d y (sym (ap (λ (z : List WorldClient). numbered z d.0) c) ∙ i);
    }

-- nothing happens
nothing : (past : List Step) (n : ℕ) (t : Traced) (e : Event) (v : World) → v.clients ≡ t.world.clients → v.servers ≡ t.world.servers → v.net.messages ≡ t.world.net.messages → NoAsk e → Places n t.world → AllAsks past t.world → Done past n (step t e (ev.quiet v))
nothing past n t e v c s m na pl al = silent past n t e (ev.quiet v) na tt (inl refl) (same_sites t.world v c) (same_places n t.world v c s m pl) al

-- A client takes a step.
client_done : (past : List Step) (n : ℕ) (t : Traced) (e : Event) (w : World) (c : ClientId) (sc : WorldTurn) → ((d : ClientId) → takes_step t.world d e ≡ true → d ≡ c) → ((s : ServerId) → is_expired t.world c s ≡ true → is_expired w c s ≡ true) →
    ClientLeft past (step t e sc) n w c sc → Done past n (step t e sc)
client_done past n t e w c sc own same l =
    record {
      places = l.places;
      asks = l.asks refl;
      owed = l.owed;
      unused = λ d s y z. l.unused l.places.count s (same s (subst (λ (b : ClientId). is_expired t.world b s ≡ true) (own d y) z));
    }

-- a step that isn't an ask
begins_same : (past : List Step) (x : Step) (n : ℕ) (c : ClientId) (site : WorldClient) (Gone : ServerId → Type 0) → ask_in c x.event ≡ None → ClientAsks past c site →
    Holds c n (λ op. numbered (asks_of (past ++ x ∷ []) c) op) (λ op. list_any (answers_in c op) past) Gone (map key site.node.state.operations ++ []) []
begins_same past x n c site Gone e h =
    subst (λ ks. Holds c n (λ op. numbered (asks_of (past ++ x ∷ []) c) op) (λ op. list_any (answers_in c op) past) Gone ks []) (sym (append-nil (map key site.node.state.operations)))
    (record {
      pending = λ k i. ap (λ z. numbered z k.0) (asks_same past x c e) ∙ h.pending k i;
      apart = h.apart;
      unsaid = λ k i. (h.unsaid k i, refl);
      said = Nothing;
      unused = λ o i v g. absurd i;
    })

plain_step : (past : List Step) (x : Step) (n : ℕ) (w : World) (c : ClientId) (old : WorldClient) (input : ClientInput) → NoAsk x.event → site_of w c ≡ Some old → old.node.running ≡ true → AllAsks past w →
    ((P : List Operation → List Output → Type 0) → Takes n P P input) → ClientStep past x n w c old old input
plain_step past x n w c old input na there runs al f =
    record {
      there = there;
      same = refl;
      runs = runs;
      tail = [];
      takes = f _;
      begins = begins_same past x n c old _ (na c) (al.clients c old there);
      count = ap (λ z. length z) (asks_same past x c (na c)) ∙ (al.clients c old there).count;
      other = λ d q. na d;
      later = λ op l. al.later c op (subst (λ z. length z < op) (asks_same past x c (na c)) l);
    }

-- an ask
asked_step : (past : List Step) (x : Step) (n : ℕ) (w : World) (c : ClientId) (ask : Ask) (old : WorldClient) → x.event ≡ events.App c ask → site_of w c ≡ Some old → old.node.running ≡ true → AllAsks past w →
    ClientStep past x n w c old (ev.asked_once_more old) (inputs.App (old.asks + 1) ask)
unfolding safety.ask_of_client
asked_step past x n w c ask old e there runs al =
    record {
      there = there;
      same = refl;
      runs = runs;
      tail = (old.asks + 1, ask) ∷ [];
      takes = asks_taken c n _ _ _ (old.asks + 1) ask;
      begins = record {
        pending = λ k i. pending k (has_append (map key old.node.state.operations) ((old.asks + 1, ask) ∷ []) k i);
        apart = apart (map key old.node.state.operations) h.apart (λ k i. below k i);
        unsaid = λ k i. unsaid k (has_append (map key old.node.state.operations) ((old.asks + 1, ask) ∷ []) k i);
        said = Nothing;
        unused = λ o i v g. absurd i;
      };
      count = ap (λ z. length z) more ∙ length_push (asks_of past c) ask ∙ ap (λ z. z + 1) h.count;
      other = λ d q. ap (ask_in d) e ∙ ap (λ b. if b then Some ask else None) (not_same d q);
      later = λ op l. al.later c op (let z = subst (λ z. length z < op) more l in let y = length_push (asks_of past c) ask in omega (arith, z, y));
    }
  where
    h : ClientAsks past c old
    h = al.clients c old there

    self : same_client c c ≡ true
    self = eq-eqb c.0 c.0 refl

    not_same : (d : ClientId) → (c.0 == d.0) ≡ false → same_client d c ≡ false
    not_same d q = go (same_client d c) refl
      where
        na : (c.0 == d.0) ≡ true → ⊥
        na z = cc (z, q)

        go : (b : Bool) → same_client d c ≡ b → b ≡ false
        go true f = absurd (na (eq-eqb c.0 d.0 (sym (eqb-true d.0 c.0 f))))
        go false f = refl

    in_event : ask_in c x.event ≡ Some ask
    in_event = ap (ask_in c) e ∙ ap (λ b. if b then Some ask else None) self

    more : asks_of (past ++ x ∷ []) c ≡ asks_of past c ++ ask ∷ []
    more = asks_more past x c ∙ ap (λ o. asks_of past c ++ cons_option o []) in_event

    below : (k : ℕ × Ask) → Has k (map key old.node.state.operations) → k.0 ≤ old.asks
    below k i = subst (λ m. k.0 ≤ m) h.count (numbered_below (asks_of past c) k.0 k.1 (h.pending k i)).1

    last : numbered (asks_of past c ++ ask ∷ []) (old.asks + 1) ≡ Some ask
    last = subst (λ m. numbered (asks_of past c ++ ask ∷ []) m ≡ Some ask) (let z = h.count in let y : suc (length (asks_of past c)) ≡ old.asks + 1 = omega (arith, z) in y) (get_last (asks_of past c) ask)

    pending : (k : ℕ × Ask) → Has k (map key old.node.state.operations) ⊎ Has k ((old.asks + 1, ask) ∷ []) → numbered (asks_of (past ++ x ∷ []) c) k.0 ≡ Some k.1
    pending k (inl i) = ap (λ z. numbered z k.0) more ∙ numbered_old (asks_of past c) ask k.0 k.1 (h.pending k i)
    pending k (inr (inl q)) = ap (λ z. numbered z k.0) more ∙ subst (λ (y : ℕ × Ask). numbered (asks_of past c ++ ask ∷ []) y.0 ≡ Some y.1) (sym q) last
    pending k (inr (inr i)) = absurd i

    unsaid : (k : ℕ × Ask) → Has k (map key old.node.state.operations) ⊎ Has k ((old.asks + 1, ask) ∷ []) → (list_any (answers_in c k.0) past ≡ false) × (false ≡ false)
    unsaid k (inl i) = (h.unsaid k i, refl)
    unsaid k (inr (inl q)) = (al.later c k.0 (let z = h.count in let y = ap (λ (y : ℕ × Ask). y.0) q in omega (arith, z, y)), refl)
    unsaid k (inr (inr i)) = absurd i

    apart : (ks : Pending) → Apart ks → ((k : ℕ × Ask) → Has k ks → k.0 ≤ old.asks) → Apart (ks ++ (old.asks + 1, ask) ∷ [])
    apart [] a b = record { first = λ j i z. absurd i; rest = tt }
    apart (k ∷ ks) a b = record { first = λ j i z. at j (has_append ks ((old.asks + 1, ask) ∷ []) j i) z; rest = apart ks a.rest (λ j i. b j (inr i)) }
      where
        at : (j : ℕ × Ask) → Has j ks ⊎ Has j ((old.asks + 1, ask) ∷ []) → k.0 ≡ j.0 → ⊥
        at j (inl i) z = a.first j i z
        at j (inr (inl q)) z = let y = ap (λ (y : ℕ × Ask). y.0) q in let u = b k (inl refl) in absurd (omega (arith, z, y, u))
        at j (inr (inr i)) z = absurd i

client_is : (d c : ClientId) → (d.0 == c.0) ≡ true → c ≡ d
client_is d c e = ap (λ n. record { 0 = n }) (sym (eqb-true d.0 c.0 e))

-- a client that does not run takes nothing
stopped_takes : (w : World) (c : ClientId) (input : ClientInput) (site : WorldClient) → site.node.running ≡ false → ev.client_takes w c input site ≡ ev.quiet w
unfolding ev.client_takes ev.client_took cl.node_step
stopped_takes w c input site r = go site.node.running r
  where
    go : (b : Bool) → b ≡ false → ev.client_took w c site (if b then Ok (cl.node_turn site.node (cl.client_step site.node.state (clock_of w (nodes.Client c)) input)) else Err Crashed) ≡ ev.quiet w
    go true e = cc
    go false e = refl

-- a world with another tally and other disks
abbrev beside : world.Tally → disks.Disks → World → World
beside a d w = record w { tally = a; disks = d }

module _ (past : List Step) (n : ℕ) (t : Traced) (e : Event) (a : world.Tally) (d : disks.Disks) (pl : Places n t.world) (al : AllAsks past t.world) (lives : LivesHold t.world) where
  abbrev W : World
  W = beside a d t.world

  places : Places n W
  places = same_places n t.world W refl refl refl pl

  asks : AllAsks past W
  asks = record { clients = al.clients; later = al.later }

  -- a client that is there takes an input that isn't an ask
  takes_done : NoAsk e → (c : ClientId) (input : ClientInput) (o : Option WorldClient) → site_of t.world c ≡ o → ((d : ClientId) → takes_step t.world d e ≡ true → d ≡ c) → ((P : List Operation → List Output → Type 0) → Takes n P P input) →
      Done past n (step t e (ev.at_client W c input o))
  unfolding ev.at_client
  takes_done na c input None i own f = nothing past n t e W refl refl refl na pl al
  takes_done na c input (Some site) i own f = go site.node.running refl
    where
      go : (b : Bool) → site.node.running ≡ b → Done past n (step t e (ev.client_takes W c input site))
      go true r = client_done past n t e W c _ own (λ s z. z) (client_step_left past (step t e (ev.client_takes W c input site)) n W c site site input (plain_step past _ n W c site input na i r asks f) (lives.lives.sites c site i) places asks)
      go false r = subst (λ z. Done past n (step t e z)) (sym (stopped_takes W c input site r)) (nothing past n t e W refl refl refl na pl al)

  -- an ask of a client that runs
  asks_done : (c : ClientId) (ask : Ask) (o : Option WorldClient) → e ≡ events.App c ask → site_of t.world c ≡ o → site_runs o ≡ true → Done past n (step t e (ev.asks_at W c ask o))
  unfolding ev.asks_at
  asks_done c ask None q i r = cc
  asks_done c ask (Some site) q i r =
      client_done past n t e W c _ own (λ s z. z)
      (client_step_left past (step t e (ev.client_takes W c (inputs.App (site.asks + 1) ask) (ev.asked_once_more site))) n W c site (ev.asked_once_more site) (inputs.App (site.asks + 1) ask)
      (asked_step past _ n W c ask site q i r asks) (lives.lives.sites c site i) places asks)
    where
      own : (d : ClientId) → takes_step t.world d e ≡ true → d ≡ c
      own d z = client_is c d (subst (λ y. takes_step t.world d y ≡ true) q z)

  -- a server that is there takes an input
  server_done : NoAsk e → ((c : ClientId) → takes_step t.world c e ≡ true → ⊥) → (s : ServerId) (input : ServerInput) (o : Option ServerNode) → node_of t.world s ≡ o → Done past n (step t e (ev.at_server W s input o))
  unfolding ev.at_server ev.server_takes ev.server_took server.node_step
  server_done na f s input None i = nothing past n t e W refl refl refl na pl al
  server_done na f s input (Some node) i = go node.running
    where
      now : Stamp
      now = clock_of W (nodes.Server s)

      u : server.ServerTurn
      u = server.server_step node.state now input

      after : ServerNode
      after = (server.node_turn node u).node

      v0 : World
      v0 = ev.with_node s after W

      sc : WorldTurn
      sc = ev.server_says_all s u.out (ev.quiet v0)

      own : NodeOwn n node
      own = pl.nodes s node i

      o : Own n node.state.id u
      o = served n node.state.id node.state now input (record { id = refl; extents = own.extents; kept = own.kept; sent = λ x h. absurd h })

      l : Leaves u.out v0 sc.world
      l = server_leaves s u.out (ev.quiet v0)

      nodes_own : (r : ServerId) (y : ServerNode) → (y ≡ after) ⊎ (node_of t.world r ≡ Some y) → NodeOwn n y
      nodes_own r y (inl q) = subst (NodeOwn n) (sym q) (subst (λ (m : ServerId). (ExtentsOwn n m u.state.stable.extents) → NodeOwn n after) o.id (λ z. record { extents = z; kept = subst (λ m. (x : Rattle.st_rules.specs.declared.sessions.Session.Session) → Has x u.state.sessions.rows → Kept n m x) (sym o.id) o.kept }) o.extents)
      nodes_own r y (inr q) = pl.nodes r y q

      told : (m : SentMessage) → Has m W.net.messages ⊎ Has (outputs.Send m.message) u.out → SentBy n m.message.header.from m.message.body
      told m (inl h) = pl.told m h
      told m (inr h) = let z = o.sent (outputs.Send m.message) h in inr (node.state.id, z.0, z.1)

      stand : Places n sc.world
      stand =
          record {
            count = ap (λ (y : List ServerNode). length y) l.servers ∙ set_length t.world.servers (pred s.0) after ∙ pl.count;
            few = subst (λ y. y ≤ 16) (sym (ap (λ (y : List WorldClient). length y) l.clients)) pl.few;
            nodes = λ r y j. nodes_own r y (node_case t.world s node after sc.world.servers i l.servers r y j);
            told = λ m h. told m (l.messages m h);
            known = λ c y j. pl.known c y (sym (ap (λ (z : List WorldClient). numbered z c.0) l.clients) ∙ j);
          }

      go : (b : Bool) → Done past n (step t e (ev.server_took W s (if b then Ok (server.node_turn node u) else Err Crashed)))
      go true = silent past n t e sc na (server_dull s u.out (ev.quiet v0) tt) (inr f) (same_sites t.world sc.world l.clients) stand al
      go false = nothing past n t e W refl refl refl na pl al

-- Fates are dull.
pub dull_both : (os ps : List Observation) → AllDull os → AllDull ps → AllDull (os ++ ps)
dull_both [] ps a b = b
dull_both (o ∷ os) ps a b = record { one = a.one; rest = dull_both os ps a.rest b }

pub dull_fate : (k : ℕ) (e f : Fate) → AllDull (ev.fate_seen k e f)
dull_fate k fates.Pending fates.Pending = tt
dull_fate k fates.Pending fates.Hard = record { one = tt; rest = tt }
dull_fate k fates.Pending (fates.Gone c) = record { one = tt; rest = tt }
dull_fate k fates.Hard f = tt
dull_fate k (fates.Gone c) f = tt

pub dull_fates : (k : ℕ) (es fs : List LogEntry) → AllDull (ev.fates_from k es fs)
unfolding ev.fates_from
dull_fates k [] fs = tt
dull_fates k (e ∷ es) [] = tt
dull_fates k (e ∷ es) (f ∷ fs) = dull_both (ev.fate_seen k e.fate f.fate) _ (dull_fate k e.fate f.fate) (dull_fates (k + 1) es fs)

marked : (past : List Step) (n : ℕ) (t : Traced) (e : Event) (v : World) (es : List LogEntry) → NoAsk e → ((c : ClientId) → takes_step t.world c e ≡ true → ⊥) → SitesStay t.world v → Places n v → AllAsks past t.world → Done past n (step t e (ev.marks v es))
unfolding ev.marks
marked past n t e v es na f st pl al =
    silent past n t e (ev.world_turn (ev.with_log es v) (ev.fates_from 1 v.log es)) na (dull_fates 1 v.log es) (inr f) (record { old = st.old })
    (record { count = pl.count; few = pl.few; nodes = pl.nodes; told = pl.told; known = pl.known }) al

-- A client that crashes or starts.
site_left : (n : ℕ) (w v : World) (c : ClientId) (old site : WorldClient) → site_of w c ≡ Some old → v.clients ≡ with_numbered c.0 site w.clients → v.servers ≡ w.servers → v.net.messages ≡ w.net.messages → SiteKnows n site → Places n w → Places n v
site_left n w v c old site there cs ss ms k pl =
    record {
      count = ap (λ (y : List ServerNode). length y) ss ∙ pl.count;
      few = subst (λ y. y ≤ 16) (sym (ap (λ (y : List WorldClient). length y) cs ∙ set_length w.clients (pred c.0) site)) pl.few;
      nodes = λ d y i. pl.nodes d y (sym (ap (λ (z : List ServerNode). numbered z d.0) ss) ∙ i);
      told = λ y i. pl.told y (subst (Has y) ms i);
      known = λ d y i. go d y (site_case w c old site v.clients there cs d y i);
    }
  where
    go : (d : ClientId) (y : WorldClient) → ((c ≡ d) × (y ≡ site)) ⊎ (((c.0 == d.0) ≡ false) × (site_of w d ≡ Some y)) → SiteKnows n y
    go d y (inl (e, f)) = subst (SiteKnows n) (sym f) k
    go d y (inr (e, f)) = pl.known d y f

sites_left : (w v : World) (c : ClientId) (old site : WorldClient) → site_of w c ≡ Some old → v.clients ≡ with_numbered c.0 site w.clients → site.asks ≡ old.asks → site.node.state.operations ≡ [] → SitesStay w v
sites_left w v c old site there cs ask os = record { old = λ d y i. go d y (site_case w c old site v.clients there cs d y i) }
  where
    go : (d : ClientId) (y : WorldClient) → ((c ≡ d) × (y ≡ site)) ⊎ (((c.0 == d.0) ≡ false) × (site_of w d ≡ Some y)) →
        (before : WorldClient) × (site_of w d ≡ Some before) × (y.asks ≡ before.asks) × ((y.node.state.operations ≡ before.node.state.operations) ⊎ (y.node.state.operations ≡ []))
    go d y (inl (e, f)) = (old, ap (λ z. site_of w z) (sym e) ∙ there, ap (λ (z : WorldClient). z.asks) f ∙ ask, inr (ap (λ (z : WorldClient). z.node.state.operations) f ∙ os))
    go d y (inr (e, f)) = (y, f, refl, inl refl)

nothing_known : (n : ℕ) (f : Association → Association) → ((a : Association) → (f a).store.extents ≡ []) → (al : List Association) → (a : Association) → Has a (map f al) → Knows n a.server a.store.extents
nothing_known n f g [] a h = absurd h
nothing_known n f g (x ∷ al) a (inl e) = subst (λ (b : Association). Knows n b.server b.store.extents) (sym e) (λ z i. absurd (subst (λ (l : List KnownExtent). Has z l) (g x) i))
nothing_known n f g (x ∷ al) a (inr h) = nothing_known n f g al a h

crash_empty : (site : WorldClient) → (ev.stopped_site site).node.state.operations ≡ []
unfolding cl.crash
crash_empty site = refl

start_empty : (site : WorldClient) → (ev.started_site site).node.state.operations ≡ []
unfolding cl.start
start_empty site = refl

crash_knows : (n : ℕ) (site : WorldClient) → SiteKnows n (ev.stopped_site site)
unfolding cl.crash
crash_knows n site = nothing_known n cl.crashed_association (λ a. refl) site.node.state.associations

start_knows : (n : ℕ) (site : WorldClient) → SiteKnows n (ev.started_site site)
unfolding cl.start
start_knows n site = nothing_known n cl.started_association (λ a. refl) site.node.state.associations

-- A server that crashes or starts.
crashed_own : (n : ℕ) (node : ServerNode) → NodeOwn n node → NodeOwn n (server.crash_node node)
unfolding server.crash
crashed_own n node o = record { extents = o.extents; kept = λ x h. absurd h }

started_own : (n : ℕ) (node : ServerNode) (now : Stamp) → NodeOwn n node → NodeOwn n (server.start_node node now)
unfolding server.start server.begin_epoch
started_own n node now o = record { extents = o.extents; kept = λ x h. absurd h }

node_left : (n : ℕ) (w : World) (s : ServerId) (old node : ServerNode) → node_of w s ≡ Some old → NodeOwn n node → Places n w → Places n (ev.with_node s node w)
node_left n w s old node there k pl =
    record {
      count = set_length w.servers (pred s.0) node ∙ pl.count;
      few = pl.few;
      nodes = λ d y i. go d y (node_case w s old node _ there refl d y i);
      told = pl.told;
      known = pl.known;
    }
  where
    go : (d : ServerId) (y : ServerNode) → (y ≡ node) ⊎ (node_of w d ≡ Some y) → NodeOwn n y
    go d y (inl e) = subst (NodeOwn n) (sym e) k
    go d y (inr e) = pl.nodes d y e

not_client : (d c : ClientId) → same_node (nodes.Client d) (nodes.Client c) ≡ true → c ≡ d
not_client d c e = client_is d c e

happens_done : (past : List Step) (n : ℕ) (t : Traced) (e : Event) → adm.refusal t.world e ≡ None → LivesHold t.world → Places n t.world → AllAsks past t.world → Done past n (step t e (ev.happens (ev.counted t.world) e))
unfolding ev.happens ev.at_client ev.ticks ev.delivers ev.delivers_to ev.loses_message ev.effects ev.advances ev.reports_of ev.tells ev.tells_client ev.tells_site ev.crashes ev.crashes_client ev.crashes_server ev.starts ev.starts_client ev.starts_server adm.refusal
happens_done past n t (events.Tick (nodes.Client c)) q h pl al = takes_done past n t (events.Tick (nodes.Client c)) _ t.world.disks pl al h (λ d. refl) c inputs.Tick (site_of t.world c) refl (λ d z. not_client c d z) (λ P ops out x. x)
happens_done past n t (events.Tick (nodes.Server s)) q h pl al = server_done past n t (events.Tick (nodes.Server s)) _ t.world.disks pl al h (λ d. refl) (λ c z. cc z) s serving.Tick (node_of t.world s) refl
happens_done past n t (events.App c ask) q h pl al =
    asks_done past n t (events.App c ask) _ t.world.disks pl al h c ask (site_of t.world c) refl refl (can_step t.world (nodes.Client c) (or_second (adm.no_node t.world (nodes.Client c)) _ q))
happens_done past n t (events.Deliver k) q h pl al = go (message_of t.world k) refl
  where
    go : (o : Option SentMessage) → message_of t.world k ≡ o → Done past n (step t (events.Deliver k) (ev.delivers (ev.counted t.world) o))
    go None i = nothing past n t (events.Deliver k) (ev.counted t.world) refl refl refl (λ d. refl) pl al
    go (Some m) i = to (receiver_of m) refl
      where
        brings : SentBy n m.message.header.from m.message.body
        brings = pl.told m (numbered_has t.world.net.messages k m i)

        is : (r : NodeId) → receiver_of m ≡ r → (c : ClientId) → takes_step t.world c (events.Deliver k) ≡ true → same_node r (nodes.Client c) ≡ true
        is r f c z = subst (λ y. same_node y (nodes.Client c) ≡ true) f (subst (λ o. safety.is_receiver c o ≡ true) i z)

        to : (r : NodeId) → receiver_of m ≡ r → Done past n (step t (events.Deliver k) (ev.delivers_to (ev.counted t.world) m.message r))
        to (nodes.Client c) f = takes_done past n t (events.Deliver k) _ t.world.disks pl al h (λ d. refl) c (inputs.Control m.message) (site_of t.world c) refl (λ d z. not_client c d (is (nodes.Client c) f d z)) (λ P. ((λ ops out x. x), sent_told n m.message.header.from m.message.body brings))
        to (nodes.Server s) f = server_done past n t (events.Deliver k) _ t.world.disks pl al h (λ d. refl) (λ c z. na (is (nodes.Server s) f c z)) s (serving.Control m.message) (node_of t.world s) refl
          where
            na : ◌≡◌ {A = Bool} false true → ⊥
            na z = cc
happens_done past n t (events.Lose k) q h pl al = go (message_of t.world k) refl
  where
    go : (o : Option SentMessage) → message_of t.world k ≡ o → Done past n (step t (events.Lose k) (ev.quiet (ev.loses_message (ev.counted t.world) k o)))
    go None i = nothing past n t (events.Lose k) (ev.counted t.world) refl refl refl (λ d. refl) pl al
    go (Some m) i =
        silent past n t (events.Lose k) _ (λ d. refl) tt (inl refl) (same_sites t.world _ refl)
        (record { count = pl.count; few = pl.few; nodes = pl.nodes; told = λ y j. at y (has_set t.world.net.messages (pred k) (record m { lost = true }) y j); known = pl.known }) al
      where
        at : (y : SentMessage) → (y ≡ record m { lost = true }) ⊎ Has y t.world.net.messages → SentBy n y.message.header.from y.message.body
        at y (inl e) = subst (λ (z : SentMessage). SentBy n z.message.header.from z.message.body) (sym e) (pl.told m (numbered_has t.world.net.messages k m i))
        at y (inr j) = pl.told y j
happens_done past n t (events.Cut from to) q h pl al = nothing past n t (events.Cut from to) _ refl refl refl (λ d. refl) pl al
happens_done past n t (events.Heal from to) q h pl al = nothing past n t (events.Heal from to) _ refl refl refl (λ d. refl) pl al
happens_done past n t (events.Advance ds) q h pl al =
    marked past n t (events.Advance ds) _ _ (λ d. refl) (λ c z. cc z) (same_sites t.world _ refl) (same_places n t.world _ refl refl refl pl) al
happens_done past n t (events.Effect k) q h pl al =
    marked past n t (events.Effect k) _ _ (λ d. refl) (λ c z. cc z) (same_sites t.world _ refl) (same_places n t.world _ refl refl refl pl) al
happens_done past n t (events.Report k ok) q h pl al = go (issued_of t.world k) refl
  where
    ds : disks.Disks
    ds = ev.disks_after t.world.disks (disks.done t.world.disks k ok)

    W : World
    W = ev.with_disks ds (ev.counted t.world)

    go : (o : Option IssuedCommand) → issued_of t.world k ≡ o → Done past n (step t (events.Report k ok) (ev.tells W k ok o))
    go None i = nothing past n t (events.Report k ok) W refl refl refl (λ d. refl) pl al
    go (Some y) i = at (site_of t.world y.client) refl
      where
        own : (d : ClientId) → takes_step t.world d (events.Report k ok) ≡ true → d ≡ y.client
        own d z = client_is y.client d (and_true _ _ (subst (λ o. safety.is_told t.world d o ≡ true) i z)).0

        at : (o : Option WorldClient) → site_of t.world y.client ≡ o → Done past n (step t (events.Report k ok) (ev.tells_client W k ok y o))
        at None j = nothing past n t (events.Report k ok) W refl refl refl (λ d. refl) pl al
        at (Some site) j = pick (ev.is_same_instance y site) (takes_done past n t (events.Report k ok) _ ds pl al h (λ d. refl) y.client (ev.end_told W k ok y) (Some site) j own (λ P ops out x. x))
          where
            pick : (b : Bool) → Done past n (step t (events.Report k ok) (ev.at_client W y.client (ev.end_told W k ok y) (Some site))) → Done past n (step t (events.Report k ok) (if b then ev.client_takes W y.client (ev.end_told W k ok y) site else ev.quiet W))
            pick true d = d
            pick false d = nothing past n t (events.Report k ok) W refl refl refl (λ d. refl) pl al
happens_done past n t (events.Crash (nodes.Client c)) q h pl al = go (site_of t.world c) refl
  where
    go : (o : Option WorldClient) → site_of t.world c ≡ o → Done past n (step t (events.Crash (nodes.Client c)) (ev.crashes_client (ev.counted t.world) c o))
    go None i = nothing past n t (events.Crash (nodes.Client c)) _ refl refl refl (λ d. refl) pl al
    go (Some site) i =
        marked past n t (events.Crash (nodes.Client c)) v _ (λ d. refl) (λ d z. cc z) (sites_left t.world v c site (ev.stopped_site site) i refl refl (crash_empty site)) (site_left n t.world v c site (ev.stopped_site site) i refl refl refl (crash_knows n site) pl) al
      where
        v : World
        v = ev.with_site c (ev.stopped_site site) (ev.with_crashed_lives site (ev.counted t.world))
happens_done past n t (events.Crash (nodes.Server s)) q h pl al = go (node_of t.world s) refl
  where
    go : (o : Option ServerNode) → node_of t.world s ≡ o → Done past n (step t (events.Crash (nodes.Server s)) (ev.quiet (ev.crashes_server (ev.counted t.world) s o)))
    go None i = nothing past n t (events.Crash (nodes.Server s)) _ refl refl refl (λ d. refl) pl al
    go (Some node) i =
        silent past n t (events.Crash (nodes.Server s)) _ (λ d. refl) tt (inl refl) (same_sites t.world _ refl)
        (node_left n (ev.counted t.world) s node (server.crash_node node) i (crashed_own n node (pl.nodes s node i)) (same_places n t.world _ refl refl refl pl)) al
happens_done past n t (events.Start (nodes.Client c)) q h pl al = go (site_of t.world c) refl
  where
    go : (o : Option WorldClient) → site_of t.world c ≡ o → Done past n (step t (events.Start (nodes.Client c)) (ev.quiet (ev.starts_client (ev.counted t.world) c o)))
    go None i = nothing past n t (events.Start (nodes.Client c)) _ refl refl refl (λ d. refl) pl al
    go (Some site) i =
        silent past n t (events.Start (nodes.Client c)) (ev.quiet v) (λ d. refl) tt (inl refl) (sites_left t.world v c site (ev.started_site site) i refl refl (start_empty site)) (site_left n t.world v c site (ev.started_site site) i refl refl refl (start_knows n site) pl) al
      where
        v : World
        v = ev.with_site c (ev.started_site site) (ev.counted t.world)
happens_done past n t (events.Start (nodes.Server s)) q h pl al = go (node_of t.world s) refl
  where
    go : (o : Option ServerNode) → node_of t.world s ≡ o → Done past n (step t (events.Start (nodes.Server s)) (ev.quiet (ev.starts_server (ev.counted t.world) s o)))
    go None i = nothing past n t (events.Start (nodes.Server s)) _ refl refl refl (λ d. refl) pl al
    go (Some node) i =
        silent past n t (events.Start (nodes.Server s)) _ (λ d. refl) tt (inl refl) (same_sites t.world _ refl)
        (node_left n (ev.counted t.world) s node (server.start_node node _) i (started_own n node _ (pl.nodes s node i)) (same_places n t.world _ refl refl refl pl)) al

-- The promises at a step.
expired_unused : (past : List Step) (n : ℕ) (x : Step) → Done past n x → ExpiredLeasesUseNothing past x
expired_unused past n x d = all_pass (all_unused past x) (all_clients x.before.world) (λ c i. all_pass (is_unused past x c) (all_servers x.before.world) (λ s j. one c s))
  where
    unless : (a b c : Bool) → (a ≡ true → b ≡ true → c ≡ false) → (not (a && b) || not c) ≡ true
    unless true true c f = ap not (f refl refl)
    unless true false c f = refl
    unless false b c f = refl

    one : (c : ClientId) (s : ServerId) → is_unused past x c s ≡ true
    one c s = unless (takes_step x.before.world c x.event) (is_expired x.before.world c s) (list_any (uses_server past x s) x.seen) (λ y z. d.unused c s y z)

answered_once : (past : List Step) (n : ℕ) (x : Step) → Done past n x → AsksAreAnsweredOnce past x
answered_once past n x d = and_both _ _ d.owed.once d.owed.followed

same_server_is : (w : World) (n : ℕ) → length w.servers ≡ n → (s : ServerId) (at : BlockAt) → On n s at → is_on_disk_of w s at ≡ true
same_server_is w n e s at o = eq-eqb _ _ (ap (λ z. pred at.disk.0 % z + 1) e ∙ o)

from_client : (from : ℕ) → from ≤ 16 → (c : ClientId) × (world.node_at from ≡ nodes.Client c)
unfolding world.node_at
from_client from h = go (nat_le from 16) (le-leb from 16 h)
  where
    go : (b : Bool) → b ≡ true → (c : ClientId) × ((if b then nodes.Client (client from) else nodes.Server (world.server (from - 32768))) ≡ nodes.Client c)
    go true e = (client from, refl)
    go false e = cc

-- what holds of places, as tests
places_hold : (n : ℕ) (w : World) → Places n w → PlacesHold w
places_hold n w pl = record { maps = all_pass (maps_own w) w.servers maps; told = all_pass (tells_own w) w.net.messages told; known = all_pass (knows_own w) w.clients known }
  where
    on : (s : ServerId) (at : BlockAt) → On n s at → is_on_disk_of w s at ≡ true
    on = same_server_is w n pl.count

    maps : (y : ServerNode) → Has y w.servers → maps_own w y ≡ true
    maps y h = go (has_get w.servers y h)
      where
        go : (k : ℕ) × (slice_get w.servers k ≡ Some y) → maps_own w y ≡ true
        go (k, e) = let o = pl.nodes (record { 0 = suc k }) y e in all_pass (is_own_extent w y.state.id) y.state.stable.extents.rows (λ r i. on y.state.id r.at (o.extents.rows r i))

    told : (m : SentMessage) → Has m w.net.messages → tells_own w m ≡ true
    told m h = by (pl.told m h)
      where
        rows : (r : NodeId) (b : Body) → ((s : ServerId) → r ≡ nodes.Server s → OwnBody n s b) → tells_own_rows w r b ≡ true
        rows (nodes.Server s) (bodies.Extents ino xs) f = all_pass (is_own_row w s) xs (λ x i. on s x.at (f s refl x i))
        rows (nodes.Server s) b f = refl
        rows (nodes.Client c) b f = refl

        by : SentBy n m.message.header.from m.message.body → tells_own w m ≡ true
        by (inl small) = rows (world.node_at m.message.header.from) m.message.body (λ s e. absurd (sender (world.node_at m.message.header.from) (from_client m.message.header.from small) s e))
          where
            sender : (r : NodeId) → (c : ClientId) × (r ≡ nodes.Client c) → (s : ServerId) → r ≡ nodes.Server s → ⊥
            sender r (c, e) s f = cc (e, f)
        by (inr (s, e, o)) = rows (world.node_at m.message.header.from) m.message.body (λ r f. subst (λ (z : ServerId). OwnBody n z m.message.body) (is r (sym (server_at_node m.message.header.from s e) ∙ f)) o)
          where
            is : (r : ServerId) → ◌≡◌ {A = NodeId} (nodes.Server s) (nodes.Server r) → s ≡ r
            is r q = cc q

    known : (y : WorldClient) → Has y w.clients → knows_own w y ≡ true
    known y h = go (has_get w.clients y h)
      where
        mapping : (s : ServerId) (m : Option MappedBlock) → ((z : MappedBlock) → m ≡ Some z → On n s z.at) → is_own_mapping w s m ≡ true
        mapping s None f = refl
        mapping s (Some z) f = on s z.at (f z refl)

        go : (k : ℕ) × (slice_get w.clients k ≡ Some y) → knows_own w y ≡ true
        go (k, e) =
            let o = pl.known (record { 0 = suc k }) y e in
            all_pass (knows_own_at w) y.node.state.associations (λ a i. all_pass (is_own_known w a.server) a.store.extents (λ x j. mapping a.server x.mapping (λ z q. o a i x j z q)))

-- At the start.
fresh_node : (k : Config) (servers d b j : ℕ) → NodeOwn servers (world.node_at_start k servers d b j)
unfolding server.fresh_server
fresh_node k servers d b j = record { extents = record { server = refl; servers = refl; rows = λ e h. absurd h }; kept = λ x h. absurd h }

fresh_nodes : (k : Config) (servers d b : ℕ) (ns : List ℕ) (y : ServerNode) → Has y (map (world.node_at_start k servers d b) ns) → NodeOwn servers y
fresh_nodes k servers d b [] y h = absurd h
fresh_nodes k servers d b (j ∷ ns) y (inl e) = subst (NodeOwn servers) (sym e) (fresh_node k servers d b j)
fresh_nodes k servers d b (j ∷ ns) y (inr h) = fresh_nodes k servers d b ns y h

-- a client that did nothing yet
record FreshSite (n : ℕ) (y : WorldClient) : Type 0 where
  pub knows : SiteKnows n y
  pub asks : y.asks ≡ 0
  pub operations : y.node.state.operations ≡ []

fresh_one : (k : Config) (servers j : ℕ) → FreshSite servers (world.fresh_site k servers j)
unfolding cl.fresh_client
fresh_one k servers j = record { knows = none (extents.numbers 1 servers); asks = refl; operations = refl }
  where
    none : (ns : List ℕ) (a : Association) → Has a (map cl.fresh_association ns) → Knows servers a.server a.store.extents
    none [] a h = absurd h
    none (m ∷ ns) a (inl e) = subst (λ (z : Association). Knows servers z.server z.store.extents) (sym e) (λ x i. absurd i)
    none (m ∷ ns) a (inr h) = none ns a h

fresh_sites : (k : Config) (servers : ℕ) (ns : List ℕ) (y : WorldClient) → Has y (map (world.fresh_site k servers) ns) → FreshSite servers y
fresh_sites k servers [] y h = absurd h
fresh_sites k servers (j ∷ ns) y (inl e) = subst (FreshSite servers) (sym e) (fresh_one k servers j)
fresh_sites k servers (j ∷ ns) y (inr h) = fresh_sites k servers ns y h

-- Over whole runs.
record Stands (n : ℕ) (past : List Step) (t : Traced) : Type 0 where
  pub fates : FatesHold t.world
  pub places : Places n t.world
  pub asks : AllAsks past t.world

fresh_stands : (k : Config) (clients servers d b form : ℕ) → IsHead k clients servers d b form → Stands servers [] (traced (fresh_world k clients servers d b form))
unfolding fresh_world
fresh_stands k clients servers d b form head = record { fates = fresh_fates k clients servers d b form; places = fresh_places; asks = fresh_asks }
  where
    site : (c : ClientId) (y : WorldClient) → site_of (fresh_world k clients servers d b form) c ≡ Some y → FreshSite servers y
    site c y i = fresh_sites k servers (extents.numbers 1 clients) y (numbered_has (fresh_world k clients servers d b form).clients c.0 y i)

    fresh_places : Places servers (fresh_world k clients servers d b form)
    fresh_places =
        record {
          count = length_map (world.node_at_start k servers d b) (extents.numbers 1 servers) ∙ numbers_length 1 servers;
          few = subst (λ m. m ≤ 16) (sym (length_map (world.fresh_site k servers) (extents.numbers 1 clients) ∙ numbers_length 1 clients)) (leb-true clients 16 (and_true (nat_le 1 clients) _ head.some_clients).1);
          nodes = λ s y i. fresh_nodes k servers d b (extents.numbers 1 servers) y (numbered_has (fresh_world k clients servers d b form).servers s.0 y i);
          told = λ m i. absurd i;
          known = λ c y i. (site c y i).knows;
        }

    none : (ks : List Operation) → ks ≡ [] → (j : ℕ × Ask) → Has j (map key ks) → ⊥
    none [] e j i = absurd i
    none (o ∷ os) e j i = cc e

    apart : (ks : List Operation) → ks ≡ [] → Apart (map key ks)
    apart [] e = tt
    apart (o ∷ os) e = cc e

    fresh_asks : AllAsks [] (fresh_world k clients servers d b form)
    fresh_asks =
        record {
          clients = λ c y i. let z = site c y i in
              record { count = sym z.asks; pending = λ j q. absurd (none y.node.state.operations z.operations j q); apart = apart y.node.state.operations z.operations; unsaid = λ j q. refl };
          later = λ c op l. refl;
        }

step_done : (n : ℕ) (past : List Step) (t : Traced) (e : Event) (sc : WorldTurn) → Stands n past t → ev.world_step t.world e ≡ Ok sc → Done past n (step t e sc)
step_done n past t e sc h q = let z = step_happens t.world e sc q in subst (λ y. Done past n (step t e y)) (sym z.1) (happens_done past n t e z.0 h.fates.lives h.places h.asks)

stands_on : (n : ℕ) (past : List Step) (t : Traced) (e : Event) (sc : WorldTurn) → Stands n past t → ev.world_step t.world e ≡ Ok sc → Stands n (past ++ step t e sc ∷ []) (traced_after e t sc)
stands_on n past t e sc h q = let d = step_done n past t e sc h q in record { fates = fates_law t.world e sc q h.fates; places = d.places; asks = d.asks }

in_every_run : (promise : safety.Promise) → ((past : List Step) (n : ℕ) (x : Step) → Done past n x → promise past x) → InEveryRun promise
in_every_run promise f k clients servers d b form es head =
    throughout promise (Stands servers) (λ past t e sc h q. (f past servers (step t e sc) (step_done servers past t e sc h q), stands_on servers past t e sc h q)) es []
    (traced (fresh_world k clients servers d b form)) (fresh_stands k clients servers d b form head)

pub once_law : InEveryRun AsksAreAnsweredOnce
once_law = in_every_run AsksAreAnsweredOnce answered_once

pub written_law : InEveryRun WrittenIsLogged
written_law = in_every_run WrittenIsLogged (λ past n x d. d.owed.written)

pub places_law : InEveryRun PlacesAfter
places_law = in_every_run PlacesAfter (λ past n x d. places_hold n x.after.world d.places)

pub unused_law : InEveryRun ExpiredLeasesUseNothing
unused_law = in_every_run ExpiredLeasesUseNothing expired_unused
