-- Places and asks in the world: each event keeps them.
use Rattle.st_lemmas.proofs.Words
use Words.{◌≡◌, ℕ, ◌≤◌, ◌<◌, Bool, true, false, ◌||◌, List, [], ◌∷◌, ◌++◌, ◌==◌, Option, Some, None, Ok, Err, refl, sym, ap, ◌∙◌, subst, inl, inr, arith}
use Words.{if◌then◌else◌, ◌⊎◌, filter_map, length, map, option_map, pred, cons_option, list_any, eqb-true, eq-eqb, Config, ClientId, ServerId, Stamp, Ask, Body}
use Words.{Output, ClientInput, Operation, Phase, Session, SentMessage, append-nil}
use Words.nodes
use Words.outputs
use Words.phases
use Words.Client as cl
use Words.ClientLease as lease
use Words.ClientState.{ClientSession, Association, ClientState, client_turn}
use Words.Events as ev
use Words.Events.{WorldTurn}
use Words.Keys.{server_node}
use Words.Server.{ServerNode}
use Words.World as world
use Words.World.{World, WorldClient, site_of, node_of, numbered, with_numbered, clock_of}
use Words.Safety.{Step, answers_in, ask_in, event_of, is_answer_to, is_expired, has_reached, uses_server}
use Words.Lists.{Has}
use Words.Lookups.{some_is}
use Words.Numbers.{numbered_own, numbered_other, numbered_below, set_length}
use Words.Lengths.{map_last}
use Rattle.st_rules.specs.declared.node.StepRefusal.TheVariants.{Crashed}
use Rattle.st_laws_steps.specs.Lives.Lives.{NodeHolds}
use Rattle.st_laws_steps.proofs.Lives.Associations.{own_found}
use Rattle.st_laws_steps.proofs.Client.Losing.{over_is}
use Rattle.st_laws_pages.proofs.Asks.Places.{Knows, OwnBody}
use Rattle.st_laws_pages.proofs.Asks.Client.{Lasting, Usable, Each, is_lost, key}
use Rattle.st_laws_pages.proofs.Asks.Step.{Takes, ToldBy, stepped}
use Rattle.st_laws_pages.proofs.Asks.Server.{ExtentsOwn, Kept}
use Rattle.st_laws_pages.proofs.Asks.Asks.{Pending, Apart, Holds, Here, Asks, answers_op, asks_last, said_below, said_sends}
use Rattle.st_laws_pages.proofs.Asks.Says.{Leaves, Owed, Seen, AllDull, client_leaves, dull_unanswered, said_seen, unused_all}
use Rattle.std.proofs.lemmas.List.Folds.{list_any-append}

-- Places.

-- a message belongs to a client, or tells of the disks of the server that sent it
abbrev pub SentBy : ℕ → ℕ → Body → Type 0
SentBy n from b = (from ≤ 16) ⊎ ((s : ServerId) × (from ≡ server_node s) × OwnBody n s b)

-- a server's pages lie on its own disks, and its kept replies tell nothing else
pub record NodeOwn (n : ℕ) (node : ServerNode) : Type 0 where
  pub extents : ExtentsOwn n node.state.id node.state.stable.extents
  pub kept : (x : Session) → Has x node.state.sessions.rows → Kept n node.state.id x

-- a client knows nothing else
abbrev pub SiteKnows : ℕ → WorldClient → Type 0
SiteKnows n site = (a : Association) → Has a site.node.state.associations → Knows n a.server a.store.extents

pub record Places (n : ℕ) (w : World) : Type 0 where
  pub count : length w.servers ≡ n
  pub few : length w.clients ≤ 16
  pub nodes : (s : ServerId) (node : ServerNode) → node_of w s ≡ Some node → NodeOwn n node
  pub told : (m : SentMessage) → Has m w.net.messages → SentBy n m.message.header.from m.message.body
  pub known : (c : ClientId) (site : WorldClient) → site_of w c ≡ Some site → SiteKnows n site

pub sent_told : (n from : ℕ) (b : Body) → SentBy n from b → ToldBy n from b
sent_told n from b (inl h) s e = absurd (omega (arith, h, e))
sent_told n from b (inr (s, f, o)) t e = subst (λ (z : ServerId). OwnBody n z b) (ap (λ m. record { 0 = m }) (let z : s.0 ≡ t.0 = omega (arith, e, f) in z)) o

-- Asks.

-- what a client was asked in these steps
abbrev pub asks_of : List Step → ClientId → List Ask
asks_of past c = filter_map (ask_in c) (map event_of past)

-- What holds of a client's pending asks after steps.
pub record ClientAsks (past : List Step) (c : ClientId) (site : WorldClient) : Type 0 where
  pub count : length (asks_of past c) ≡ site.asks
  pub pending : (k : ℕ × Ask) → Has k (map key site.node.state.operations) → numbered (asks_of past c) k.0 ≡ Some k.1
  pub apart : Apart (map key site.node.state.operations)
  pub unsaid : (k : ℕ × Ask) → Has k (map key site.node.state.operations) → list_any (answers_in c k.0) past ≡ false

pub record AllAsks (past : List Step) (w : World) : Type 0 where
  pub clients : (c : ClientId) (site : WorldClient) → site_of w c ≡ Some site → ClientAsks past c site
  pub later : (c : ClientId) (op : ℕ) → length (asks_of past c) < op → list_any (answers_in c op) past ≡ false

filter_last : {A B : Type 0} (f : A → Option B) (xs : List A) (y : A) → filter_map f (xs ++ y ∷ []) ≡ filter_map f xs ++ cons_option (f y) []
filter_last f [] y = refl
filter_last {A} {B} f (x ∷ xs) y = go (f x) (filter_last f xs y)
  where
    go : (o : Option B) → filter_map f (xs ++ y ∷ []) ≡ filter_map f xs ++ cons_option (f y) [] → cons_option o (filter_map f (xs ++ y ∷ [])) ≡ cons_option o (filter_map f xs) ++ cons_option (f y) []
    go None e = e
    go (Some v) e = ap (λ z. v ∷ z) e

pub asks_more : (past : List Step) (x : Step) (c : ClientId) → asks_of (past ++ x ∷ []) c ≡ asks_of past c ++ cons_option (ask_in c x.event) []
asks_more past x c = ap (filter_map (ask_in c)) (map_last event_of past x) ∙ filter_last (ask_in c) (map event_of past) (event_of x)

pub asks_same : (past : List Step) (x : Step) (c : ClientId) → ask_in c x.event ≡ None → asks_of (past ++ x ∷ []) c ≡ asks_of past c
asks_same past x c e = asks_more past x c ∙ ap (λ z. asks_of past c ++ cons_option z []) e ∙ append-nil (asks_of past c)

answers_more : (past : List Step) (x : Step) (c : ClientId) (op : ℕ) → list_any (answers_in c op) past ≡ false → list_any (is_answer_to c op) x.seen ≡ false → list_any (answers_in c op) (past ++ x ∷ []) ≡ false
answers_more past x c op a b = list_any-append (answers_in c op) past (x ∷ []) ∙ go _ _ a b
  where
    go : (y z : Bool) → y ≡ false → z ≡ false → (y || (z || false)) ≡ false
    go true z e f = cc
    go false true e f = cc
    go false false e f = refl

-- a client of which nothing happens
other_asks : (past : List Step) (x : Step) (c : ClientId) (site : WorldClient) → ask_in c x.event ≡ None → ((op : ℕ) → list_any (is_answer_to c op) x.seen ≡ false) → ClientAsks past c site → ClientAsks (past ++ x ∷ []) c site
other_asks past x c site e n h =
    record {
      count = ap (λ z. length z) (asks_same past x c e) ∙ h.count;
      pending = λ k i. ap (λ z. numbered z k.0) (asks_same past x c e) ∙ h.pending k i;
      apart = h.apart;
      unsaid = λ k i. answers_more past x c k.0 (h.unsaid k i) (n k.0);
    }

other_later : (past : List Step) (x : Step) (c : ClientId) → ask_in c x.event ≡ None → ((op : ℕ) → list_any (is_answer_to c op) x.seen ≡ false) → ((op : ℕ) → length (asks_of past c) < op → list_any (answers_in c op) past ≡ false) →
    (op : ℕ) → length (asks_of (past ++ x ∷ []) c) < op → list_any (answers_in c op) (past ++ x ∷ []) ≡ false
other_later past x c e n h op l = answers_more past x c op (h op (subst (λ z. length z < op) (asks_same past x c e) l)) (n op)

-- An event that isn't an ask and answers nothing, and leaves the operations and asks of clients, or empties them.
pub record SitesStay (w v : World) : Type 0 where
  pub old : (c : ClientId) (site : WorldClient) → site_of v c ≡ Some site → (before : WorldClient) × (site_of w c ≡ Some before) × (site.asks ≡ before.asks) ×
      ((site.node.state.operations ≡ before.node.state.operations) ⊎ (site.node.state.operations ≡ []))

pub quiet_asks : (past : List Step) (x : Step) (w v : World) → ((c : ClientId) → ask_in c x.event ≡ None) → AllDull x.seen → SitesStay w v → AllAsks past w → AllAsks (past ++ x ∷ []) v
quiet_asks past x w v e d st h =
    record {
      clients = λ c site i. go c site (st.old c site i);
      later = λ c op. other_later past x c (e c) (λ m. dull_unanswered c m x.seen d) (h.later c) op;
    }
  where
    go : (c : ClientId) (site : WorldClient) → (before : WorldClient) × (site_of w c ≡ Some before) × (site.asks ≡ before.asks) × ((site.node.state.operations ≡ before.node.state.operations) ⊎ (site.node.state.operations ≡ [])) → ClientAsks (past ++ x ∷ []) c site
    go c site (before, i, n, inl o) =
        let y = other_asks past x c before (e c) (λ m. dull_unanswered c m x.seen d) (h.clients c before i) in
        record {
          count = y.count ∙ sym n;
          pending = subst (λ (z : List Operation). (k : ℕ × Ask) → Has k (map key z) → numbered (asks_of (past ++ x ∷ []) c) k.0 ≡ Some k.1) (sym o) y.pending;
          apart = subst (λ (z : List Operation). Apart (map key z)) (sym o) y.apart;
          unsaid = subst (λ (z : List Operation). (k : ℕ × Ask) → Has k (map key z) → list_any (answers_in c k.0) (past ++ x ∷ []) ≡ false) (sym o) y.unsaid;
        }
    go c site (before, i, n, inr o) =
        let y = other_asks past x c before (e c) (λ m. dull_unanswered c m x.seen d) (h.clients c before i) in
        record {
          count = y.count ∙ sym n;
          pending = subst (λ (z : List Operation). (k : ℕ × Ask) → Has k (map key z) → numbered (asks_of (past ++ x ∷ []) c) k.0 ≡ Some k.1) (sym o) (λ k j. absurd j);
          apart = subst (λ (z : List Operation). Apart (map key z)) (sym o) tt;
          unsaid = subst (λ (z : List Operation). (k : ℕ × Ask) → Has k (map key z) → list_any (answers_in c k.0) (past ++ x ∷ []) ≡ false) (sym o) (λ k j. absurd j);
        }

-- A step of a client in the world.

-- what the step knows: the client, its asks with the new one, what it takes
pub record ClientStep (past : List Step) (x : Step) (n : ℕ) (w : World) (c : ClientId) (old site : WorldClient) (input : ClientInput) : Type 0 where
  pub there : site_of w c ≡ Some old
  pub same : old.node ≡ site.node
  pub runs : site.node.running ≡ true
  pub tail : Pending
  pub takes : Takes n (Asks c n (λ op. numbered (asks_of (past ++ x ∷ []) c) op) (λ op. list_any (answers_in c op) past) (λ v. is_expired w c v ≡ true) tail)
      (Asks c n (λ op. numbered (asks_of (past ++ x ∷ []) c) op) (λ op. list_any (answers_in c op) past) (λ v. is_expired w c v ≡ true) []) input
  pub begins : Holds c n (λ op. numbered (asks_of (past ++ x ∷ []) c) op) (λ op. list_any (answers_in c op) past) (λ v. is_expired w c v ≡ true) (map key site.node.state.operations ++ tail) []
  pub count : length (asks_of (past ++ x ∷ []) c) ≡ site.asks
  pub other : (d : ClientId) → (c.0 == d.0) ≡ false → ask_in d x.event ≡ None
  pub later : (op : ℕ) → length (asks_of (past ++ x ∷ []) c) < op → list_any (answers_in c op) past ≡ false

-- what it leaves
pub record ClientLeft (past : List Step) (x : Step) (n : ℕ) (w : World) (c : ClientId) (sc : WorldTurn) : Type 0 where
  pub places : Places n sc.world
  pub asks : x.seen ≡ sc.seen → AllAsks (past ++ x ∷ []) sc.world
  pub owed : Owed past x sc.seen
  pub unused : length x.after.world.servers ≡ n → (s : ServerId) → is_expired w c s ≡ true → list_any (uses_server past x s) sc.seen ≡ false

flush_same : (c : ClientId) (s : ClientState) (ss : List ServerId) (w : World) → Leaves [] w (ev.flushes c s ss w)
unfolding ev.flushes
flush_same c s [] w = record { clients = refl; servers = refl; messages = λ m h. inl h }
flush_same c s (y ∷ ss) w = go (in_phase (cl.lease_end_with s y) (cl.phase_with s y (clock_of w (nodes.Client c)))) (flush_same c s ss (ev.flushed_at w c y s))
  where
    under : (o : Option Stamp) → Leaves [] w (ev.flushed_under w c y o)
    under None = record { clients = refl; servers = refl; messages = λ m h. inl h }
    under (Some e) = record { clients = refl; servers = refl; messages = λ m h. inl h }

    in_phase : (o : Option Stamp) (p : Option Phase) → Leaves [] w (ev.flushed_in w c y o p)
    in_phase o (Some phases.Flush) = under o
    in_phase o p = record { clients = refl; servers = refl; messages = λ m h. inl h }

    go : Leaves [] w (ev.flushed_at w c y s) → Leaves [] (ev.flushed_at w c y s) (ev.flushes c s ss (ev.flushed_at w c y s)) → Leaves [] w (ev.flushes c s ss (ev.flushed_at w c y s))
    go a b = record { clients = b.clients ∙ a.clients; servers = b.servers ∙ a.servers; messages = λ m h. at m (b.messages m h) }
      where
        at : (m : SentMessage) → Has m (ev.flushed_at w c y s).net.messages ⊎ Has (outputs.Send m.message) [] → Has m w.net.messages ⊎ Has (outputs.Send m.message) []
        at m (inl h) = a.messages m h
        at m (inr h) = inr h

-- the client of a number after a change of one client
pub site_case : (w : World) (c : ClientId) (old site : WorldClient) (cs : List WorldClient) → site_of w c ≡ Some old → cs ≡ with_numbered c.0 site w.clients → (d : ClientId) (y : WorldClient) → numbered cs d.0 ≡ Some y →
    ((c ≡ d) × (y ≡ site)) ⊎ (((c.0 == d.0) ≡ false) × (site_of w d ≡ Some y))
site_case w c old site cs there e d y i = go (c.0 == d.0) refl
  where
    found : numbered (with_numbered c.0 site w.clients) d.0 ≡ Some y
    found = ap (λ z. numbered z d.0) (sym e) ∙ i

    go : (b : Bool) → (c.0 == d.0) ≡ b → ((c ≡ d) × (y ≡ site)) ⊎ (((c.0 == d.0) ≡ false) × (site_of w d ≡ Some y))
    go true q =
        let m = eqb-true c.0 d.0 q in
        inl (ap (λ z. record { 0 = z }) m, some_is (sym (ap (λ z. numbered (with_numbered c.0 site w.clients) z) m ∙ found) ∙ numbered_own w.clients c.0 site old there))
    go false q = inr (q, sym (numbered_other w.clients c.0 d.0 site (numbered_below w.clients c.0 old there).0 (λ f. no (sym (eq-eqb c.0 d.0 (sym f)) ∙ q))) ∙ found)
      where
        no : ◌≡◌ {A = Bool} true false → ⊥
        no z = cc

pub node_case : (w : World) (s : ServerId) (old node : ServerNode) (ns : List ServerNode) → node_of w s ≡ Some old → ns ≡ with_numbered s.0 node w.servers → (d : ServerId) (y : ServerNode) → numbered ns d.0 ≡ Some y →
    (y ≡ node) ⊎ (node_of w d ≡ Some y)
node_case w s old node ns there e d y i = go (s.0 == d.0) refl
  where
    found : numbered (with_numbered s.0 node w.servers) d.0 ≡ Some y
    found = ap (λ z. numbered z d.0) (sym e) ∙ i

    go : (b : Bool) → (s.0 == d.0) ≡ b → (y ≡ node) ⊎ (node_of w d ≡ Some y)
    go true q = inl (some_is (sym (ap (λ z. numbered (with_numbered s.0 node w.servers) z) (eqb-true s.0 d.0 q) ∙ found) ∙ numbered_own w.servers s.0 node old there))
    go false q = inr (sym (numbered_other w.servers s.0 d.0 node (numbered_below w.servers s.0 old there).0 (λ f. no (sym (eq-eqb s.0 d.0 (sym f)) ∙ q))) ∙ found)
      where
        no : ◌≡◌ {A = Bool} true false → ⊥
        no z = cc

none_numbered : {A : Type 0} (xs : List A) (op : ℕ) → length xs < op → numbered xs op ≡ None
none_numbered {A} xs op l = go (numbered xs op) refl
  where
    go : (o : Option A) → numbered xs op ≡ o → o ≡ None
    go None e = refl
    go (Some v) e = let z = (numbered_below xs op v e).1 in absurd (omega (arith, l, z))

-- a lease end that is reached is of a lease that is over
expired_lost : (k : Config) (now : Stamp) (a : Association) → has_reached now (lease.end_at k (option_map cl.lease_of_session a.session)) ≡ true → is_lost k now a.session ≡ true
expired_lost k now a e = go a.session e
  where
    go : (o : Option ClientSession) → has_reached now (lease.end_at k (option_map cl.lease_of_session o)) ≡ true → is_lost k now o ≡ true
    go None e = cc
    go (Some s) e = over_is k s.lease now ∙ e

module _ (past : List Step) (x : Step) (n : ℕ) (w : World) (c : ClientId) (old site : WorldClient) (input : ClientInput) (z : ClientStep past x n w c old site input) (h : NodeHolds w.config w.clocks w.ended c old.node) (pl : Places n w) (al : AllAsks past w) where
  abbrev answered : ℕ → Bool
  answered op = list_any (answers_in c op) past

  abbrev Gone : ServerId → Type 0
  Gone v = is_expired w c v ≡ true

  abbrev now : Stamp
  now = clock_of w (nodes.Client c)

  abbrev state : ClientState
  state = site.node.state

  abbrev A : Pending → List Operation → List Output → Type 0
  A tail = Asks c n (λ op. numbered (asks_of (past ++ x ∷ []) c) op) answered Gone tail

  node : NodeHolds w.config w.clocks w.ended c site.node
  node = subst (NodeHolds w.config w.clocks w.ended c) z.same h

  usable : (a : Association) → Has a state.associations → Lasting state.config now (Here Gone) a.server a.session a.greeting
  usable a i l v g e = no (expired_lost state.config now a (subst (λ o. has_reached now (lease.end_at state.config (cl.lease_at o)) ≡ true) (own_found state.associations node.once a i) at_site))
    where
      no : is_lost state.config now a.session ≡ true → ⊥
      no q = cc (q, l)

      at_old : has_reached now (cl.lease_end_with old.node.state v) ≡ true
      at_old = subst (λ o. has_reached now (world.present_end w v o) ≡ true) z.there g

      at_site : has_reached now (cl.lease_end_with state a.server) ≡ true
      at_site = subst (λ (y : ServerId). has_reached now (cl.lease_end_with state y) ≡ true) (sym e) (subst (λ (m : cl.ClientNode). has_reached now (cl.lease_end_with m.state v) ≡ true) z.same at_old)

  knows : SiteKnows n site
  knows = subst (λ (m : cl.ClientNode). (a : Association) → Has a m.state.associations → Knows n a.server a.store.extents) z.same (pl.known c old z.there)

  begun : Each n (Here Gone) c state.config (A z.tail) (asks_last c n _ answered Gone z.tail) (Lasting state.config now (Here Gone)) (client_turn state [])
  begun = record { id = node.id; config = refl; done = z.begins; own = knows; cond = usable }

  abbrev t : cl.NodeTurn
  t = cl.node_turn site.node (cl.client_step state now input)

  abbrev v0 : World
  v0 = ev.with_site c (ev.at_node t.node site) w

  abbrev says : WorldTurn
  says = ev.client_says_all c state t.out (ev.quiet v0)

  abbrev v : World
  v = ev.flushes c t.node.state (world.all_servers says.world) says.world

  ends : Each n (Here Gone) c state.config (A []) (asks_last c n _ answered Gone []) (Usable (Here Gone)) (cl.client_step state now input)
  ends = stepped n (Here Gone) c state.config (A z.tail) (A []) (asks_last c n _ answered Gone z.tail) (asks_last c n _ answered Gone []) state now input node.once z.takes begun

  abbrev ops : List Operation
  ops = (cl.client_step state now input).state.operations

  holds : Holds c n (λ op. numbered (asks_of (past ++ x ∷ []) c) op) answered Gone (map key ops) t.out
  holds = subst (λ ks. Holds c n (λ op. numbered (asks_of (past ++ x ∷ []) c) op) answered Gone ks t.out) (append-nil (map key ops)) ends.done

  left : Leaves t.out v0 says.world
  left = client_leaves c state t.out (ev.quiet v0)

  flushed : Leaves [] says.world v
  flushed = flush_same c t.node.state (world.all_servers says.world) says.world

  clients : v.clients ≡ with_numbered c.0 (ev.at_node t.node site) w.clients
  clients = flushed.clients ∙ left.clients

  servers : v.servers ≡ w.servers
  servers = flushed.servers ∙ left.servers

  small : c.0 ≤ 16
  small = let a = (numbered_below w.clients c.0 old z.there).1 in let b = pl.few in omega (arith, a, b)

  told : (m : SentMessage) → Has m v.net.messages → SentBy n m.message.header.from m.message.body
  told m i = front (flushed.messages m i)
    where
      back : Has m w.net.messages ⊎ Has (outputs.Send m.message) t.out → SentBy n m.message.header.from m.message.body
      back (inl j) = pl.told m j
      back (inr j) = let e = said_sends c (λ op. numbered (asks_of (past ++ x ∷ []) c) op) answered t.out holds.said m.message j in let b = small in inl (omega (arith, e, b))

      front : Has m says.world.net.messages ⊎ Has (outputs.Send m.message) [] → SentBy n m.message.header.from m.message.body
      front (inl j) = back (left.messages m j)
      front (inr j) = absurd j

  places : Places n v
  places =
      record {
        count = ap (λ (y : List ServerNode). length y) servers ∙ pl.count;
        few = subst (λ y. y ≤ 16) (sym (ap (λ (y : List WorldClient). length y) clients ∙ set_length w.clients (pred c.0) (ev.at_node t.node site))) pl.few;
        nodes = λ s y i. pl.nodes s y (sym (ap (λ (z : List ServerNode). numbered z s.0) servers) ∙ i);
        told = told;
        known = λ d y i. known d y (site_case w c old (ev.at_node t.node site) v.clients z.there clients d y i);
      }
    where
      known : (d : ClientId) (y : WorldClient) → ((c ≡ d) × (y ≡ ev.at_node t.node site)) ⊎ (((c.0 == d.0) ≡ false) × (site_of w d ≡ Some y)) → SiteKnows n y
      known d y (inl (e, f)) = subst (SiteKnows n) (sym f) ends.own
      known d y (inr (e, f)) = pl.known d y f

  seen : Seen past x c t.out says.seen
  seen = said_seen past x c state t.out v0 holds.said

  all : x.seen ≡ says.seen → AllAsks (past ++ x ∷ []) v
  all same =
      record {
        clients = λ d y i. one d y (site_case w c old (ev.at_node t.node site) v.clients z.there clients d y i);
        later = λ d op l. later d op l (c.0 == d.0) refl;
      }
    where
      own : (op : ℕ) → list_any (is_answer_to c op) x.seen ≡ list_any (answers_op op) t.out
      own op = ap (λ os. list_any (is_answer_to c op) os) same ∙ seen.own op

      others : (d : ClientId) (op : ℕ) → (c.0 == d.0) ≡ false → list_any (is_answer_to d op) x.seen ≡ false
      others d op q = ap (λ os. list_any (is_answer_to d op) os) same ∙ seen.others d op q

      mine : ClientAsks (past ++ x ∷ []) c (ev.at_node t.node site)
      mine =
          record {
            count = z.count;
            pending = holds.pending;
            apart = holds.apart;
            unsaid = λ k i. answers_more past x c k.0 (holds.unsaid k i).0 (own k.0 ∙ (holds.unsaid k i).1);
          }

      one : (d : ClientId) (y : WorldClient) → ((c ≡ d) × (y ≡ ev.at_node t.node site)) ⊎ (((c.0 == d.0) ≡ false) × (site_of w d ≡ Some y)) → ClientAsks (past ++ x ∷ []) d y
      one d y (inl (e, f)) = subst (λ d. ClientAsks (past ++ x ∷ []) d y) e (subst (ClientAsks (past ++ x ∷ []) c) (sym f) mine)
      one d y (inr (e, f)) = other_asks past x d y (z.other d e) (λ op. others d op e) (al.clients d y f)

      later : (d : ClientId) (op : ℕ) → length (asks_of (past ++ x ∷ []) d) < op → (b : Bool) → (c.0 == d.0) ≡ b → list_any (answers_in d op) (past ++ x ∷ []) ≡ false
      later d op l false e = other_later past x d (z.other d e) (λ m. others d m e) (al.later d) op l
      later d op l true e = subst (λ (y : ClientId). list_any (answers_in y op) (past ++ x ∷ []) ≡ false) (is e)
          (answers_more past x c op (z.later op (here l)) (own op ∙ said_below c (λ op. numbered (asks_of (past ++ x ∷ []) c) op) answered op t.out (none_numbered (asks_of (past ++ x ∷ []) c) op (here l)) holds.said))
        where
          is : (c.0 == d.0) ≡ true → c ≡ d
          is q = ap (λ m. record { 0 = m }) (eqb-true c.0 d.0 q)

          here : length (asks_of (past ++ x ∷ []) d) < op → length (asks_of (past ++ x ∷ []) c) < op
          here = subst (λ (y : ClientId). length (asks_of (past ++ x ∷ []) y) < op) (sym (is e))

  took : ClientLeft past x n w c (ev.world_turn v says.seen)
  took =
      record {
        places = places;
        asks = all;
        owed = seen.owed;
        unused = λ e s g. unused_all past x c state n s t.out (ev.quiet v0) e (λ o i. holds.unused o i s g) refl;
      }

  pub client_step_left : ClientLeft past x n w c (ev.client_takes w c input site)
  unfolding ev.client_takes ev.client_took cl.node_step
  client_step_left = go site.node.running z.runs
    where
      go : (b : Bool) → b ≡ true → ClientLeft past x n w c (ev.client_took w c site (if b then Ok t else Err Crashed))
      go true e = took
      go false e = cc
