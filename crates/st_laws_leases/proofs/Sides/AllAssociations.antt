-- The invariant of all servers and clients of a world holds again after every event, and the path of each server goes on.
use Rattle.st_lemmas.proofs.Words
use Words.{◌≡◌, ◌≢◌, ℕ, ◌+◌, ◌≤◌, ◌⊎◌, true, false, ◌==◌, List, [], Option, Some, None, Ok, refl, sym, ap, ◌∙◌, subst, inl, inr, arith}
use Words.{length, slice_index, get_or, pred, nat_le, eqb-true, leb-true, ClientId, Life, NodeId, ServerId, Stamp, Event, Message, Output}
use Words.{ServerInput, LeaseLife, SentMessage}
use Words.nodes
use Words.events
use Words.outputs
use Words.serving.{Tick, Control}
use Words.Admissible as admissible
use Words.Events as ev
use Words.Events.{WorldTurn, counted, happens, quiet, with_node, server_says_all, server_takes, world_step}
use Words.Keys.{server_node}
use Words.Server as sv
use Words.Server.{ServerNode, crash_node, start_node, is_client_node}
use Words.World.{World, WorldClient, clock_of, ended_of, is_life_of, is_running, message_of, node_of, node_runs, numbered, receiver_of, server, site_of}
use Words.World.{with_numbered}
use Words.Lists.{Has}
use Words.Lookups.{some_is}
use Words.Numbers.{numbered_below, numbered_other, numbered_own, set_length}
use Words.Tables.{and_true, found_at, same_or_not, not_false}
use Words.Lengths.{numbered_there}
use Words.Truth.{none_not_some, or_first}
use Words.Worlds.{stands_not}
use Rattle.st_base.specs.declared.config.Config as base
use Rattle.st_protocol.specs.Assoc.{Config, In, Msg}
use Rattle.st_lemmas.proofs.Steps.{step_happens}
use Rattle.st_laws_refine.specs.Views.Halves.{Ghost}
use Rattle.st_laws_refine.proofs.Views.Moves.{Grows}
use Rattle.st_laws_pages.specs.Disks.Obligations.{FatesHold}
use Rattle.st_laws_pages.proofs.Disks.Steps.{fates_law}
use Rattle.st_laws_refine.proofs.Client.Goes.{kept_any}
use Rattle.st_laws_refine.specs.Server.Edits.{WishInput}
use Rattle.st_laws_refine.specs.Server.Law.{started_ghosts}
use Rattle.st_laws_refine.specs.Server.Pair.{EndedBy, Timed, terms_of, drift_between, life_now}
use Rattle.st_laws_refine.specs.Server.Invariants.{Settings, Stands}
use Rattle.st_laws_refine.proofs.Server.Calm.{calm_crash, calm_start}
use Rattle.st_laws_refine.proofs.Server.Counts.{all_bytes, few_crash, few_more, few_start}
use Rattle.st_laws_refine.proofs.Server.Delivery.{SameParts, all_messages, all_parts, delivery_is, message_has, not_client, takes_is, tick_is, to_server}
use Rattle.st_laws_refine.proofs.Server.Fold.{crash_is, start_is, crash_leads, start_leads}
use Rattle.st_laws_refine.proofs.Server.Laws.{crashes_keep, starts_keep}
use Rattle.st_laws_refine.proofs.Server.Outputs.{all_has, step_outs}
use Rattle.st_laws_refine.proofs.Server.Runs.{SteppedLate, delivered, ticked, wish_of}
use Rattle.st_laws_leases.specs.Sides.Law.{ClientEvent}
use Rattle.st_laws_leases.specs.Sides.Law.ClientEvent.{ByTick, ByAsk, ByMessage, ByReport, ByCrash, ByStart, ByLoss, ByCut, ByHeal, ByEffect}
use Rattle.st_laws_leases.specs.Sides.Invariants.{AllPast, Standing, Both, GrantsHaveModes, Left, Unseen}
use Rattle.st_laws_leases.specs.Sides.World.{AllStand, IsFull, ServerStands, There}
use Rattle.st_laws_leases.proofs.Sides.Clients.{fine_from}
use Rattle.st_laws_leases.proofs.Sides.Fold.{facts_hold_along_a_run, second_none, same_leads}
use Rattle.st_laws_leases.proofs.Sides.OtherServers.{unseen}
use Rattle.st_protocol.specs.Assoc as net
use Rattle.st_laws_refine.proofs.Server.Advances.{advances_stand}
use Rattle.st_laws_refine.specs.Server.Paths.{Here}
use Rattle.st_laws_leases.specs.Sides.Paths.{ClientPath, Led, LedServer}

-- the same number of items, so the same numbers have one
numbered_too : {A B : Type 0} (xs : List A) (ys : List B) (n : ℕ) (x : A) → length ys ≡ length xs → numbered xs n ≡ Some x → (y : B) × (numbered ys n ≡ Some y)
numbered_too xs ys n x l e = let z = numbered_below xs n x e in numbered_there ys n z.0 (omega (arith, l, z.1))

none_too : {A B : Type 0} (xs : List A) (ys : List B) (n : ℕ) → length ys ≡ length xs → numbered xs n ≡ None → numbered ys n ≡ None
none_too {A} {B} xs ys n l e = go (numbered ys n) refl
  where
    clash : (y : A) → numbered xs n ≡ Some y → ⊥
    clash y f = no (sym e ∙ f)
      where
        no : ◌≡◌ {A = Option A} None (Some y) → ⊥
        no z = cc

    go : (o : Option B) → numbered ys n ≡ o → o ≡ None
    go None f = refl
    go (Some y) f = let z = numbered_too ys xs n y (sym l) f in absurd (clash z.0 z.1)

-- The clocks' invariant holds if nothing of them is changed.
pub timed_on : (k : Config) (s : ℕ) (w v : World) (G H : ℕ → Ghost) → Timed k s w G → v.config ≡ w.config → v.drift ≡ w.drift → v.clocks ≡ w.clocks →
    length v.clients ≡ length w.clients → length v.servers ≡ length w.servers → ((c : ℕ) → (H c).drift ≡ (G c).drift) → Timed k s v H
timed_on k s w v G H t config drift clocks many servers same =
    record {
      terms = t.terms ∙ (λ j. terms_of (sym config j));
      tall = (λ j. length (drift j)) ∙ t.tall ∙ (λ j. length (sym clocks j));
      wide = λ m l. (λ j. length (get_or (drift j) m [])) ∙ t.wide m (let c = ap (λ xs. length xs) clocks in omega arith) ∙ (λ j. length (sym clocks j));
      count = (λ j. length (clocks j)) ∙ t.count ∙ (λ j. sym many j + sym servers j);
      known = λ c site e. let z = numbered_too v.clients w.clients c site (sym many) e in same c ∙ t.known c z.0 z.1 ∙ sym (between c);
      idle = λ c e. same c ∙ t.idle c (none_too v.clients w.clients c (sym many) e);
    }
  where
    between : (c : ℕ) → drift_between v c s ≡ drift_between w c s
    between c = λ j. slice_index (get_or (drift j) (pred (many j + s)) []) (pred c)

-- a client's invariant holds if its site and the lives that are over are as they were, and messages were only added
standing_on : (k : Config) (s c : ℕ) (site : WorldClient) (es fs : List LeaseLife) (N M : List Msg) → fs ≡ es → Grows N M → Standing k s c site es N → Standing k s c site fs M
standing_on k s c site es fs N M e g q =
    record {
      association = q.association;
      sim = record { id_ = q.sim.id_; terms = q.sim.terms; place = q.sim.place; born = q.sim.born; kept = kept_any q.association.life.0 q.association.store q.association.session N M g q.sim.kept };
      past = subst (AllPast c s (life_now site.node.running q.association)) (sym e) q.past;
      stopped = q.stopped;
    }

-- both sides hold if the server's side does, and the clients are as they were
both_on : (k : Config) (s : ℕ) (w v : World) (node next : ServerNode) (ended : ℕ → ℕ → ℕ) (G H : ℕ → Ghost) → v.clients ≡ w.clients → v.ended ≡ w.ended →
    ((c : ℕ) → Grows (G c).net (H c).net) → Both k s w node ended G → Stands k s ended v next H → Both k s v next ended H
both_on k s w v node next ended G H clients over grows b st =
    record {
      stands = st;
      clients = λ c site e. standing_on k s c site w.ended v.ended (G c).net (H c).net over (grows c) (b.clients c site (ap (λ xs. numbered xs c) (sym clients) ∙ e));
      ends = λ c. subst (EndedBy c s (ended c)) (sym over) (b.ends c);
      few = let f = b.few in let l = ap (λ (xs : List WorldClient). length xs) clients in omega arith;
    }

pub running_node : (o : Option ServerNode) → node_runs o ≡ true → (node : ServerNode) × (o ≡ Some node) × (node.running ≡ true)
running_node None e = cc
running_node (Some node) e = (node, refl, e)

-- a message that is delivered is there
pub message_there : (w : World) (n : ℕ) → message_of w n ≡ None → admissible.refusal w (events.Deliver n) ≡ None → ⊥
unfolding admissible.refusal admissible.refused_delivery
message_there w n e r = no (sym (ap (admissible.refused_delivery w n) e) ∙ r)
  where
    no : {A : Type 0} {x : A} → ◌≡◌ {A = Option A} (Some x) None → ⊥
    no e = cc

module _ (k : Config) (count : ℕ) (w : World) (a : AllStand k count w) where
  -- each grant has a mode
  modes : GrantsHaveModes w
  modes m h x e =
      let t = a.senders m h x e in
      let z = a.servers x.0 t.node t.is in
      fine_from k x.0 w t.node z.ended z.ghosts m.message.header.to m a.sound z.both h e refl

  -- the settings are those of each client, and no life has ended of a number that isn't a client
  pub settings : Settings k w
  settings =
      record {
        lease = λ c site e. ap (λ (kb : base.Config). kb.lease) (a.fates.lives.lives.sites c site e).config ∙ sym (ap (λ (z : Config). z.lease) a.terms);
        ended = λ c s life e. go c s life e (ended_of w c s life) refl;
      }
    where
      go : (c : ClientId) (s : ServerId) (life : Life) → site_of w c ≡ None → (o : Option LeaseLife) → ended_of w c s life ≡ o → o ≡ None
      go c s life e None f = refl
      go c s life e (Some x) f =
          let z = found_at (is_life_of c s life) w.ended x f in
          let y = a.fates.lives.lives.ends x z.1 in
          absurd (none_not_some y.site (sym e ∙ ap (numbered w.clients) (sym (eqb-true x.client.0 c.0 (and_true (x.client.0 == c.0) _ z.0).0)) ∙ y.there))

  pub positive : (s : ℕ) (node : ServerNode) → node_of w (server s) ≡ Some node → 1 ≤ s
  positive s node e = (numbered_below w.servers s node e).0

module _ (k : Config) (count : ℕ) (H : ℕ → net.World → Type 0) (w : World) (a : AllStand k count w) (o : (s : ℕ) (node : ServerNode) → node_of w (server s) ≡ Some node → LedServer k w s node (H s)) where
  -- what must hold after an event
  abbrev After : World → Type 0
  After v = Led k count v H

  -- An event of a client, or one that no node takes part in.
  by_client : (e : Event) → ClientEvent w e → world_step w e ≡ Ok (happens (counted w) e) → FatesHold (happens (counted w) e).world → After (happens (counted w) e).world
  by_client e kind taken lives =
      record {
        all = record {
          terms = a.terms ∙ (λ j. terms_of (sym left.config j));
          sound = a.sound;
          waits = a.waits;
          fates = lives;
          clocks = (λ j. length (left.clocks j)) ∙ a.clocks ∙ (λ j. sym left.many j + length (sym left.servers j));
          nodes = (λ j. length (left.clocks j)) ∙ a.nodes;
          first = there (server 1) a.first;
          senders = λ m h x f. sender m x f (left.messages m h);
          servers = λ s node f. (each s node f).stands;
        };
        servers = each;
      }
    where
      v : World
      v = (happens (counted w) e).world

      after : (s : ℕ) (node : ServerNode) (z : ServerStands k w s node) → ClientPath k s w v node z.ended z.ghosts
      after s node z = facts_hold_along_a_run k s w node z.ended z.ghosts e (happens (counted w) e) z.both (modes k count w a) kind taken

      left : Left w v
      left = (after 1 a.first.node (a.servers 1 a.first.node a.first.is)).left

      there : (s : ServerId) → There w s → There v s
      there s t = record { node = t.node; is = ap (λ xs. numbered xs s.0) left.servers ∙ t.is }

      sender : (m : SentMessage) (x : ServerId) → m.message.header.from ≡ server_node x → ((y : SentMessage) × Has y w.net.messages × (y.message ≡ m.message)) ⊎ (m.message.header.from ≤ 16) → There v x
      sender m x f (inl z) = there x (a.senders z.0 z.1 x (ap (λ (q : Message). q.header.from) z.2 ∙ f))
      sender m x f (inr l) = absurd (omega (arith, f))

      one : (s : ℕ) (node : ServerNode) → node_of w (server s) ≡ Some node → LedServer k v s node (H s)
      one s node f =
          let q = o s node f in
          let z = q.stands in
          let b = after s node z in
          record {
            stands = record {
              ended = b.ends_of;
              ghosts = b.ghosts;
              both = b.both;
              timed = timed_on k s w v z.ghosts b.ghosts z.timed left.config left.drift left.clocks left.many (λ j. length (left.servers j)) b.drift;
              calm = z.calm;
              few = few_more w.net.bytes v.net.bytes node.state left.bytes z.few;
            };
            from = q.from;
            is = q.is;
            path = b.keeps q.from q.path;
          }

      each : (s : ℕ) (node : ServerNode) → node_of v (server s) ≡ Some node → LedServer k v s node (H s)
      each s node f = one s node (ap (λ xs. numbered xs s) (sym left.servers) ∙ f)

  -- A server that is replaced, or takes a step.
  pub record ServerEvent (t : ℕ) (v : World) : Type 0 where
    pub node : ServerNode
    pub next : ServerNode
    pub there : node_of w (server t) ≡ Some node
    pub servers : v.servers ≡ with_numbered t next w.servers
    pub clients : v.clients ≡ w.clients
    pub ended : v.ended ≡ w.ended
    pub config : v.config ≡ w.config
    pub clocks : v.clocks ≡ w.clocks
    pub drift : v.drift ≡ w.drift
    pub bytes : w.net.bytes ≤ v.net.bytes
    pub messages : (m : SentMessage) → Has m v.net.messages → Has m w.net.messages ⊎ (m.message.header.from ≡ 32768 + t)
    pub own : LedServer k v t next (H t)

  by_server : (t : ℕ) (v : World) → FatesHold v → ServerEvent t v → After v
  by_server t v lives q =
      record {
        all = record {
          terms = a.terms ∙ (λ j. terms_of (sym q.config j));
          sound = a.sound;
          waits = a.waits;
          fates = lives;
          clocks = (λ j. length (q.clocks j)) ∙ a.clocks ∙ (λ j. length (sym q.clients j) + sym many j);
          nodes = (λ j. length (q.clocks j)) ∙ a.nodes;
          first = there (server 1) a.first;
          senders = λ m h x f. sender m x f (q.messages m h);
          servers = λ s node f. (each s node f (same_or_not s t)).stands;
        };
        servers = λ s node f. each s node f (same_or_not s t);
      }
    where
      pos : 1 ≤ t
      pos = positive k count w a t q.node q.there

      many : length v.servers ≡ length w.servers
      many = (λ j. length (q.servers j)) ∙ set_length w.servers (pred t) q.next

      here : node_of v (server t) ≡ Some q.next
      here = ap (λ xs. numbered xs t) q.servers ∙ numbered_own w.servers t q.next q.node q.there

      other : (s : ℕ) → s ≢ t → node_of v (server s) ≡ node_of w (server s)
      other s n = ap (λ xs. numbered xs s) q.servers ∙ numbered_other w.servers t s q.next pos n

      there : (s : ServerId) → There w s → There v s
      there s z = go (same_or_not s.0 t)
        where
          go : (s.0 ≡ t) ⊎ (s.0 ≢ t) → There v s
          go (inl e) = record { node = q.next; is = ap (numbered v.servers) e ∙ here }
          go (inr n) = record { node = z.node; is = other s.0 n ∙ z.is }

      sender : (m : SentMessage) (x : ServerId) → m.message.header.from ≡ server_node x → Has m w.net.messages ⊎ (m.message.header.from ≡ 32768 + t) → There v x
      sender m x f (inl h) = there x (a.senders m h x f)
      sender m x f (inr e) = record { node = q.next; is = ap (numbered v.servers) (let z : x.0 ≡ t = omega (arith, e, f) in z) ∙ here }

      not_seen : (s : ℕ) → s ≢ t → Unseen s w v
      not_seen s n =
          record {
            clients = q.clients;
            clocks = q.clocks;
            ended = q.ended;
            config = q.config;
            found = other s n;
            messages = λ m h. new m (q.messages m h);
          }
        where
          new : (m : SentMessage) → Has m w.net.messages ⊎ (m.message.header.from ≡ 32768 + t) →
              ((x : SentMessage) × Has x w.net.messages × (x.message ≡ m.message)) ⊎ ((m.message.header.from ≢ 32768 + s) × (is_client_node m.message.header.from ≡ true → ⊥))
          new m (inl h) = inl (m, h, refl)
          new m (inr e) = inr (λ f. n (omega (arith, e, f)), not_client m.message.header.from t e)

      each : (s : ℕ) (node : ServerNode) → node_of v (server s) ≡ Some node → (s ≡ t) ⊎ (s ≢ t) → LedServer k v s node (H s)
      each s node f (inl e) =
          subst (λ (n : ServerNode). LedServer k v s n (H s)) (some_is (sym here ∙ ap (numbered v.servers) (sym e) ∙ f))
          (subst (λ n. LedServer k v n q.next (H n)) (sym e) q.own)
      each s node f (inr n) =
          let y = o s node (sym (other s n) ∙ f) in
          let z = y.stands in
          record {
            stands = record {
              ended = z.ended;
              ghosts = z.ghosts;
              both = unseen k s w v node z.ended z.ghosts (not_seen s n) z.both;
              timed = timed_on k s w v z.ghosts z.ghosts z.timed q.config q.drift q.clocks (λ j. length (q.clients j)) many (λ c. refl);
              calm = z.calm;
              few = few_more w.net.bytes v.net.bytes node.state q.bytes z.few;
            };
            path = same_leads k s node z.ended z.ghosts w v (not_seen s n) y.from y.path;
            from = y.from;
            is = y.is;
          }

  -- a step of a server in the world
  stepped : (t : ℕ) (i : ServerInput) (node : ServerNode) (sc : WorldTurn) (y : LedServer k w t node (H t)) → node_of w (server t) ≡ Some node → node.running ≡ true → WishInput i →
      sc ≡ server_takes (counted w) (server t) i node → SteppedLate k t y.stands.ended w sc node y.stands.ghosts → ServerEvent t sc.world
  stepped t i node sc y at runs wish is l =
      record {
        node = node;
        next = l.node2;
        there = at;
        servers = parts.servers ∙ ap (λ (n : ServerNode). with_numbered t n w.servers) (sym same);
        clients = l.step.parts.clients;
        ended = l.step.parts.ended;
        config = l.step.parts.config;
        clocks = l.step.parts.clocks;
        drift = l.step.parts.drift;
        bytes = bytes;
        messages = λ m h. new m (all_messages (server t) out (quiet w1) m (subst (λ (x : WorldTurn). Has m x.world.net.messages) says h));
        own =
            record {
              stands = record {
                ended = z.ended;
                ghosts = l.step.ghosts;
                both = both_on k t w sc.world node l.node2 z.ended z.ghosts l.step.ghosts l.step.parts.clients l.step.parts.ended l.step.grows z.both l.step.stands;
                timed = timed_on k t w sc.world z.ghosts l.step.ghosts z.timed l.step.parts.config l.step.parts.drift l.step.parts.clocks (λ j. length (l.step.parts.clients j)) many l.step.drift;
                calm = l.calm z.calm;
                few = l.few z.few;
              };
              from = y.from;
              is = y.is;
              path = l.step.keeps y.from y.path;
            };
      }
    where
      z : ServerStands k w t node
      z = y.stands

      out : List Output
      out = (sv.server_step node.state (clock_of (counted w) (nodes.Server (server t))) i).out

      later : ServerNode
      later = record node { state = (sv.server_step node.state (clock_of (counted w) (nodes.Server (server t))) i).state }

      w1 : World
      w1 = with_node (server t) later (counted w)

      says : sc ≡ server_says_all (server t) out (quiet w1)
      says = is ∙ takes_is (counted w) (server t) i node runs

      parts : SameParts w1 sc.world
      parts = subst (λ (x : WorldTurn). SameParts w1 x.world) (sym says) (all_parts (server t) out (quiet w1))

      same : l.node2 ≡ later
      same = some_is (sym (l.step.stands.served 0).found ∙ ap (λ xs. numbered xs t) parts.servers ∙ numbered_own w.servers t later node at)

      many : length sc.world.servers ≡ length w.servers
      many = (λ j. length (parts.servers j)) ∙ set_length w.servers (pred t) later

      bytes : w.net.bytes ≤ sc.world.net.bytes
      bytes = subst (λ (x : WorldTurn). w.net.bytes ≤ x.world.net.bytes) (sym says) (let b = all_bytes (server t) out (quiet w1) in omega arith)

      from : (m : Message) → Has (outputs.Send m) out → m.header.from ≡ 32768 + t
      from m h =
          all_has t (λ c l. Unit {0}) out (outputs.Send m)
          (step_outs t node.state.config (λ c l. Unit {0}) node.state (clock_of (counted w) (nodes.Server (server t))) i wish (z.both.stands.served 0).id refl (λ c h l. tt)).all h

      new : (m : SentMessage) → Has m w.net.messages ⊎ Has (outputs.Send m.message) out → Has m w.net.messages ⊎ (m.message.header.from ≡ 32768 + t)
      new m (inl h) = inl h
      new m (inr h) = inr (from m.message h)

  -- a tick of a server
  server_ticks : (t : ℕ) (sc : WorldTurn) → FatesHold sc.world → admissible.refusal w (events.Tick (nodes.Server (server t))) ≡ None → sc ≡ happens (counted w) (events.Tick (nodes.Server (server t))) →
      world_step w (events.Tick (nodes.Server (server t))) ≡ Ok sc → After sc.world
  unfolding admissible.refusal
  server_ticks t sc lives r is e =
      let n = running_node (node_of w (server t)) (not_false _ (stands_not _ _ (or_first _ _ (second_none _ _ r)))) in
      let y = o t n.0 n.1 in
      let z = y.stands in
      by_server t sc.world lives
      (stepped t Tick n.0 sc y n.1 n.2 tt (is ∙ tick_is k 0 t (z.ended 0) w n.0 n.1)
      (ticked k t z.ended w sc n.0 z.ghosts a.sound n.2 (settings k count w a) z.both.ends e z.both.stands))

  -- a message that is delivered to a server
  server_receives : (n t : ℕ) (m : SentMessage) (sc : WorldTurn) → FatesHold sc.world → admissible.refusal w (events.Deliver n) ≡ None → message_of w n ≡ Some m → receiver_of m ≡ nodes.Server (server t) → sc ≡ happens (counted w) (events.Deliver n) →
      world_step w (events.Deliver n) ≡ Ok sc → After sc.world
  unfolding admissible.refusal admissible.refused_delivery
  server_receives n t m sc lives r em er is e =
      let q = subst (λ o. admissible.refused_delivery w n o ≡ None) em r in
      let runs = not_false _ (stands_not _ _ (or_first _ _ (second_none _ _ (second_none _ _ q)))) in
      let y = running_node (node_of w (server t)) (ap (is_running w) (sym er) ∙ runs) in
      let q2 = o t y.0 y.1 in
      let z = q2.stands in
      by_server t sc.world lives
      (stepped t (Control m.message) y.0 sc q2 y.1 y.2 (λ f. wish_of m.message.body (((z.both.stands.served m.message.header.from).wires m (message_has w n m em)).to_server (to_server m.message.header.to t (positive k count w a t y.0 y.1) er) f refl).wishes)
      (is ∙ delivery_is k 0 t (z.ended 0) w n m y.0 em er y.1)
      (delivered k t z.ended w n m sc y.0 z.ghosts a.sound (positive k count w a t y.0 y.1) y.2 (settings k count w a) z.both.ends e em er z.both.stands))

  -- a server that is put in its place: nothing else is changed
  placed : (t : ℕ) (node next : ServerNode) → node_of w (server t) ≡ Some node → LedServer k (with_node (server t) next (counted w)) t next (H t) → ServerEvent t (with_node (server t) next (counted w))
  placed t node next at own =
      record {
        node = node;
        next = next;
        there = at;
        servers = refl;
        clients = refl;
        ended = refl;
        config = refl;
        clocks = refl;
        drift = refl;
        bytes = omega arith;
        messages = λ m h. inl h;
        own = own;
      }

  many_placed : (t : ℕ) (next : ServerNode) → length (with_numbered t next w.servers) ≡ length w.servers
  many_placed t next = set_length w.servers (pred t) next

  server_stops : (t : ℕ) (sc : WorldTurn) → FatesHold sc.world → admissible.refusal w (events.Crash (nodes.Server (server t))) ≡ None → sc ≡ happens (counted w) (events.Crash (nodes.Server (server t))) →
      world_step w (events.Crash (nodes.Server (server t))) ≡ Ok sc → After sc.world
  unfolding admissible.refusal
  server_stops t sc lives r is e = go (running_node (node_of w (server t)) (not_false _ (stands_not _ _ (second_none _ _ r))))
    where
      go : (node : ServerNode) × (node_of w (server t) ≡ Some node) × (node.running ≡ true) → After sc.world
      go (node, at, runs) =
          let y = o t node at in
          let z = y.stands in
          let now : sc ≡ quiet (with_node (server t) (crash_node node) (counted w)) = is ∙ crash_is w t node at in
          let st : Stands k t z.ended sc.world (crash_node node) z.ghosts = crashes_keep k t z.ended w sc node z.ghosts runs z.few e z.both.stands in
          let v : World = with_node (server t) (crash_node node) (counted w) in
          subst (λ (x : WorldTurn). After x.world) (sym now)
          (by_server t v (subst (λ (x : WorldTurn). FatesHold x.world) now lives)
          (placed t node (crash_node node) at
          (record {
            stands = record {
              ended = z.ended;
              ghosts = z.ghosts;
              both = both_on k t w v node (crash_node node) z.ended z.ghosts z.ghosts refl refl (λ c m i. i) z.both (subst (λ (x : WorldTurn). Stands k t z.ended x.world (crash_node node) z.ghosts) now st);
              timed = timed_on k t w v z.ghosts z.ghosts z.timed refl refl refl refl (many_placed t (crash_node node)) (λ c. refl);
              calm = calm_crash node.state;
              few = few_crash w.net.bytes node.state;
            };
            path = crash_leads k t z.ended w node z.ghosts a.sound runs z.both.stands y.from y.path;
            from = y.from;
            is = y.is;
          })))

  server_starts : (t : ℕ) (sc : WorldTurn) → FatesHold sc.world → admissible.refusal w (events.Start (nodes.Server (server t))) ≡ None → sc ≡ happens (counted w) (events.Start (nodes.Server (server t))) →
      world_step w (events.Start (nodes.Server (server t))) ≡ Ok sc → After sc.world
  unfolding admissible.refusal
  server_starts t sc lives r is e =
      let known = not_false _ (stands_not _ _ (or_first _ _ r)) in
      let y = and_true (nat_le 1 t) (nat_le t (length w.servers)) known in
      let n = numbered_there w.servers t (leb-true 1 t y.0) (leb-true t (length w.servers) y.1) in
      go n.0 n.1 (stands_not _ _ (second_none _ _ r))
    where
      go : (node : ServerNode) → node_of w (server t) ≡ Some node → is_running w (nodes.Server (server t)) ≡ false → After sc.world
      go node at off =
          let y = o t node at in
          let z = y.stands in
          let now_ : Stamp = clock_of w (nodes.Server (server t)) in
          let next : ServerNode = start_node node now_ in
          let now : sc ≡ quiet (with_node (server t) next (counted w)) = is ∙ start_is w t node at in
          let down : node.running ≡ false = ap node_runs (sym at) ∙ off in
          let S : ℕ → Ghost = started_ghosts t z.ended w z.ghosts in
          let st : Stands k t z.ended sc.world next S = starts_keep k t z.ended w sc node z.ghosts a.waits down e z.both.stands in
          let v : World = with_node (server t) next (counted w) in
          subst (λ (x : WorldTurn). After x.world) (sym now)
          (by_server t v (subst (λ (x : WorldTurn). FatesHold x.world) now lives)
          (placed t node next at
          (record {
            stands = record {
              ended = z.ended;
              ghosts = S;
              both = both_on k t w v node next z.ended z.ghosts S refl refl (λ c m i. i) z.both (subst (λ (x : WorldTurn). Stands k t z.ended x.world next S) now st);
              timed = timed_on k t w v z.ghosts S z.timed refl refl refl refl (many_placed t next) (λ c. refl);
              calm = calm_start node.state now_;
              few = few_start w.net.bytes node.state now_;
            };
            path = start_leads k t z.ended w node z.ghosts a.sound a.waits down z.both.stands y.from y.path;
            from = y.from;
            is = y.is;
          })))

  -- time passes
  passes : (steps : List ℕ) → length steps ≡ length w.clocks → FatesHold (happens (counted w) (events.Advance steps)).world → world_step w (events.Advance steps) ≡ Ok (happens (counted w) (events.Advance steps)) → After (happens (counted w) (events.Advance steps)).world
  unfolding happens ev.advances ev.marks
  passes steps full lives e =
      record {
        all = record {
          terms = a.terms;
          sound = a.sound;
          waits = a.waits;
          fates = lives;
          clocks = (each 1 a.first.node a.first.is).stands.timed.count;
          nodes = (each 1 a.first.node a.first.is).stands.timed.count ∙ sym a.clocks ∙ a.nodes;
          first = record { node = a.first.node; is = a.first.is };
          senders = λ m h x f. let t = a.senders m h x f in record { node = t.node; is = t.is };
          servers = λ s node f. (each s node f).stands;
        };
        servers = each;
      }
    where
      v : World
      v = (happens (counted w) (events.Advance steps)).world

      each : (s : ℕ) (node : ServerNode) → node_of w (server s) ≡ Some node → LedServer k v s node (H s)
      each s node f =
          let y = o s node f in
          let z = y.stands in
          let r = advances_stand k s z.ended w node z.ghosts steps (happens (counted w) (events.Advance steps)) a.sound (positive k count w a s node f) full e z.timed z.both.stands in
          record {
            stands = record {
              ended = z.ended;
              ghosts = r.ghosts;
              both = both_on k s w v node node z.ended z.ghosts r.ghosts refl refl (λ c m i. subst (λ N. In m N) (sym (r.nets c)) i) z.both r.stands;
              timed = r.timed;
              calm = z.calm;
              few = z.few;
            };
            from = y.from;
            is = y.is;
            path = r.keeps y.from y.path;
          }

  -- Every event.
  pub happens_all : (e : Event) → IsFull w e → admissible.refusal w e ≡ None → FatesHold (happens (counted w) e).world → world_step w e ≡ Ok (happens (counted w) e) → After (happens (counted w) e).world
  happens_all (events.Tick (nodes.Client c)) full r lives e = by_client _ (ByTick c.0 refl) e lives
  happens_all (events.Tick (nodes.Server s)) full r lives e = server_ticks s.0 _ lives r refl e
  happens_all (events.App c ask) full r lives e = by_client _ (ByAsk c.0 ask refl) e lives
  happens_all (events.Deliver n) full r lives e = go (message_of w n) refl
    where
      to : (m : SentMessage) → message_of w n ≡ Some m → (d : NodeId) → receiver_of m ≡ d → After (happens (counted w) (events.Deliver n)).world
      to m q (nodes.Client c) f = by_client _ (ByMessage c.0 n m refl q f) e lives
      to m q (nodes.Server s) f = server_receives n s.0 m _ lives r q f refl e

      go : (o : Option SentMessage) → message_of w n ≡ o → After (happens (counted w) (events.Deliver n)).world
      go None q = absurd (message_there w n q r)
      go (Some m) q = to m q (receiver_of m) refl
  happens_all (events.Lose n) full r lives e = by_client _ (ByLoss n refl) e lives
  happens_all (events.Cut x y) full r lives e = by_client _ (ByCut x y refl) e lives
  happens_all (events.Heal x y) full r lives e = by_client _ (ByHeal x y refl) e lives
  happens_all (events.Advance steps) full r lives e = passes steps full lives e
  happens_all (events.Effect n) full r lives e = by_client _ (ByEffect n refl) e lives
  happens_all (events.Report n ok) full r lives e = by_client _ (ByReport n ok refl) e lives
  happens_all (events.Crash (nodes.Client c)) full r lives e = by_client _ (ByCrash c.0 refl) e lives
  happens_all (events.Crash (nodes.Server s)) full r lives e = server_stops s.0 _ lives r refl e
  happens_all (events.Start (nodes.Client c)) full r lives e = by_client _ (ByStart c.0 refl) e lives
  happens_all (events.Start (nodes.Server s)) full r lives e = server_starts s.0 _ lives r refl e

-- everything holds after an event that the world takes, and the path of each server goes on
pub stays_led : (k : Config) (count : ℕ) (H : ℕ → net.World → Type 0) (w : World) (e : Event) (sc : WorldTurn) → Led k count w H → IsFull w e → world_step w e ≡ Ok sc → Led k count sc.world H
stays_led k count H w e sc a full h =
    let p = step_happens w e sc h in
    let e1 : world_step w e ≡ Ok (happens (counted w) e) = h ∙ ap (λ (x : WorldTurn). Ok x) p.1 in
    subst (λ (x : WorldTurn). Led k count x.world H) (sym p.1) (happens_all k count H w a.all a.servers e full p.0 (fates_law w e (happens (counted w) e) e1 a.all.fates) e1)

-- everything holds after an event that the world takes
pub stays : (k : Config) (count : ℕ) (w : World) (e : Event) (sc : WorldTurn) → AllStand k count w → IsFull w e → world_step w e ≡ Ok sc → AllStand k count sc.world
stays k count w e sc a full h =
    (stays_led k count (λ s x. Unit {0}) w e sc
    (record { all = a; servers = λ s node f. record { stands = a.servers s node f; from = _; is = tt; path = Here _ } }) full h).all
