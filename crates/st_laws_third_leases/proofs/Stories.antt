-- What an event of the third form does: one client takes a step, or one server does; a client crashes or starts; or no client changes and nothing is sent.
-- Who else is told of nothing.
use Rattle.st_lemmas.proofs.Words
use Words.{◌≡◌, ◌≢◌, ℕ, ◌+◌, ◌-◌, ◌≤◌, ◌⊎◌, Bool, true, false, List, [], ◌∷◌, ◌++◌, length, map, pred, Option, Some, None, Ok, Err, refl, sym, ap}
use Words.{◌∙◌, subst, inl, inr, arith, if◌then◌else◌}
use Words.{◌==◌, zero, suc, nat_le, leb-true, leb-false, eq-eqb, ne_eqb, unwrap_or, ClientId, Life, Event, IssuedCommand}
use Words.{Message, NodeId, Observation, SentMessage, ServerId, ServerInput, Stamp}
use Words.events
use Words.inputs
use Words.nodes
use Words.outputs
use Words.refusals
use Words.seen
use Words.serving.{Tick, Control}
use Words.Admissible as admissible
use Words.Client as cl
use Words.Client.{ClientNode}
use Words.ClientState.{Association, ClientState}
use Words.Events as ev
use Words.Events.{WorldTurn, quiet}
use Words.Keys.{client, server_node}
use Words.Lists.{Has}
use Words.Lookups.{if_true, some_is}
use Words.Members.{has_left, has_right}
use Words.Numbers.{numbered_below, numbered_other, numbered_own, set_length}
use Words.Server as server
use Words.Server.{ServerNode}
use Words.Tables.{has_map, same_or_not}
use Words.Sessions.{session_of}
use Words.World as world
use Words.World.{World, WorldClient, all_servers, clock_of, issued_of, message_of, node_of, numbered, site_of, stamp, with_numbered}
use Words.Worlds.{clocks_go_on}
use Rattle.std.specs.Option.{option_or}
use Rattle.st_base.specs.Nodes.{SERVER_BASE}
use Rattle.st_rules.specs.declared.observation.WorldRefusal.{WorldRefusal}
use Rattle.st_rules.specs.declared.node.StepRefusal.TheVariants.{Crashed}
use Rattle.st_laws_healthy.proofs.Happening.{Brings, BringsServer, Deaf}
use Rattle.st_laws_lasting.specs.Lasting.{client_ticks_at}
use Rattle.st_laws_leases.specs.Dates.Dates.{messages}
use Rattle.st_laws_leases.proofs.Dates.Leaving.{Leaves, leaves_from, lost_same, server_leaves}
use Rattle.st_laws_leases.proofs.Dates.SentMessages.{client_said, server_said}
use Rattle.st_laws_third.proofs.EventWalk.{Client_step, Server_step}
use Rattle.st_laws_third.proofs.Moves.{took_core}
use Rattle.st_laws_third.proofs.Sound.{Sound}
use Rattle.st_laws_waits.specs.Waits.{received, received_in}
use Rattle.st_laws_waits.proofs.Causes.{Arrives}
use Rattle.st_third.specs.declared.event.ThirdEvent.{ThirdEvent}
use Rattle.st_third.specs.declared.event.ThirdEvent.TheVariants as third
use Rattle.st_third.specs.declared.event.ThirdInput.{ThirdInput}
use Rattle.st_third.specs.declared.event.ThirdInput.TheVariants as takes
use Rattle.st_third.specs.declared.output.ThirdOutput.{ThirdOutput}
use Rattle.st_third.specs.declared.output.ThirdOutput.TheVariants as says
use Rattle.st_third.specs.declared.limits.Limits.{Limits}
use Rattle.st_third.specs.Events as every
use Rattle.st_third.specs.Events.{ThirdWorldTurn, unseen}
use Rattle.st_third.specs.Limits.{is_third, limited_association, limited_node, limited_site, most_clients, node_at}
use Rattle.st_third.specs.Server as hearing
use Rattle.st_third.specs.State.{ClientBeside, ThirdClientTurn}
use Rattle.st_third.specs.Steps.{plain_event, plain_observation, plainly_seen}
use Rattle.st_third.specs.World.{ThirdWorld, beside_of, receiver_of}
use Rattle.st_laws_third_leases.proofs.Idle.{Sent}
use Rattle.st_laws_third_leases.proofs.Stepping.{plain_input}

-- only the node of this number may be told of something
abbrev pub OnlyTold : World → Event → ℕ → Type 0
OnlyTold w e x = (y : ℕ) → y ≢ x → Deaf w e y

-- no other client ticks
abbrev pub NoOtherTicks : Event → ℕ → Type 0
NoOtherTicks e x = (c : ClientId) → c.0 ≢ x → client_ticks_at c e ≡ false

abbrev pub NobodyTicks : Event → Type 0
NobodyTicks e = (c : ClientId) → client_ticks_at c e ≡ false

-- after a step of a client: its place, and its messages
pub record Took (w : ThirdWorld) (d : ClientId) (site : WorldClient) (t : ThirdClientTurn) (sc : ThirdWorldTurn) : Type 0 where
  pub clients : sc.third.world.clients ≡ with_numbered d.0 (ev.at_node (record site.node { state = t.client.plain }) site) w.world.clients
  pub servers : sc.third.world.servers ≡ w.world.servers
  pub clocks : sc.third.world.clocks ≡ w.world.clocks
  pub new : (m : Message) → Has m (messages sc.third.world) → Has m (messages w.world) ⊎ Sent t.out m
  pub told : (m : Message) → Sent t.out m → (n : ℕ) × Has (seen.Sent n m) (plainly_seen sc.seen)

-- only clients are told of something
abbrev pub IsNear : World → Event → ℕ → Type 0
IsNear w e x = (x ≤ 64) ⊎ ((y : ℕ) → Deaf w e y)

-- the node of a number isn't there, or doesn't run
pub data IsOff (w : ThirdWorld) (e : Event) (x : ℕ) : Type 0 where
  NoNode : x ≡ 0 → IsOff w e x
  OffClient : (d : ClientId) → x ≡ d.0 → ((site : WorldClient) → site_of w.world d ≡ Some site → site.node.running ≡ false) → IsNear w.world e x →
      IsOff w e x
  OffServer : 65 ≤ x → ((s : ServerId) (node : ServerNode) → server_node s ≡ x → node_of w.world s ≡ Some node → node.running ≡ false) →
      IsOff w e x

-- a server that crashed or started has no session
pub record IsEmpty (node : ServerNode) : Type 0 where
  pub epoch : node.state.sessions.epoch ≡ node.state.stable.epoch
  pub none : (c : ClientId) → session_of node.state.sessions c ≡ None

-- A server is as it was, or it has no session, and doesn't run before the event or after it.
abbrev pub IsAsBefore : ServerNode → ServerNode → Type 0
IsAsBefore old node = (node ≡ old) ⊎ (IsEmpty node × ((node.running ≡ false) ⊎ (old.running ≡ false)))

-- An association that crashed or started has no session. A start ends its life.
pub record IsBegun (old new : WorldClient) (a : Association) : Type 0 where
  pub was : Association
  pub among : Has was old.node.state.associations
  pub server : a.server ≡ was.server
  pub session : a.session ≡ None
  pub life : ((new.node.running ≡ false) × (a.life ≡ was.life)) ⊎ (a.life.0 ≡ was.life.0 + 1)

-- The servers have the numbers from before.
abbrev pub SameServers : ThirdWorld → ThirdWorld → Type 0
SameServers w v =
    (n : ℕ) (node : ServerNode) → numbered v.world.servers n ≡ Some node →
    (old : ServerNode) × (numbered w.world.servers n ≡ Some old) × (node.state.id ≡ old.state.id) × IsAsBefore old node

-- What the event does.
pub data Story (w : ThirdWorld) (e : Event) (sc : ThirdWorldTurn) : Type 0 where
  ByClient : (d : ClientId) (old site : WorldClient) (b : ClientBeside) (input : ThirdInput) → site_of w.world d ≡ Some old → site.node ≡ old.node →
      old.node.running ≡ true → beside_of w d ≡ Some b → Brings w.world e d.0 (plain_input input) → OnlyTold w.world e d.0 → NoOtherTicks e d.0 →
      Took w d site (Client_step w d site b input) sc → Story w e sc
  ByServer : (r : ServerId) (node : ServerNode) (i : ServerInput) → node_of w.world r ≡ Some node → Arrives r w.world e i →
      BringsServer w.world e (server_node r) i → OnlyTold w.world e (server_node r) → NobodyTicks e → sc.third.world.clients ≡ w.world.clients →
      sc.third.world.servers ≡ with_numbered r.0 (Server_step w r node i).node w.world.servers → sc.third.world.clocks ≡ w.world.clocks →
      ((m : Message) → Has m (messages sc.third.world) → Has m (messages w.world) ⊎ Has (outputs.Send m) (Server_step w r node i).out) →
      ((m : Message) → Has (outputs.Send m) (Server_step w r node i).out → (n : ℕ) × Has (seen.Sent n m) (plainly_seen sc.seen)) → Story w e sc
  Restarts : (d : ClientId) (old : WorldClient) → site_of w.world d ≡ Some old →
      ((new : WorldClient) → site_of sc.third.world d ≡ Some new → (new.node.running ≡ false) ⊎ (old.node.running ≡ false)) →
      ((new : WorldClient) (a : Association) → site_of sc.third.world d ≡ Some new → Has a new.node.state.associations → IsBegun old new a) →
      ((c : ClientId) → c.0 ≢ d.0 → site_of sc.third.world c ≡ site_of w.world c) → OnlyTold w.world e 0 → NoOtherTicks e d.0 →
      length sc.third.world.clients ≡ length w.world.clients → sc.third.world.servers ≡ w.world.servers → sc.third.world.clocks ≡ w.world.clocks →
      messages sc.third.world ≡ messages w.world → Story w e sc
  IsQuiet : (x : ℕ) → IsOff w e x → OnlyTold w.world e x → NoOtherTicks e x → sc.third.world.clients ≡ w.world.clients → SameServers w sc.third →
      ((n : ℕ) → (unwrap_or (numbered w.world.clocks n) (stamp 0)).0 ≤ (unwrap_or (numbered sc.third.world.clocks n) (stamp 0)).0) →
      messages sc.third.world ≡ messages w.world → Story w e sc

-- What a client says.
record Said (a b : ThirdWorldTurn) (os : List ThirdOutput) : Type 0 where
  servers : b.third.world.servers ≡ a.third.world.servers
  new : (m : Message) → Has m (messages b.third.world) → Has m (messages a.third.world) ⊎ Sent os m
  told : (m : Message) → Sent os m → (n : ℕ) × Has (seen.Sent n m) (plainly_seen b.seen)
  grows : (o : Observation) → Has o (plainly_seen a.seen) → Has o (plainly_seen b.seen)

seen_more : (xs ys : List Rattle.st_third.specs.declared.observation.ThirdObservation.ThirdObservation) (o : Observation) → Has o (plainly_seen xs) →
    Has o (plainly_seen (xs ++ ys))
seen_more xs ys o h =
    subst (Has o) (sym (Rattle.std.proofs.lemmas.List.Elements.filter_map-append plain_observation xs ys)) (has_left (plainly_seen xs) (plainly_seen ys) o h)

seen_last : (xs ys : List Rattle.st_third.specs.declared.observation.ThirdObservation.ThirdObservation) (o : Observation) → Has o (plainly_seen ys) →
    Has o (plainly_seen (xs ++ ys))
seen_last xs ys o h =
    subst (Has o) (sym (Rattle.std.proofs.lemmas.List.Elements.filter_map-append plain_observation xs ys)) (has_right (plainly_seen xs) (plainly_seen ys) o h)

seen_as : (os : List Observation) (o : Observation) → Has o os → Has o (plainly_seen (map every.plain_seen os))
seen_as [] o h = absurd h
seen_as (x ∷ os) o (inl e) = inl e
seen_as (x ∷ os) o (inr h) = inr (seen_as os o h)

said_one : (sc : ThirdWorldTurn) (c : ClientId) (before : ClientState) (o : ThirdOutput) → Said sc (every.client_says sc c before o) (o ∷ [])
unfolding every.client_says ev.client_says_all
said_one sc c before o = by o
  where
    silent : (o : ThirdOutput) (x : Rattle.st_third.specs.declared.observation.ThirdObservation.ThirdObservation) (v : World) →
        v.servers ≡ sc.third.world.servers → messages v ≡ messages sc.third.world → ((m : Message) → says.Plain (outputs.Send m) ≡ o → ⊥) →
        Said sc (record { third = record sc.third { world = v }; seen = sc.seen ++ x ∷ [] }) (o ∷ [])
    silent o x v same e never =
        record {
          servers = same;
          new = λ m h. inl (subst (Has m) e h);
          told = λ m h. absurd (none m h);
          grows = λ y h. seen_more sc.seen (x ∷ []) y h;
        }
      where
        none : (m : Message) → Sent (o ∷ []) m → ⊥
        none m (inl q) = never m q
        none m (inr q) = q

    by : (o : ThirdOutput) → Said sc (every.client_says sc c before o) (o ∷ [])
    by (says.Plain o) =
        record {
          servers = z.servers;
          new = λ m h. new m (numbers m h);
          told = λ m h. let y = z.told m (among m h) in (
            y.0,
            seen_last sc.seen (map every.plain_seen t.seen) (seen.Sent y.0 m)
                (seen_as t.seen (seen.Sent y.0 m) y.1),
          );
          grows = λ y h. seen_more sc.seen (map every.plain_seen t.seen) y h;
        }
      where
        t : WorldTurn
        t = ev.client_says (quiet sc.third.world) c before o

        z : Rattle.st_laws_leases.proofs.Dates.SentMessages.Said (quiet sc.third.world) t (o ∷ [])
        z = client_said c before (o ∷ []) (quiet sc.third.world)

        numbers : (m : Message) → Has m (messages t.world) → (Has m (messages sc.third.world)) ⊎ Has (outputs.Send m) (o ∷ [])
        numbers m h = go (Rattle.st_laws_leases.proofs.Dates.Leaving.has_numbered (messages t.world) m h)
          where
            found : (k : ℕ) → (numbered (messages sc.third.world) k ≡ Some m) ⊎ Has (outputs.Send m) (o ∷ []) →
                (Has m (messages sc.third.world)) ⊎ Has (outputs.Send m) (o ∷ [])
            found k (inl e) = inl (Words.Numbers.numbered_has (messages sc.third.world) k m e)
            found k (inr i) = inr i

            go : (k : ℕ) × (numbered (messages t.world) k ≡ Some m) → (Has m (messages sc.third.world)) ⊎ Has (outputs.Send m) (o ∷ [])
            go (k, e) = found k (z.get k m e)

        new : (m : Message) → (Has m (messages sc.third.world)) ⊎ Has (outputs.Send m) (o ∷ []) → Has m (messages sc.third.world) ⊎ Sent (says.Plain o ∷ []) m
        new m (inl h) = inl h
        new m (inr (inl e)) = inr (inl (ap says.Plain e))
        new m (inr (inr h)) = absurd h

        among : (m : Message) → Sent (says.Plain o ∷ []) m → Has (outputs.Send m) (o ∷ [])
        among m (inl e) = inl (same e)
          where
            same : says.Plain (outputs.Send m) ≡ says.Plain o → outputs.Send m ≡ o
            same e = cc
        among m (inr h) = absurd h
    by (says.Left op) = silent (says.Left op) _ sc.third.world refl refl (λ m e. cc)
    by (says.Unsynced op ino) = silent (says.Unsynced op ino) _ sc.third.world refl refl (λ m e. cc)
    by (says.Ended s life end) = silent (says.Ended s life end) _ (ev.with_ended (ev.life_over c s life (Some end)) sc.third.world) refl refl (λ m e. cc)

said_all : (c : ClientId) (before : ClientState) (os : List ThirdOutput) (sc : ThirdWorldTurn) → Said sc (every.client_says_all c before os sc) os
unfolding every.client_says_all
said_all c before [] sc = record { servers = refl; new = λ m h. inl h; told = λ m h. absurd h; grows = λ o h. h }
said_all c before (o ∷ os) sc = joined (said_one sc c before o) (said_all c before os (every.client_says sc c before o))
  where
    mid : ThirdWorldTurn
    mid = every.client_says sc c before o

    last : ThirdWorldTurn
    last = every.client_says_all c before os mid

    joined : Said sc mid (o ∷ []) → Said mid last os → Said sc last (o ∷ os)
    joined a b = record { servers = b.servers ∙ a.servers; new = λ m h. new m (b.new m h); told = told; grows = λ y h. b.grows y (a.grows y h) }
      where
        first : (m : Message) → Has m (messages sc.third.world) ⊎ Sent (o ∷ []) m → Has m (messages sc.third.world) ⊎ Sent (o ∷ os) m
        first m (inl h) = inl h
        first m (inr (inl e)) = inr (inl e)
        first m (inr (inr h)) = absurd h

        new : (m : Message) → Has m (messages mid.third.world) ⊎ Sent os m → Has m (messages sc.third.world) ⊎ Sent (o ∷ os) m
        new m (inl h) = first m (a.new m h)
        new m (inr h) = inr (inr h)

        told : (m : Message) → Sent (o ∷ os) m → (n : ℕ) × Has (seen.Sent n m) (plainly_seen last.seen)
        told m (inl e) = let y = a.told m (inl e) in (y.0, b.grows (seen.Sent y.0 m) y.1)
        told m (inr h) = b.told m h

-- flush steps send nothing
flush_one : (w : World) (c : ClientId) (s : ServerId) (end : Option Stamp) (phase : Option Words.Phase) → (ev.flushed_in w c s end phase).net ≡ w.net
flush_one w c s None (Some Words.phases.Flush) = refl
flush_one w c s (Some end) (Some Words.phases.Flush) = refl
flush_one w c s end phase = refl

flush_all : (c : ClientId) (state : ClientState) (ss : List ServerId) (w : World) → (ev.flushes c state ss w).net ≡ w.net
unfolding ev.flushes
flush_all c state [] w = refl
flush_all c state (s ∷ ss) w =
    flush_all c state ss (ev.flushed_at w c s state) ∙ flush_one w c s (cl.lease_end_with state s) (cl.phase_with state s (clock_of w (nodes.Client c)))

flush_servers_one : (w : World) (c : ClientId) (s : ServerId) (end : Option Stamp) (phase : Option Words.Phase) →
    (ev.flushed_in w c s end phase).servers ≡ w.servers
flush_servers_one w c s None (Some Words.phases.Flush) = refl
flush_servers_one w c s (Some end) (Some Words.phases.Flush) = refl
flush_servers_one w c s end phase = refl

flush_servers : (c : ClientId) (state : ClientState) (ss : List ServerId) (w : World) → (ev.flushes c state ss w).servers ≡ w.servers
unfolding ev.flushes
flush_servers c state [] w = refl
flush_servers c state (s ∷ ss) w =
    flush_servers c state ss (ev.flushed_at w c s state)
    ∙ flush_servers_one w c s (cl.lease_end_with state s) (cl.phase_with state s (clock_of w (nodes.Client c)))

took_it : (w : ThirdWorld) (d : ClientId) (site : WorldClient) (t : ThirdClientTurn) → Took w d site t (every.client_took w d site t)
unfolding every.client_took
took_it w d site t =
    let h = took_core w d site t in
    record {
      clients = ap (λ x. x.plain.clients) h;
      servers = flush_servers d t.client.plain (all_servers b.third.world) b.third.world ∙ z.servers;
      clocks = ap (λ x. x.plain.clocks) h;
      new = λ m i. z.new m (subst (Has m) same i);
      told = z.told;
    }
  where
    a : ThirdWorldTurn
    a = unseen (every.with_client d site t.client w)

    b : ThirdWorldTurn
    b = every.client_says_all d site.node.state t.out a

    z : Said a b t.out
    z = said_all d site.node.state t.out a

    same : messages (ev.flushes d t.client.plain (all_servers b.third.world) b.third.world) ≡ messages b.third.world
    same =
        ap (λ (n : world.Net). map Rattle.st_laws_leases.specs.Dates.Dates.message_in n.messages)
        (flush_all d t.client.plain (all_servers b.third.world) b.third.world)

-- The node of a number, up to 64 or above.
node_by : (form n : ℕ) → is_third form ≡ true → ((n ≤ 64) × (node_at form n ≡ nodes.Client (client n))) ⊎
    (node_at form n ≡ nodes.Server (world.server (n - SERVER_BASE)))
unfolding node_at most_clients
node_by form n f = go (nat_le n 64) refl
  where
    node_is : node_at form n ≡ (if nat_le n 64 then nodes.Client (client n) else nodes.Server (world.server (n - SERVER_BASE)))
    node_is = ap (λ b. if nat_le n (if b then 64 else 16) then nodes.Client (client n) else nodes.Server (world.server (n - SERVER_BASE))) f

    go : (b : Bool) → nat_le n 64 ≡ b → ((n ≤ 64) × (node_at form n ≡ nodes.Client (client n))) ⊎
        (node_at form n ≡ nodes.Server (world.server (n - SERVER_BASE)))
    go true e = inl (leb-true n 64 e, node_is ∙ ap (λ b. if b then nodes.Client (client n) else nodes.Server (world.server (n - SERVER_BASE))) e)
    go false e = inr (node_is ∙ ap (λ b. if b then nodes.Client (client n) else nodes.Server (world.server (n - SERVER_BASE))) e)

crash_empty : (m : Limits) (n : ServerNode) → IsEmpty (limited_node m (server.crash_node n))
unfolding server.crash
crash_empty m n = record { epoch = refl; none = λ c. refl }

start_empty : (m : Limits) (n : ServerNode) (now : Stamp) → IsEmpty (limited_node m (server.start_node n now))
unfolding server.start server.begin_epoch
start_empty m n now = record { epoch = refl; none = λ c. refl }

none_some : {A B : Type 0} (x : A) → ◌≡◌ {A = Option A} None (Some x) → B
none_some x q = cc

false_true : {A : Type 0} → ◌≡◌ {A = Bool} false true → A
false_true q = cc

-- What a start of a client does.
pub record Starting (w : ThirdWorld) (d : ClientId) (sc : ThirdWorldTurn) : Type 0 where
  pub old : WorldClient
  pub there : site_of w.world d ≡ Some old
  pub own : site_of sc.third.world d ≡ Some (limited_site w.limits (ev.started_site old))
  pub begun : (a : Association) → Has a (limited_site w.limits (ev.started_site old)).node.state.associations →
      IsBegun old (limited_site w.limits (ev.started_site old)) a
  pub servers : sc.third.world.servers ≡ w.world.servers
  pub clocks : sc.third.world.clocks ≡ w.world.clocks
  pub many : length sc.third.world.clients ≡ length w.world.clients
  pub says : messages sc.third.world ≡ messages w.world
  pub silent : sc.seen ≡ []

module _ (w : ThirdWorld) (so : Sound w) (f : is_third w.world.form ≡ true) where
  abbrev S : Event → ThirdWorldTurn → Type 0
  S e sc = Story w e sc

  -- the event is a delivery of none, or isn't one
  abbrev NoDelivery : Event → Type 0
  NoDelivery e = (n : ℕ) → e ≡ events.Deliver n → ⊥

  undelivered : (e : Event) → NoDelivery e → (x : ℕ) → OnlyTold w.world e x
  undelivered e n x y ne k m q there to = n k q

  unheard : (e : Event) → NoDelivery e → (x : ℕ) → IsNear w.world e x
  unheard e n x = inr (λ y k m q there to. n k q)

  quietly : (e : Event) → NoDelivery e → NobodyTicks e → (sc : ThirdWorldTurn) → sc.third.world.clients ≡ w.world.clients → SameServers w sc.third →
      ((n : ℕ) → (unwrap_or (numbered w.world.clocks n) (stamp 0)).0 ≤ (unwrap_or (numbered sc.third.world.clocks n) (stamp 0)).0) →
      messages sc.third.world ≡ messages w.world → S e sc
  quietly e n t sc cs ss l ms = IsQuiet 0 (NoNode refl) (undelivered e n 0) (λ c ne. t c) cs ss l ms

  -- the same servers
  same_servers : (sc : ThirdWorldTurn) → sc.third.world.servers ≡ w.world.servers → SameServers w sc.third
  same_servers sc e n node q = (node, sym (ap (λ xs. numbered xs n) e) ∙ q, refl, inl refl)

  -- A client takes an input, in a world with other disks.
  module _ (ds : Rattle.st_rules.specs.Disks.Disks) where
    abbrev v : ThirdWorld
    v = record w { world = ev.with_disks ds w.world }

    still : (e : Event) (x : ℕ) → IsOff w e x → OnlyTold w.world e x → NoOtherTicks e x → S e (unseen v)
    still e x off told ticks = IsQuiet x off told ticks refl (same_servers (unseen v) refl) (λ n. omega arith) refl

    client_story : (e : Event) (d : ClientId) (input : ThirdInput) (site old : WorldClient) → site.node ≡ old.node → site_of w.world d ≡ Some old →
        Brings w.world e d.0 (plain_input input) → OnlyTold w.world e d.0 → NoOtherTicks e d.0 → IsNear w.world e d.0 → S e (every.client_takes v d input site)
    unfolding every.client_takes every.running_takes every.third_takes
    client_story e d input site old same there brings told ticks near = running site.node.running refl
      where
        runs : site.node.running ≡ true → old.node.running ≡ true
        runs r = ap (λ (n : ClientNode). n.running) (sym same) ∙ r

        off : site.node.running ≡ false → IsOff w e d.0
        off r =
            OffClient d refl
            (λ y q. ap (λ (z : WorldClient). z.node.running) (some_is (sym q ∙ there)) ∙ ap (λ (n : ClientNode). n.running) (sym same) ∙ r) near

        beside : (b : ClientBeside) × (beside_of w d ≡ Some b)
        beside = so.fits.there d.0 old there

        by_beside : site.node.running ≡ true → (o : Option ClientBeside) → beside_of w d ≡ o → S e (every.third_takes v d input site o)
        by_beside r None q = none_some beside.0 (sym q ∙ beside.1)
        by_beside r (Some b) q =
            ByClient d old site b input there same (runs r) q brings told ticks
            (let y = took_it v d site (Client_step v d site b input) in record { clients = y.clients; servers = y.servers; clocks = y.clocks; new = y.new; told = y.told })

        by_form : site.node.running ≡ true → (b : Bool) → b ≡ true →
            S e (if b then every.third_takes v d input site (beside_of v d) else every.plain_takes v d input site)
        by_form r true q = by_beside r (beside_of w d) refl
        by_form r false q = false_true q

        running : (b : Bool) → site.node.running ≡ b → S e (if b then every.running_takes v d input site else unseen v)
        running true r = by_form r (is_third w.world.form) f
        running false r = still e d.0 (off r) told ticks

    -- at its place, if it is there
    place_story : (e : Event) (d : ClientId) (input : ThirdInput) (o : Option WorldClient) → site_of w.world d ≡ o →
        Brings w.world e d.0 (plain_input input) → OnlyTold w.world e d.0 → NoOtherTicks e d.0 → IsNear w.world e d.0 → S e (every.at_client v d input o)
    unfolding every.at_client
    place_story e d input None q brings told ticks near = still e d.0 (OffClient d refl (λ site g. none_some site (sym q ∙ g)) near) told ticks
    place_story e d input (Some site) q brings told ticks near = client_story e d input site site refl q brings told ticks near

  -- an ask
  ask_story : (e : Event) → NoDelivery e → (d : ClientId) (ask : ℕ → ThirdInput) → ((op : ℕ) → Brings w.world e d.0 (plain_input (ask op))) →
      NoOtherTicks e d.0 →
      S e (every.asks_at w d ask (site_of w.world d))
  unfolding every.asks_at
  ask_story e n d ask brings ticks = go (site_of w.world d) refl
    where
      go : (o : Option WorldClient) → site_of w.world d ≡ o → S e (every.asks_at w d ask o)
      go None q = still w.world.disks e d.0 (OffClient d refl (λ site g. none_some site (sym q ∙ g)) (unheard e n d.0)) (undelivered e n d.0) ticks
      go (Some site) q =
          client_story w.world.disks e d (ask (site.asks + 1)) (ev.asked_once_more site) site refl q (brings (site.asks + 1)) (undelivered e n d.0) ticks
          (unheard e n d.0)

  -- A server takes an input.
  server_story : (e : Event) (r : ServerId) (i : ServerInput) → 65 ≤ server_node r → Arrives r w.world e i → BringsServer w.world e (server_node r) i →
      OnlyTold w.world e (server_node r) → NobodyTicks e → (o : Option ServerNode) → node_of w.world r ≡ o → S e (every.at_server w r i o)
  unfolding every.at_server every.server_takes ev.server_took hearing.node_step
  server_story e r i far arrives brings told ticks None q =
      still w.world.disks e (server_node r) (OffServer far (λ s node g h. none_some node (sym q ∙ ap (numbered w.world.servers) (same s g) ∙ h))) told
      (λ c ne. ticks c)
    where
      same : (s : ServerId) → server_node s ≡ server_node r → r.0 ≡ s.0
      same s g = let z : 32768 + s.0 ≡ 32768 + r.0 = g in omega (arith, z)
  server_story e r i far arrives brings told ticks (Some node) q = running node.running refl
    where
      t : server.NodeTurn
      t = Server_step w r node i

      a : WorldTurn
      a = quiet (ev.with_node r t.node w.world)

      b : WorldTurn
      b = ev.server_says_all r t.out a

      leaves : Leaves (messages w.world) a.world b.world t.out
      leaves = server_leaves r t.out a

      same : (s : ServerId) → server_node s ≡ server_node r → s.0 ≡ r.0
      same s g = let z : 32768 + s.0 ≡ 32768 + r.0 = g in omega (arith, z)

      running : (x : Bool) → node.running ≡ x → S e (every.as_plain w (ev.server_took w.world r (if x then Ok t else Err Crashed)))
      running true g =
          ByServer r node i q arrives brings told ticks leaves.clients leaves.servers
          (Rattle.st_laws_refine.proofs.Server.Delivery.all_parts r t.out a).clocks (leaves_from (messages w.world) a.world b.world t.out leaves)
          (λ m h. let z = (server_said r t.out a).told m h in (z.0, seen_as b.seen (seen.Sent z.0 m) z.1))
      running false g =
          still w.world.disks e (server_node r)
          (OffServer far (λ s y h k. ap (λ (n : ServerNode). n.running) (some_is (sym k ∙ ap (numbered w.world.servers) (same s h) ∙ q)) ∙ g)) told
          (λ c ne. ticks c)

  -- A delivery
  module _ (k : ℕ) where
    abbrev E : Event
    E = events.Deliver k

    only : (m : SentMessage) → message_of w.world k ≡ Some m → OnlyTold w.world E m.message.header.to
    only m q y ne n x e there to =
        ne (sym to ∙ ap (λ (z : SentMessage). z.message.header.to) (some_is (sym there ∙ ap (message_of w.world) (sym (same e)) ∙ q)))
      where
        same : events.Deliver k ≡ events.Deliver n → k ≡ n
        same e = cc

    delivery_story : (o : Option SentMessage) → message_of w.world k ≡ o → S E (every.delivers w o)
    unfolding every.delivers every.delivers_to every.at_server
    delivery_story None q =
        still w.world.disks E 0 (NoNode refl) (λ y ne n x e there to. none_some x (sym q ∙ ap (message_of w.world) (same n e) ∙ there)) (λ c ne. refl)
      where
        same : (n : ℕ) → events.Deliver k ≡ events.Deliver n → k ≡ n
        same n e = cc
    delivery_story (Some m) q = by (node_by w.world.form m.message.header.to f)
      where
        to : NodeId → Type 0
        to n = S E (every.delivers_to w m.message n)

        delivered : Rattle.st_laws_healthy.proofs.Happening.Delivers w.world E m.message
        delivered = record { number = k; sent = m; event = refl; there = q; is = refl }

        far_server : (n : Bool) → nat_le m.message.header.to 64 ≡ n → (m.message.header.to ≤ 64) ⊎ (65 ≤ m.message.header.to)
        far_server true e = inl (leb-true m.message.header.to 64 e)
        far_server false e = let z = leb-false m.message.header.to 64 e in inr (omega (arith, z))

        client_at : m.message.header.to ≤ 64 → S E (every.delivers_to w m.message (nodes.Client (client m.message.header.to)))
        client_at low =
            place_story w.world.disks E (client m.message.header.to) (takes.Plain (inputs.Control m.message))
            (site_of w.world (client m.message.header.to)) refl
            (delivered, refl) (only m q) (λ c ne. refl) (inl low)

        server_at : 65 ≤ m.message.header.to → S E (every.delivers_to w m.message (nodes.Server (world.server (m.message.header.to - SERVER_BASE))))
        server_at far = at (same_or_not (server_node r) m.message.header.to)
          where
            r : ServerId
            r = world.server (m.message.header.to - SERVER_BASE)

            heard : m.message.header.to ≡ server_node r → received r w.world E ≡ Some m.message
            heard e =
                ap (received_in r) q
                ∙ if_true (m.message.header.to == server_node r) (Some m.message) None (eq-eqb m.message.header.to (server_node r) e)

            -- no server has such a number
            low : server_node r ≢ m.message.header.to → node_of w.world r ≡ None
            low ne = go r.0 refl
              where
                go : (n : ℕ) → r.0 ≡ n → node_of w.world r ≡ None
                go zero e = ap (numbered w.world.servers) e
                go (suc n) e = absurd (ne (let y : r.0 ≡ m.message.header.to - 32768 = refl in omega (arith, y, e)))

            at : (server_node r ≡ m.message.header.to) ⊎ (server_node r ≢ m.message.header.to) → S E (every.delivers_to w m.message (nodes.Server r))
            at (inl e) =
                server_story E r (Control m.message) (omega (arith, far, e)) (heard (sym e)) (delivered, sym e)
                (subst (OnlyTold w.world E) (sym e) (only m q)) (λ c. refl) (node_of w.world r) refl
            at (inr ne) =
                subst (λ o. S E (every.at_server w r (Control m.message) o)) (sym (low ne))
                (still w.world.disks E m.message.header.to
                (OffServer far (λ s node g h. none_some node (sym (low ne) ∙ ap (numbered w.world.servers) (place s g) ∙ h))) (only m q) (λ c ne. refl))
              where
                place : (s : ServerId) → server_node s ≡ m.message.header.to → r.0 ≡ s.0
                place s g = let z : 32768 + s.0 ≡ m.message.header.to = g in let y : r.0 ≡ m.message.header.to - 32768 = refl in omega (arith, z, y)

        by : ((m.message.header.to ≤ 64) × (receiver_of w.world m ≡ nodes.Client (client m.message.header.to))) ⊎
            (receiver_of w.world m ≡ nodes.Server (world.server (m.message.header.to - SERVER_BASE))) → to (receiver_of w.world m)
        by (inl z) = subst to (sym z.1) (client_at z.0)
        by (inr z) = either (far_server (nat_le m.message.header.to 64) refl)
          where
            clash : {P : Type 0} {d : ClientId} {s : ServerId} → nodes.Client d ≡ nodes.Server s → P
            clash e = cc

            near : m.message.header.to ≤ 64 → node_at w.world.form m.message.header.to ≡ nodes.Client (client m.message.header.to)
            near l = Rattle.st_laws_suspicions.proofs.ServerEvents.near_node w.world.form m.message.header.to f l

            either : (m.message.header.to ≤ 64) ⊎ (65 ≤ m.message.header.to) → to (receiver_of w.world m)
            either (inl l) = clash (sym (near l) ∙ z)
            either (inr far) = subst to (sym z) (server_at far)

  -- A report
  told_story : (k : ℕ) (ok : Bool) (c : Option IssuedCommand) → S (events.Report k ok) (every.tells (every.with_report k ok w) k ok c)
  unfolding every.tells every.tells_client every.tells_site
  told_story k ok None = still _ (events.Report k ok) 0 (NoNode refl) (undelivered (events.Report k ok) (λ n e. cc) 0) (λ c ne. refl)
  told_story k ok (Some c) = go (site_of w.world c.client) refl
    where
      E : Event
      E = events.Report k ok

      at : (site : WorldClient) → site_of w.world c.client ≡ Some site → (b : Bool) →
          S E (if b then every.client_takes (every.with_report k ok w) c.client (takes.Plain (ev.end_told (every.with_report k ok w).world k ok c)) site
          else unseen (every.with_report k ok w))
      at site q true =
          client_story _ E c.client (takes.Plain (ev.end_told (every.with_report k ok w).world k ok c)) site site refl q
          (λ n x e there to. none e) (undelivered E (λ n e. cc) c.client.0) (λ c ne. refl) (unheard E (λ n e. cc) c.client.0)
        where
          none : {n : ℕ} → events.Report k ok ≡ events.Deliver n → ⊥
          none e = cc
      at site q false = still _ E 0 (NoNode refl) (undelivered E (λ n e. cc) 0) (λ c ne. refl)

      go : (o : Option WorldClient) → site_of w.world c.client ≡ o → S E (every.tells_client (every.with_report k ok w) k ok c o)
      go None q = still _ E 0 (NoNode refl) (undelivered E (λ n e. cc) 0) (λ c ne. refl)
      go (Some site) q = at site q (ev.is_same_instance c site)

  -- A tick
  tick_story : (n : NodeId) → S (events.Tick n) (every.ticks w n)
  unfolding every.ticks
  tick_story (nodes.Client d) =
      place_story w.world.disks (events.Tick (nodes.Client d)) d (takes.Plain inputs.Tick) (site_of w.world d) refl (λ n x e there to. none e)
      (undelivered (events.Tick (nodes.Client d)) (λ n e. cc) d.0) (λ c ne. ne_eqb d.0 c.0 (λ q. ne (sym q)))
      (unheard (events.Tick (nodes.Client d)) (λ n e. cc) d.0)
    where
      none : {n : ℕ} → events.Tick (nodes.Client d) ≡ events.Deliver n → ⊥
      none e = cc
  tick_story (nodes.Server r) =
      by (node_of w.world r) refl
    where
      E : Event
      E = events.Tick (nodes.Server r)

      none : {n : ℕ} → E ≡ events.Deliver n → ⊥
      none e = cc

      by : (o : Option ServerNode) → node_of w.world r ≡ o → S E (every.at_server w r Tick o)
      by o q =
          server_story E r Tick (omega arith) refl (λ n x e there to. none e) (undelivered E (λ n e. cc) (server_node r)) (λ c. refl) o q

  -- A client crashes, or starts.

  restarted : (old new : WorldClient) (g : Association → Association) → ((x : Association) → (g x).server ≡ x.server) →
      ((x : Association) → (g x).session ≡ None) →
      ((x : Association) → ((new.node.running ≡ false) × ((g x).life ≡ x.life)) ⊎ ((g x).life.0 ≡ x.life.0 + 1)) → (a : Association) →
      Has a (map (limited_association w.limits) (map g old.node.state.associations)) → IsBegun old new a
  restarted old new g same none life a h =
      let x = has_map (limited_association w.limits) (map g old.node.state.associations) a h in
      let y = has_map g old.node.state.associations x.0 x.1 in
      record {
        was = y.0;
        among = y.1;
        server = ap (λ (z : Association). z.server) x.2 ∙ ap (λ (z : Association). z.server) y.2 ∙ same y.0;
        session = ap (λ (z : Association). z.session) x.2 ∙ ap (λ (z : Association). z.session) y.2 ∙ none y.0;
        life = subst (λ (l : Life). ((new.node.running ≡ false) × (l ≡ y.0.life)) ⊎ (l.0 ≡ y.0.life.0 + 1))
            (sym (ap (λ (z : Association). z.life) x.2 ∙ ap (λ (z : Association). z.life) y.2)) (life y.0);
      }

  restart_story : (e : Event) → NoDelivery e → (d : ClientId) (old mid : WorldClient) → site_of w.world d ≡ Some old → (sc : ThirdWorldTurn) →
      sc.third.world.clients ≡ with_numbered d.0 (limited_site w.limits mid) (with_numbered d.0 mid w.world.clients) →
      sc.third.world.servers ≡ w.world.servers → sc.third.world.clocks ≡ w.world.clocks → messages sc.third.world ≡ messages w.world →
      (mid.node.running ≡ false) ⊎ (old.node.running ≡ false) →
      ((a : Association) → Has a (limited_site w.limits mid).node.state.associations → IsBegun old (limited_site w.limits mid) a) →
      NoOtherTicks e d.0 → S e sc
  restart_story e n d old mid there sc cs ss clocks ms broken none ticks =
      Restarts d old there (λ new q. subst (λ (x : WorldClient). (x.node.running ≡ false) ⊎ (old.node.running ≡ false)) (is new q) broken)
      (λ new a q h. subst (λ (x : WorldClient). IsBegun old x a) (is new q)
      (none a (subst (λ (x : WorldClient). Has a x.node.state.associations) (sym (is new q)) h)))
      (λ c ne. ap (λ xs. numbered xs c.0) cs ∙ numbered_other (with_numbered d.0 mid w.world.clients) d.0 c.0 (limited_site w.limits mid) low ne
      ∙ numbered_other w.world.clients d.0 c.0 mid low ne)
      (undelivered e n 0) ticks many ss clocks ms
    where
      many : length sc.third.world.clients ≡ length w.world.clients
      many =
          ap (λ xs. length xs) cs
          ∙ set_length (with_numbered d.0 mid w.world.clients) (pred d.0) (limited_site w.limits mid)
          ∙ set_length w.world.clients (pred d.0) mid

      low : 1 ≤ d.0
      low = (numbered_below w.world.clients d.0 old there).0

      own : site_of sc.third.world d ≡ Some (limited_site w.limits mid)
      own =
          ap (λ xs. numbered xs d.0) cs
          ∙ numbered_own (with_numbered d.0 mid w.world.clients) d.0 (limited_site w.limits mid) mid (numbered_own w.world.clients d.0 mid old there)

      is : (new : WorldClient) → site_of sc.third.world d ≡ Some new → limited_site w.limits mid ≡ new
      is new q = some_is (sym own ∙ q)

  crash_client : (d : ClientId) (o : Option WorldClient) → site_of w.world d ≡ o →
      S (events.Crash (nodes.Client d)) (every.node_begins (nodes.Client d) (every.as_plain w (ev.crashes_client w.world d o)))
  unfolding every.node_begins every.client_begins ev.crashes_client ev.marks cl.crash
  crash_client d None q =
      subst (λ o. S (events.Crash (nodes.Client d)) (every.client_begins (every.as_plain w (quiet w.world)) d o)) (sym q)
      (quietly (events.Crash (nodes.Client d)) (λ n e. cc) (λ c. refl) _ refl (λ n node q. (node, q, refl, inl refl)) (λ n. omega arith) refl)
  crash_client d (Some old) q =
      subst (λ o. S (events.Crash (nodes.Client d)) (every.client_begins (every.as_plain w (ev.crashes_client w.world d (Some old))) d o))
      (sym (numbered_own w.world.clients d.0 (ev.stopped_site old) old q))
      (restart_story (events.Crash (nodes.Client d)) (λ n e. cc) d old (ev.stopped_site old) q _ refl refl refl refl (inl refl)
      (restarted old (limited_site w.limits (ev.stopped_site old)) cl.crashed_association (λ x. refl) (λ x. refl) (λ x. inl (refl, refl))) (λ c ne. refl))

  start_client : (d : ClientId) (o : Option WorldClient) → site_of w.world d ≡ o →
      ((old : WorldClient) → site_of w.world d ≡ Some old → old.node.running ≡ false) →
      S (events.Start (nodes.Client d)) (every.node_begins (nodes.Client d) (every.as_plain w (quiet (ev.starts_client w.world d o))))
  unfolding every.node_begins every.client_begins ev.starts_client cl.start
  start_client d None q off =
      subst (λ o. S (events.Start (nodes.Client d)) (every.client_begins (every.as_plain w (quiet w.world)) d o)) (sym q)
      (IsQuiet d.0 (OffClient d refl (λ site g. none_some site (sym q ∙ g)) (unheard (events.Start (nodes.Client d)) (λ n e. cc) d.0))
      (undelivered (events.Start (nodes.Client d)) (λ n e. cc) d.0)
      (λ c ne. ne_eqb d.0 c.0 (λ p. ne (sym p))) refl (λ n node q. (node, q, refl, inl refl)) (λ n. omega arith) refl)
  start_client d (Some old) q off =
      subst (λ o. S (events.Start (nodes.Client d)) (every.client_begins (every.as_plain w (quiet (ev.starts_client w.world d (Some old)))) d o))
      (sym (numbered_own w.world.clients d.0 (ev.started_site old) old q))
      (restart_story (events.Start (nodes.Client d)) (λ n e. cc) d old (ev.started_site old) q _ refl refl refl refl (inr (off old q))
      (restarted old (limited_site w.limits (ev.started_site old)) cl.started_association (λ x. refl) (λ x. refl) (λ x. inr refl))
      (λ c ne. ne_eqb d.0 c.0 (λ p. ne (sym p))))

  -- a client that starts
  starting_at : (d : ClientId) (o : Option WorldClient) → site_of w.world d ≡ o →
      (site : WorldClient) × (site_of (every.node_begins (nodes.Client d)
      (every.as_plain w (quiet (ev.starts_client w.world d o)))).third.world d ≡ Some site) →
      Starting w d (every.node_begins (nodes.Client d) (every.as_plain w (quiet (ev.starts_client w.world d o))))
  unfolding every.node_begins every.client_begins ev.starts_client cl.start
  starting_at d None q =
      subst (λ o. (site : WorldClient) × (site_of (every.client_begins (every.as_plain w (quiet w.world)) d o).third.world d ≡ Some site) →
      Starting w d (every.client_begins (every.as_plain w (quiet w.world)) d o)) (sym q)
      (λ z. none_some z.0 (sym q ∙ z.1))
  starting_at d (Some old) q =
      subst (λ o. (site : WorldClient) ×
      (site_of (every.client_begins (every.as_plain w (quiet (ev.starts_client w.world d (Some old)))) d o).third.world d ≡ Some site) →
      Starting w d (every.client_begins (every.as_plain w (quiet (ev.starts_client w.world d (Some old)))) d o))
      (sym (numbered_own w.world.clients d.0 (ev.started_site old) old q))
      (λ z. record {
        old = old;
        there = q;
        own = numbered_own (with_numbered d.0 (ev.started_site old) w.world.clients) d.0 (limited_site w.limits (ev.started_site old)) (ev.started_site old)
            (numbered_own w.world.clients d.0 (ev.started_site old) old q);
        begun = restarted old (limited_site w.limits (ev.started_site old)) cl.started_association (λ x. refl) (λ x. refl) (λ x. inr refl);
        servers = refl;
        clocks = refl;
        many = set_length (with_numbered d.0 (ev.started_site old) w.world.clients) (pred d.0) (limited_site w.limits (ev.started_site old)) ∙
            set_length w.world.clients (pred d.0) (ev.started_site old);
        says = refl;
        silent = refl;
      })

  pub starting : (d : ClientId) → (site : WorldClient) × (site_of (every.happens w (third.Plain (events.Start (nodes.Client d)))).third.world d ≡ Some site) →
      Starting w d (every.happens w (third.Plain (events.Start (nodes.Client d))))
  unfolding every.happens every.plain_happens ev.happens ev.starts every.begins
  starting d =
      subst (λ b. (site : WorldClient) × (site_of (if b then every.node_begins (nodes.Client d) (begun d) else begun d).third.world d ≡ Some site) →
      Starting w d (if b then every.node_begins (nodes.Client d) (begun d) else begun d)) (sym f)
      (starting_at d (site_of w.world d) refl)
    where
      begun : ClientId → ThirdWorldTurn
      begun d = every.as_plain w (quiet (ev.starts_client w.world d (site_of w.world d)))

  -- A server does.

  -- what becomes of a server that begins, with the limits or without
  module _ (r : ServerId) (old new : ServerNode) (there : node_of w.world r ≡ Some old) (same : new.state.id ≡ old.state.id)
      (empty : IsEmpty (limited_node w.limits new)) (off : (new.running ≡ false) ⊎ (old.running ≡ false)) where
    place : (n : ℕ) (node : ServerNode) →
        numbered (with_numbered r.0 (limited_node w.limits new) (with_numbered r.0 new w.world.servers)) n ≡ Some node →
        (x : ServerNode) × (numbered w.world.servers n ≡ Some x) × (node.state.id ≡ x.state.id) × IsAsBefore x node
    place n node q = go (same_or_not n r.0)
      where
        low : 1 ≤ r.0
        low = (numbered_below w.world.servers r.0 old there).0

        mid : List ServerNode
        mid = with_numbered r.0 new w.world.servers

        go : (n ≡ r.0) ⊎ (n ≢ r.0) → (x : ServerNode) × (numbered w.world.servers n ≡ Some x) × (node.state.id ≡ x.state.id) ×
            IsAsBefore x node
        go (inl e) =
            let own : limited_node w.limits new ≡ node =
            some_is
            (sym (numbered_own mid r.0 (limited_node w.limits new) new (numbered_own w.world.servers r.0 new old there)) ∙
            ap (numbered (with_numbered r.0 (limited_node w.limits new) mid)) (sym e) ∙ q) in (
              old,
              ap (numbered w.world.servers) e ∙ there,
              ap (λ (x : ServerNode). x.state.id) (sym own) ∙ same,
              inr (subst (λ (x : ServerNode). IsEmpty x × ((x.running ≡ false) ⊎ (old.running ≡ false))) own (empty, off)),
            )
        go (inr ne) = (
          node,
          sym (numbered_other mid r.0 n (limited_node w.limits new) low ne ∙ numbered_other w.world.servers r.0 n new low ne) ∙ q,
          refl,
          inl refl,
        )

    begins_server : (e : Event) → NoDelivery e → NobodyTicks e →
        S e (every.node_begins (nodes.Server r) (every.as_plain w (quiet (ev.with_node r new w.world))))
    unfolding every.node_begins every.server_begins
    begins_server e n ticks =
        subst (λ o. S e (every.server_begins (every.as_plain w (quiet (ev.with_node r new w.world))) r o))
        (sym (numbered_own w.world.servers r.0 new old there))
        (quietly e n ticks (every.server_begins (every.as_plain w (quiet (ev.with_node r new w.world))) r (Some new)) refl place (λ n. omega arith) refl)

  begins_none : (e : Event) → NoDelivery e → NobodyTicks e → (r : ServerId) → node_of w.world r ≡ None →
      S e (every.node_begins (nodes.Server r) (every.as_plain w (quiet w.world)))
  unfolding every.node_begins every.server_begins
  begins_none e n ticks r q =
      subst (λ o. S e (every.server_begins (every.as_plain w (quiet w.world)) r o)) (sym q)
      (quietly e n ticks _ refl (λ n node q. (node, q, refl, inl refl)) (λ n. omega arith) refl)

  begun_by : (e : Event) (n : NodeId) (sc : ThirdWorldTurn) → S e (every.node_begins n sc) → S e (every.begins w n sc)
  unfolding every.begins
  begun_by e n sc p = subst (λ b. S e (if b then every.node_begins n sc else sc)) (sym f) p

  crash_story : (n : NodeId) → S (events.Crash n) (every.begins w n (every.as_plain w (ev.happens w.world (events.Crash n))))
  unfolding ev.happens ev.crashes ev.crashes_server server.crash
  crash_story (nodes.Client d) = begun_by _ (nodes.Client d) _ (crash_client d (site_of w.world d) refl)
  crash_story (nodes.Server r) = begun_by _ (nodes.Server r) _ (go (node_of w.world r) refl)
    where
      go : (o : Option ServerNode) → node_of w.world r ≡ o →
          S (events.Crash (nodes.Server r)) (every.node_begins (nodes.Server r) (every.as_plain w (quiet (ev.crashes_server w.world r o))))
      go None q = begins_none (events.Crash (nodes.Server r)) (λ n e. cc) (λ c. refl) r q
      go (Some node) q = begins_server r node (server.crash_node node) q refl (crash_empty w.limits node) (inl refl) (events.Crash (nodes.Server r))
          (λ n e. cc) (λ c. refl)

  start_story : (n : NodeId) → admissible.refusal w.world (events.Start n) ≡ None →
      S (events.Start n) (every.begins w n (every.as_plain w (ev.happens w.world (events.Start n))))
  unfolding ev.happens ev.starts ev.starts_server server.start server.begin_epoch admissible.refusal admissible.stands
  start_story (nodes.Client d) free = begun_by _ (nodes.Client d) _ (start_client d (site_of w.world d) refl off)
    where
      off : (old : WorldClient) → site_of w.world d ≡ Some old → old.node.running ≡ false
      off old q =
          runs old.node.running
          (sym (ap (λ o. option_or (admissible.no_node w.world (nodes.Client d)) (admissible.stands (world.site_runs o)
          (refusals.Running (nodes.Client d)))) q) ∙
          free)
        where
          none : (o : Option WorldRefusal) → option_or o (Some (refusals.Running (nodes.Client d))) ≡ None → ⊥
          none None e = cc
          none (Some x) e = cc

          runs : (b : Bool) → option_or (admissible.no_node w.world (nodes.Client d)) (admissible.stands b (refusals.Running (nodes.Client d))) ≡ None →
              b ≡ false
          runs false e = refl
          runs true e = absurd (none (admissible.no_node w.world (nodes.Client d)) e)
  start_story (nodes.Server r) free = begun_by _ (nodes.Server r) _ (go (node_of w.world r) refl)
    where
      off : (old : ServerNode) → node_of w.world r ≡ Some old → old.running ≡ false
      off old q =
          runs old.running
          (sym (ap (λ o. option_or (admissible.no_node w.world (nodes.Server r)) (admissible.stands (world.node_runs o)
          (refusals.Running (nodes.Server r)))) q) ∙
          free)
        where
          none : (o : Option WorldRefusal) → option_or o (Some (refusals.Running (nodes.Server r))) ≡ None → ⊥
          none None e = cc
          none (Some x) e = cc

          runs : (b : Bool) → option_or (admissible.no_node w.world (nodes.Server r)) (admissible.stands b (refusals.Running (nodes.Server r))) ≡ None →
              b ≡ false
          runs false e = refl
          runs true e = absurd (none (admissible.no_node w.world (nodes.Server r)) e)

      go : (o : Option ServerNode) → node_of w.world r ≡ o →
          S (events.Start (nodes.Server r)) (every.node_begins (nodes.Server r) (every.as_plain w (quiet (ev.starts_server w.world r o))))
      go None q = begins_none (events.Start (nodes.Server r)) (λ n e. cc) (λ c. refl) r q
      go (Some node) q =
          begins_server r node (server.start_node node (clock_of w.world (nodes.Server r))) q refl
          (start_empty w.limits node (clock_of w.world (nodes.Server r))) (inr (off node q)) (events.Start (nodes.Server r))
          (λ n e. cc) (λ c. refl)

  -- What an event does, if a start of a node that runs is refused.
  pub story : (e : ThirdEvent) → ((n : NodeId) → e ≡ third.Plain (events.Start n) → admissible.refusal w.world (events.Start n) ≡ None) →
      S (plain_event e) (every.happens w e)
  unfolding every.happens every.plain_happens every.reports_of ev.happens ev.advances ev.effects ev.marks ev.loses_message
  story (third.Leave d s) free = ask_story (plain_event (third.Leave d s)) (λ n e. cc) d (λ op. takes.Leave op s) (λ op n x e there to. none e) (λ c ne. refl)
    where
      none : {n : ℕ} → plain_event (third.Leave d s) ≡ events.Deliver n → ⊥
      none e = cc
  story (third.Plain (events.Tick n)) free = tick_story n
  story (third.Plain (events.App d ask)) free =
      ask_story (events.App d ask) (λ n e. cc) d (λ op. takes.Plain (inputs.App op ask)) (λ op n x e there to. none e) (λ c ne. refl)
    where
      none : {n : ℕ} → events.App d ask ≡ events.Deliver n → ⊥
      none e = cc
  story (third.Plain (events.Deliver k)) free = delivery_story k (message_of w.world k) refl
  story (third.Plain (events.Lose k)) free = lost (message_of w.world k) refl
    where
      lost : (o : Option SentMessage) → message_of w.world k ≡ o → S (events.Lose k) (every.as_plain w (quiet (ev.loses_message w.world k o)))
      lost None q = quietly (events.Lose k) (λ n e. cc) (λ c. refl) _ refl (λ n node q. (node, q, refl, inl refl)) (λ n. omega arith) refl
      lost (Some m) q = quietly (events.Lose k) (λ n e. cc) (λ c. refl) _ refl (λ n node q. (node, q, refl, inl refl)) (λ n. omega arith)
          (lost_same w.world k m q)
  story (third.Plain (events.Cut a b)) free = quietly (events.Cut a b) (λ n e. cc) (λ c. refl) _ refl (λ n node q. (node, q, refl, inl refl))
      (λ n. omega arith) refl
  story (third.Plain (events.Heal a b)) free = quietly (events.Heal a b) (λ n e. cc) (λ c. refl) _ refl (λ n node q. (node, q, refl, inl refl))
      (λ n. omega arith) refl
  story (third.Plain (events.Advance ds)) free =
      quietly (events.Advance ds) (λ n e. cc) (λ c. refl) _ refl (λ n node q. (node, q, refl, inl refl))
      (λ n. let z = clocks_go_on ds w.world.clocks n in omega (arith, z)) refl
  story (third.Plain (events.Effect k)) free = quietly (events.Effect k) (λ n e. cc) (λ c. refl) _ refl (λ n node q. (node, q, refl, inl refl))
      (λ n. omega arith) refl
  story (third.Plain (events.Report k ok)) free = told_story k ok (issued_of w.world k)
  story (third.Plain (events.Crash n)) free = crash_story n
  story (third.Plain (events.Start n)) free = start_story n (free n refl)
