-- What an event of the third form does to one server: it takes a step, is as it was, stops, begins anew, or isn't there.
use Rattle.st_lemmas.proofs.Words
use Words.{◌≡◌, ◌≢◌, ℕ, zero, suc, ◌+◌, ◌-◌, ◌≤◌, ◌⊎◌, Bool, true, false, List, [], ◌∷◌, ◌==◌, map, length, Option, Some, None, Ok, Err, refl, sym, ap, ◌∙◌, subst, inl, inr, arith}
use Words.{if◌then◌else◌, unwrap_or, nat_le, le-leb, eq-eqb, eqb-true, leb-true, ClientId, IssuedCommand, Message, NodeId, Note, Output, Phase, SentMessage, ServerId, ServerInput, Stamp}
use Words.events
use Words.nodes
use Words.notes
use Words.outputs
use Words.phases
use Words.refusals
use Words.seen
use Words.serving.{Tick, Control}
use Words.Admissible as admissible
use Words.Client as plain
use Words.ClientState.{ClientState}
use Words.Events as ev
use Words.Events.{WorldTurn, quiet}
use Words.Keys.{client, server_node}
use Words.Lists.{Has}
use Words.Lookups.{if_false, if_true}
use Words.Numbers.{numbered_below, numbered_other, numbered_own}
use Words.Server as server
use Words.Server.{ServerNode, ServerState}
use Words.Tables.{same_or_not}
use Words.World as world
use Words.World.{World, WorldClient, all_servers, clock_of, issued_of, message_of, node_of, node_runs, numbered, site_of, stamp, with_numbered}
use Rattle.std.specs.Option.{option_or}
use Rattle.st_base.specs.Nodes.{SERVER_BASE}
use Rattle.st_rules.specs.declared.node.StepRefusal.TheVariants.{Crashed}
use Rattle.st_rules.specs.declared.observation.Observation.{Observation}
use Rattle.st_rules.specs.declared.observation.WorldRefusal.{WorldRefusal}
use Rattle.st_third.specs.declared.event.ThirdEvent.{ThirdEvent}
use Rattle.st_third.specs.declared.event.ThirdEvent.TheVariants as third
use Rattle.st_third.specs.declared.event.ThirdInput.{ThirdInput}
use Rattle.st_third.specs.declared.event.ThirdInput.TheVariants as takes
use Rattle.st_third.specs.declared.output.ThirdOutput.{ThirdOutput}
use Rattle.st_third.specs.declared.output.ThirdOutput.TheVariants as says
use Rattle.st_third.specs.Events as every
use Rattle.st_third.specs.Events.{ThirdWorldTurn, plain_seen, unseen}
use Rattle.st_third.specs.Limits.{is_client_node, is_third, limited_node, most_clients, node_at}
use Rattle.st_third.specs.Server as hearing
use Rattle.st_third.specs.State.{ClientBeside, ThirdClientTurn}
use Rattle.st_third.specs.Steps.{plain_event, plainly_seen}
use Rattle.st_third.specs.World.{ThirdWorld, beside_of, receiver_of}
use Rattle.st_trace.specs.Server.Steps.{step_of}
use Rattle.st_laws_refine.proofs.Server.Delivery.{SameParts, all_parts}
use Rattle.st_laws_leases.proofs.Dates.SentMessages.{server_said}
use Rattle.st_laws_waits.specs.Waits.{received, received_in}
use Rattle.st_laws_waits.proofs.Causes.{Arrives, stepped_of}

-- the clients that a server of the third form hears
abbrev pub C : ℕ → Bool
C = is_client_node 3

-- Clients leave the servers.

client_note : (sc : WorldTurn) (c : ClientId) (before : ClientState) (n : Note) → (ev.client_notes sc c before n).world.servers ≡ sc.world.servers
unfolding ev.client_notes ev.accepts ev.patches ev.loses
client_note sc c before (notes.Lost s life) = refl
client_note sc c before n = refl

client_one : (sc : WorldTurn) (c : ClientId) (before : ClientState) (o : Output) → (ev.client_says sc c before o).world.servers ≡ sc.world.servers
unfolding ev.client_says ev.sends ev.submits ev.answers_with
client_one sc c before (outputs.Submit number at what) = go (site_of sc.world c)
  where
    go : (site : Option WorldClient) → (ev.submits sc c site number at what).world.servers ≡ sc.world.servers
    go None = refl
    go (Some site) = refl
client_one sc c before (outputs.Note n) = client_note sc c before n
client_one sc c before o = refl

third_one : (sc : ThirdWorldTurn) (c : ClientId) (before : ClientState) (o : ThirdOutput) →
    (every.client_says sc c before o).third.world.servers ≡ sc.third.world.servers
unfolding every.client_says
third_one sc c before (says.Plain o) = client_one (quiet sc.third.world) c before o
third_one sc c before o = refl

third_all : (c : ClientId) (before : ClientState) (os : List ThirdOutput) (sc : ThirdWorldTurn) →
    (every.client_says_all c before os sc).third.world.servers ≡ sc.third.world.servers
unfolding every.client_says_all
third_all c before [] sc = refl
third_all c before (o ∷ os) sc = third_all c before os (every.client_says sc c before o) ∙ third_one sc c before o

flush_one : (w : World) (c : ClientId) (s : ServerId) (end : Option Stamp) (phase : Option Phase) → (ev.flushed_in w c s end phase).servers ≡ w.servers
flush_one w c s None (Some phases.Flush) = refl
flush_one w c s (Some end) (Some phases.Flush) = refl
flush_one w c s end phase = refl

flush_all : (c : ClientId) (state : ClientState) (ss : List ServerId) (w : World) → (ev.flushes c state ss w).servers ≡ w.servers
unfolding ev.flushes
flush_all c state [] w = refl
flush_all c state (s ∷ ss) w =
    flush_all c state ss (ev.flushed_at w c s state) ∙ flush_one w c s (plain.lease_end_with state s) (plain.phase_with state s (clock_of w (nodes.Client c)))

pub took_servers : (w : ThirdWorld) (c : ClientId) (site : WorldClient) (t : ThirdClientTurn) → (every.client_took w c site t).third.world.servers ≡ w.world.servers
unfolding every.client_took
took_servers w c site t =
    let sc : ThirdWorldTurn = every.client_says_all c site.node.state t.out (unseen (every.with_client c site t.client w)) in
    flush_all c t.client.plain (all_servers sc.third.world) sc.third.world ∙ third_all c site.node.state t.out (unseen (every.with_client c site t.client w))

module _ (w : ThirdWorld) (f : is_third w.world.form ≡ true) where
  takes_servers : (c : ClientId) (input : ThirdInput) (site : WorldClient) → (every.client_takes w c input site).third.world.servers ≡ w.world.servers
  unfolding every.client_takes every.running_takes every.third_takes
  takes_servers c input site = running site.node.running
    where
      by_beside : (b : Option ClientBeside) → (every.third_takes w c input site b).third.world.servers ≡ w.world.servers
      by_beside None = refl
      by_beside (Some b) = took_servers w c site _

      by_form : (x : Bool) → x ≡ true → (if x then every.third_takes w c input site (beside_of w c) else every.plain_takes w c input site).third.world.servers ≡
          w.world.servers
      by_form true q = by_beside (beside_of w c)
      by_form false q = absurd (no q)
        where
          no : false ≡ true → ⊥
          no q = cc

      running : (x : Bool) → (if x then every.running_takes w c input site else unseen w).third.world.servers ≡ w.world.servers
      running true = by_form (is_third w.world.form) f
      running false = refl

  at_client_servers : (c : ClientId) (input : ThirdInput) (site : Option WorldClient) → (every.at_client w c input site).third.world.servers ≡ w.world.servers
  unfolding every.at_client
  at_client_servers c input None = refl
  at_client_servers c input (Some site) = takes_servers c input site

  asks_servers : (c : ClientId) (ask : ℕ → ThirdInput) (site : Option WorldClient) → (every.asks_at w c ask site).third.world.servers ≡ w.world.servers
  unfolding every.asks_at
  asks_servers c ask None = refl
  asks_servers c ask (Some site) = takes_servers c (ask (site.asks + 1)) (ev.asked_once_more site)

  tells_servers : (k : ℕ) (ok : Bool) (c : Option IssuedCommand) → (every.tells w k ok c).third.world.servers ≡ w.world.servers
  unfolding every.tells every.tells_client every.tells_site
  tells_servers k ok None = refl
  tells_servers k ok (Some c) = go (site_of w.world c.client)
    where
      by_instance : (site : WorldClient) (b : Bool) →
          (if b then every.client_takes w c.client (takes.Plain (ev.end_told w.world k ok c)) site else unseen w).third.world.servers ≡ w.world.servers
      by_instance site true = takes_servers c.client _ site
      by_instance site false = refl

      go : (site : Option WorldClient) → (every.tells_client w k ok c site).third.world.servers ≡ w.world.servers
      go None = refl
      go (Some site) = by_instance site (ev.is_same_instance c site)

-- a client that crashes or starts
begins_client : (w : ThirdWorld) (c : ClientId) (sc : WorldTurn) → sc.world.servers ≡ w.world.servers →
    (every.node_begins (nodes.Client c) (every.as_plain w sc)).third.world.servers ≡ w.world.servers
unfolding every.node_begins every.client_begins
begins_client w c sc e = go (site_of sc.world c)
  where
    go : (o : Option WorldClient) → (every.client_begins (every.as_plain w sc) c o).third.world.servers ≡ w.world.servers
    go None = e
    go (Some x) = e

-- what the world saw is what every form sees
seen_through : (os : List Observation) (o : Observation) → Has o os → Has o (plainly_seen (map plain_seen os))
seen_through [] o h = absurd h
seen_through (x ∷ xs) o (inl e) = inl e
seen_through (x ∷ xs) o (inr h) = inr (seen_through xs o h)

third_step_is : (n : ServerState) (now : Stamp) (i : ServerInput) → hearing.server_step 3 n now i ≡ step_of C n now i
unfolding hearing.server_step hearing.take_input hearing.receive
third_step_is n now Tick = refl
third_step_is n now (Control m) = refl

-- a step of a server of the third form is one that hears its clients
pub step_is : (form : ℕ) → form ≡ 3 → (n : ServerState) (now : Stamp) (i : ServerInput) → hearing.server_step form n now i ≡ step_of C n now i
step_is form e n now i = ap (λ x. hearing.server_step x n now i) e ∙ third_step_is n now i

-- the node of a number, up to 64 or above
node_is : (form n : ℕ) → is_third form ≡ true →
    node_at form n ≡ (if nat_le n 64 then nodes.Client (client n) else nodes.Server (world.server (n - SERVER_BASE)))
unfolding node_at most_clients
node_is form n f = ap (λ b. if nat_le n (if b then 64 else 16) then nodes.Client (client n) else nodes.Server (world.server (n - SERVER_BASE))) f

pub near_node : (form n : ℕ) → is_third form ≡ true → n ≤ 64 → node_at form n ≡ nodes.Client (client n)
near_node form n f l = node_is form n f ∙ ap (λ b. if b then nodes.Client (client n) else nodes.Server (world.server (n - SERVER_BASE))) (le-leb n 64 l)

pub node_by : (form n : ℕ) → is_third form ≡ true → ((n ≤ 64) × (node_at form n ≡ nodes.Client (client n))) ⊎
    (node_at form n ≡ nodes.Server (world.server (n - SERVER_BASE)))
node_by form n f = go (nat_le n 64) refl
  where
    go : (b : Bool) → nat_le n 64 ≡ b → ((n ≤ 64) × (node_at form n ≡ nodes.Client (client n))) ⊎
        (node_at form n ≡ nodes.Server (world.server (n - SERVER_BASE)))
    go true e = inl (leb-true n 64 e, near_node form n f (leb-true n 64 e))
    go false e = inr (node_is form n f ∙ ap (λ b. if b then nodes.Client (client n) else nodes.Server (world.server (n - SERVER_BASE))) e)

-- What an event does to a server.
pub data Outcome (s : ServerId) (w : ThirdWorld) (e : ThirdEvent) (sc : ThirdWorldTurn) : Type 0 where
  Takes : (old : ServerNode) (i : ServerInput) → node_of w.world s ≡ Some old → old.running ≡ true → Arrives s w.world (plain_event e) i →
      node_of sc.third.world s ≡ Some (stepped_of C old (clock_of w.world (nodes.Server s)) i) →
      clock_of sc.third.world (nodes.Server s) ≡ clock_of w.world (nodes.Server s) →
      ((m : Message) → Has (outputs.Send m) (step_of C old.state (clock_of w.world (nodes.Server s)) i).out →
      (n : ℕ) × Has (seen.Sent n m) (plainly_seen sc.seen)) →
      Outcome s w e sc
  Stays : node_of sc.third.world s ≡ node_of w.world s → received s w.world (plain_event e) ≡ None → Outcome s w e sc
  Stops : (new : ServerNode) → node_of sc.third.world s ≡ Some new → new.running ≡ false → Outcome s w e sc
  IsOff : (old : ServerNode) → node_of w.world s ≡ Some old → old.running ≡ false → Outcome s w e sc
  IsAbsent : node_of w.world s ≡ None → node_of sc.third.world s ≡ None → Outcome s w e sc

module _ (s : ServerId) (w : ThirdWorld) (f : is_third w.world.form ≡ true) where
  rests : (e : ThirdEvent) (sc : ThirdWorldTurn) → sc.third.world.servers ≡ w.world.servers → received s w.world (plain_event e) ≡ None → Outcome s w e sc
  rests e sc q deaf = Stays (ap (λ xs. numbered xs s.0) q) deaf

  -- this server
  own_step : (e : ThirdEvent) (i : ServerInput) → Arrives s w.world (plain_event e) i → (o : Option ServerNode) → node_of w.world s ≡ o →
      Outcome s w e (every.at_server w s i o)
  unfolding every.at_server every.server_takes ev.server_took hearing.node_step
  own_step e i arrives None q = IsAbsent q q
  own_step e i arrives (Some node) q = go node.running refl
    where
      now : Stamp
      now = clock_of w.world (nodes.Server s)

      t : server.NodeTurn
      t = server.node_turn node (hearing.server_step w.world.form node.state now i)

      same : hearing.server_step w.world.form node.state now i ≡ step_of C node.state now i
      same = step_is w.world.form (eqb-true w.world.form 3 f) node.state now i

      parts : SameParts (ev.with_node s t.node w.world) (ev.server_says_all s t.out (quiet (ev.with_node s t.node w.world))).world
      parts = all_parts s t.out (quiet (ev.with_node s t.node w.world))

      go : (b : Bool) → node.running ≡ b → Outcome s w e (every.as_plain w (ev.server_took w.world s (if b then Ok t else Err Crashed)))
      go false r = IsOff node q r
      go true r =
          Takes node i q r arrives
          (ap (λ xs. numbered xs s.0) parts.servers ∙ numbered_own w.world.servers s.0 t.node node q ∙
          ap (λ (u : server.ServerTurn). Some (record node { state = u.state })) same)
          (λ j. unwrap_or (numbered (parts.clocks j) (length (parts.clients j) + s.0)) (stamp 0))
          (λ m h. let z = (server_said s t.out (quiet (ev.with_node s t.node w.world))).told m
          (subst (λ (u : server.ServerTurn). Has (outputs.Send m) u.out) (sym same) h) in
          (z.0, seen_through _ (seen.Sent z.0 m) z.1))

  -- another one
  other_step : (r : ServerId) (i : ServerInput) → s.0 ≢ r.0 → (o : Option ServerNode) → node_of w.world r ≡ o →
      node_of (every.at_server w r i o).third.world s ≡ node_of w.world s
  unfolding every.at_server every.server_takes ev.server_took hearing.node_step
  other_step r i ne None q = refl
  other_step r i ne (Some node) q = go node.running
    where
      t : server.NodeTurn
      t = server.node_turn node (hearing.server_step w.world.form node.state (clock_of w.world (nodes.Server r)) i)

      go : (b : Bool) → node_of (every.as_plain w (ev.server_took w.world r (if b then Ok t else Err Crashed))).third.world s ≡ node_of w.world s
      go false = refl
      go true =
          ap (λ xs. numbered xs s.0) (all_parts r t.out (quiet (ev.with_node r t.node w.world))).servers
          ∙ numbered_other w.world.servers r.0 s.0 t.node (numbered_below w.world.servers r.0 node q).0 ne

  ticked : (n : NodeId) → Outcome s w (third.Plain (events.Tick n)) (every.ticks w n)
  unfolding every.ticks
  ticked (nodes.Client c) = rests (third.Plain (events.Tick (nodes.Client c))) _ (at_client_servers w f c _ (site_of w.world c)) refl
  ticked (nodes.Server r) = go (same_or_not s.0 r.0)
    where
      go : (s.0 ≡ r.0) ⊎ (s.0 ≢ r.0) → Outcome s w (third.Plain (events.Tick (nodes.Server r))) (every.at_server w r Tick (node_of w.world r))
      go (inl e) =
          subst (λ (x : ServerId). Outcome s w (third.Plain (events.Tick (nodes.Server x))) (every.at_server w x Tick (node_of w.world x)))
          (ap (λ n. world.server n) e)
          (own_step (third.Plain (events.Tick (nodes.Server s))) Tick refl (node_of w.world s) refl)
      go (inr ne) = Stays (other_step r Tick ne (node_of w.world r) refl) refl

  -- A message.
  module _ (low : 1 ≤ s.0) (k : ℕ) where
    abbrev E : ThirdEvent
    E = third.Plain (events.Deliver k)

    delivered : (o : Option SentMessage) → message_of w.world k ≡ o → Outcome s w E (every.delivers w o)
    unfolding every.delivers every.delivers_to
    delivered None q = rests E _ refl (ap (received_in s) q)
    delivered (Some m) q = by (node_by w.world.form m.message.header.to f)
      where
        unheard : (m.message.header.to ≡ server_node s → ⊥) → received s w.world (events.Deliver k) ≡ None
        unheard wrong = ap (received_in s) q ∙ if_false (m.message.header.to == server_node s) (Some m.message) None
            (differs (m.message.header.to == server_node s) refl)
          where
            differs : (b : Bool) → (m.message.header.to == server_node s) ≡ b → (m.message.header.to == server_node s) ≡ false
            differs true e = absurd (wrong (eqb-true m.message.header.to (server_node s) e))
            differs false e = e

        heard : m.message.header.to ≡ server_node s → received s w.world (events.Deliver k) ≡ Some m.message
        heard e = ap (received_in s) q ∙ if_true (m.message.header.to == server_node s) (Some m.message) None (eq-eqb m.message.header.to (server_node s) e)

        to : NodeId → Type 0
        to n = Outcome s w E (every.delivers_to w m.message n)

        by : ((m.message.header.to ≤ 64) × (receiver_of w.world m ≡ nodes.Client (client m.message.header.to))) ⊎
            (receiver_of w.world m ≡ nodes.Server (world.server (m.message.header.to - SERVER_BASE))) → to (receiver_of w.world m)
        by (inl z) =
            subst to (sym z.1)
            (rests E _ (at_client_servers w f (client m.message.header.to) _ (site_of w.world (client m.message.header.to)))
            (unheard (λ e. let l = z.0 in absurd (omega (arith, e, l)))))
        by (inr z) = subst to (sym z) (at (same_or_not m.message.header.to (server_node s)))
          where
            r : ServerId
            r = world.server (m.message.header.to - SERVER_BASE)

            at : (m.message.header.to ≡ server_node s) ⊎ (m.message.header.to ≢ server_node s) → to (nodes.Server r)
            at (inl e) =
                subst (λ (x : ServerId). to (nodes.Server x)) (ap (λ n. world.server n) (let y : s.0 ≡ m.message.header.to - 32768 = omega (arith, e) in y))
                (own_step E (Control m.message) (heard e) (node_of w.world s) refl)
            at (inr ne) =
                Stays (other_step r (Control m.message) (λ e. ne (let y : m.message.header.to ≡ 32768 + s.0 = omega (arith, e, low) in y)) (node_of w.world r)
                refl)
                (unheard ne)

  -- A server that crashes or starts.

  -- its place in the world, with the limits
  begun : (r : ServerId) (old new : ServerNode) → node_of w.world r ≡ Some old →
      (numbered (every.node_begins (nodes.Server r) (every.as_plain w (quiet (ev.with_node r new w.world)))).third.world.servers s.0
      ≡ numbered (with_numbered r.0 (limited_node w.limits new) (with_numbered r.0 new w.world.servers)) s.0)
  unfolding every.node_begins every.server_begins
  begun r old new q =
      ap (λ o. numbered (every.server_begins (every.as_plain w (quiet (ev.with_node r new w.world))) r o).third.world.servers s.0)
      (numbered_own w.world.servers r.0 new old q)

  others : (r : ServerId) (old new : ServerNode) → node_of w.world r ≡ Some old → s.0 ≢ r.0 →
      numbered (with_numbered r.0 (limited_node w.limits new) (with_numbered r.0 new w.world.servers)) s.0 ≡ node_of w.world s
  others r old new q ne =
      let low = (numbered_below w.world.servers r.0 old q).0 in
      numbered_other (with_numbered r.0 new w.world.servers) r.0 s.0 (limited_node w.limits new) low ne ∙ numbered_other w.world.servers r.0 s.0 new low ne

  -- nothing is there
  nobody : (r : ServerId) → node_of w.world r ≡ None →
      (every.node_begins (nodes.Server r) (every.as_plain w (quiet w.world))).third.world.servers ≡ w.world.servers
  unfolding every.node_begins every.server_begins
  nobody r q = ap (λ o. (every.server_begins (every.as_plain w (quiet w.world)) r o).third.world.servers) q

  crashed : (n : NodeId) → Outcome s w (third.Plain (events.Crash n)) (every.node_begins n (every.as_plain w (ev.happens w.world (events.Crash n))))
  unfolding ev.happens ev.crashes ev.crashes_client ev.crashes_server ev.marks
  crashed (nodes.Client c) = rests (third.Plain (events.Crash (nodes.Client c))) _
      (begins_client w c (ev.crashes_client w.world c (site_of w.world c)) (go (site_of w.world c))) refl
    where
      go : (o : Option WorldClient) → (ev.crashes_client w.world c o).world.servers ≡ w.world.servers
      go None = refl
      go (Some site) = refl
  crashed (nodes.Server r) = go (node_of w.world r) refl
    where
      go : (o : Option ServerNode) → node_of w.world r ≡ o →
          Outcome s w (third.Plain (events.Crash (nodes.Server r)))
          (every.node_begins (nodes.Server r) (every.as_plain w (quiet (ev.crashes_server w.world r o))))
      go None q = rests (third.Plain (events.Crash (nodes.Server r))) _ (nobody r q) refl
      go (Some old) q = by (same_or_not s.0 r.0)
        where
          new : ServerNode
          new = server.crash_node old

          by : (s.0 ≡ r.0) ⊎ (s.0 ≢ r.0) →
              Outcome s w (third.Plain (events.Crash (nodes.Server r)))
              (every.node_begins (nodes.Server r) (every.as_plain w (quiet (ev.with_node r new w.world))))
          by (inl e) =
              Stops (limited_node w.limits new)
              (begun r old new q
              ∙ ap (numbered (with_numbered r.0 (limited_node w.limits new) (with_numbered r.0 new w.world.servers))) e
              ∙ numbered_own (with_numbered r.0 new w.world.servers) r.0 (limited_node w.limits new) new (numbered_own w.world.servers r.0 new old q)) refl
          by (inr ne) = Stays (begun r old new q ∙ others r old new q ne) refl

  started : (n : NodeId) → admissible.refusal w.world (events.Start n) ≡ None →
      Outcome s w (third.Plain (events.Start n)) (every.node_begins n (every.as_plain w (ev.happens w.world (events.Start n))))
  unfolding ev.happens ev.starts ev.starts_client ev.starts_server admissible.refusal admissible.stands
  started (nodes.Client c) free = rests (third.Plain (events.Start (nodes.Client c))) _
      (begins_client w c (quiet (ev.starts_client w.world c (site_of w.world c))) (go (site_of w.world c))) refl
    where
      go : (o : Option WorldClient) → (ev.starts_client w.world c o).servers ≡ w.world.servers
      go None = refl
      go (Some site) = refl
  started (nodes.Server r) free = go (node_of w.world r) refl
    where
      off : (old : ServerNode) → node_of w.world r ≡ Some old → old.running ≡ false
      off old q =
          runs old.running
          (sym (ap (λ o. option_or (admissible.no_node w.world (nodes.Server r)) (admissible.stands (node_runs o) (refusals.Running (nodes.Server r)))) q) ∙
          free)
        where
          runs : (b : Bool) → option_or (admissible.no_node w.world (nodes.Server r)) (admissible.stands b (refusals.Running (nodes.Server r))) ≡ None →
              b ≡ false
          runs false e = refl
          runs true e = absurd (no (admissible.no_node w.world (nodes.Server r)) e)
            where
              no : (o : Option WorldRefusal) → option_or o (Some (refusals.Running (nodes.Server r))) ≡ None → ⊥
              no None e = cc
              no (Some x) e = cc

      go : (o : Option ServerNode) → node_of w.world r ≡ o →
          Outcome s w (third.Plain (events.Start (nodes.Server r)))
          (every.node_begins (nodes.Server r) (every.as_plain w (quiet (ev.starts_server w.world r o))))
      go None q = rests (third.Plain (events.Start (nodes.Server r))) _ (nobody r q) refl
      go (Some old) q = by (same_or_not s.0 r.0)
        where
          new : ServerNode
          new = server.start_node old (clock_of w.world (nodes.Server r))

          by : (s.0 ≡ r.0) ⊎ (s.0 ≢ r.0) →
              Outcome s w (third.Plain (events.Start (nodes.Server r)))
              (every.node_begins (nodes.Server r) (every.as_plain w (quiet (ev.with_node r new w.world))))
          by (inl e) = IsOff old (ap (numbered w.world.servers) e ∙ q) (off old q)
          by (inr ne) = Stays (begun r old new q ∙ others r old new q ne) refl

-- a message that is lost
lost_servers : (w : World) (k : ℕ) (m : Option SentMessage) → (ev.loses_message w k m).servers ≡ w.servers
unfolding ev.loses_message
lost_servers w k None = refl
lost_servers w k (Some m) = refl

-- in the third form
begun_by : (s : ServerId) (w : ThirdWorld) (e : ThirdEvent) (n : NodeId) (sc : ThirdWorldTurn) (b : Bool) → b ≡ true → Outcome s w e (every.node_begins n sc) →
    Outcome s w e (if b then every.node_begins n sc else sc)
begun_by s w e n sc true q o = o
begun_by s w e n sc false q o = absurd (no q)
  where
    no : false ≡ true → ⊥
    no q = cc

-- if a start of a node that runs is refused
abbrev pub StartsOnce : ThirdWorld → ThirdEvent → Type 0
StartsOnce w e = (n : NodeId) → e ≡ third.Plain (events.Start n) → admissible.refusal w.world (events.Start n) ≡ None

outcome_of : (s : ServerId) (w : ThirdWorld) → is_third w.world.form ≡ true → 1 ≤ s.0 → (e : ThirdEvent) → StartsOnce w e → Outcome s w e (every.happens w e)
unfolding every.happens every.plain_happens every.begins every.reports_of ev.happens ev.advances ev.effects ev.marks
outcome_of s w f low (third.Leave c r) free = rests s w f (third.Leave c r) _ (asks_servers w f c _ (site_of w.world c)) refl
outcome_of s w f low (third.Plain (events.Tick n)) free = ticked s w f n
outcome_of s w f low (third.Plain (events.App c ask)) free = rests s w f (third.Plain (events.App c ask)) _ (asks_servers w f c _ (site_of w.world c)) refl
outcome_of s w f low (third.Plain (events.Deliver k)) free = delivered s w f low k (message_of w.world k) refl
outcome_of s w f low (third.Plain (events.Lose k)) free = rests s w f (third.Plain (events.Lose k)) _ (lost_servers w.world k (message_of w.world k)) refl
outcome_of s w f low (third.Plain (events.Cut from to)) free = rests s w f (third.Plain (events.Cut from to)) _ refl refl
outcome_of s w f low (third.Plain (events.Heal from to)) free = rests s w f (third.Plain (events.Heal from to)) _ refl refl
outcome_of s w f low (third.Plain (events.Advance steps)) free = rests s w f (third.Plain (events.Advance steps)) _ refl refl
outcome_of s w f low (third.Plain (events.Effect k)) free = rests s w f (third.Plain (events.Effect k)) _ refl refl
outcome_of s w f low (third.Plain (events.Report k ok)) free =
    rests s w f (third.Plain (events.Report k ok)) _ (tells_servers (every.with_report k ok w) f k ok (issued_of w.world k)) refl
outcome_of s w f low (third.Plain (events.Crash n)) free = begun_by s w (third.Plain (events.Crash n)) n _ (is_third w.world.form) f (crashed s w f n)
outcome_of s w f low (third.Plain (events.Start n)) free =
    begun_by s w (third.Plain (events.Start n)) n _ (is_third w.world.form) f (started s w f n (free n refl))

-- What an event does to a server.
pub outcome : (s : ServerId) (w : ThirdWorld) (e : ThirdEvent) → is_third w.world.form ≡ true → StartsOnce w e → Outcome s w e (every.happens w e)
outcome s w e f free = at s.0 refl
  where
    at : (n : ℕ) → s.0 ≡ n → Outcome s w e (every.happens w e)
    at zero z = IsAbsent (ap (numbered w.world.servers) z) (ap (numbered (every.happens w e).third.world.servers) z)
    at (suc n) z = outcome_of s w f (omega (arith, z)) e free
