-- What an event does in a world of the third form, walked once: what holds in each case holds of every event.
use Rattle.st_lemmas.proofs.Words
use Words.{◌≡◌, ◌+◌, ℕ, Bool, true, false, List, Option, Some, None, Ok, Err, refl, sym, subst, if◌then◌else◌}
use Words.{Ask, ClientId, IssuedCommand, NodeId, SentMessage, ServerId, ServerInput, Stamp}
use Words.events
use Words.nodes
use Words.serving
use Words.Events as ev
use Words.Events.{quiet}
use Words.Lists.{Has}
use Words.Numbers.{numbered_has, numbered_own}
use Words.Server as server
use Words.Server.{ServerNode}
use Words.World.{WorldClient, clock_of, issued_of, message_of, node_of, site_of}
use Rattle.st_rules.specs.declared.client.ClientInput.TheVariants as inputs
use Rattle.st_rules.specs.declared.node.StepRefusal.TheVariants.{Crashed}
use Rattle.st_third.specs.declared.event.ThirdEvent.{ThirdEvent}
use Rattle.st_third.specs.declared.event.ThirdEvent.TheVariants as third
use Rattle.st_third.specs.declared.event.ThirdInput.{ThirdInput}
use Rattle.st_third.specs.declared.event.ThirdInput.TheVariants as takes
use Rattle.st_third.specs.Client.{client_step}
use Rattle.st_third.specs.Events as every
use Rattle.st_third.specs.Events.{ThirdWorldTurn, unseen}
use Rattle.st_third.specs.Limits.{is_third}
use Rattle.st_third.specs.Server.{node_step, server_step}
use Rattle.st_third.specs.State.{ClientBeside, ThirdClientTurn}
use Rattle.st_third.specs.World.{ThirdWorld, beside_of, receiver_of}
use Rattle.st_laws_third.specs.Changes.{Heard, HeardMessage}
use Rattle.st_laws_third.specs.Living.{heard_in}

-- a client's step at an input
abbrev pub Client_step : ThirdWorld → ClientId → WorldClient → ClientBeside → ThirdInput → ThirdClientTurn
Client_step w c site b input = client_step w.limits (every.third_client site b) (clock_of w.world (nodes.Client c)) input

-- a server's step at an input
abbrev pub Server_step : ThirdWorld → ServerId → ServerNode → ServerInput → server.NodeTurn
Server_step w s node input = server.node_turn node (server_step w.world.form node.state (clock_of w.world (nodes.Server s)) input)

-- How an event makes a client take an input, and which client that was before: one that is asked counts one ask more.
pub data ClientTakes (w : ThirdWorld) (c : ClientId) (old : WorldClient) : ThirdEvent → WorldClient → ThirdInput → Type 0 where
  ClientTicks : ClientTakes w c old (third.Plain (events.Tick (nodes.Client c))) old (takes.Plain inputs.Tick)
  IsAsked : (ask : Ask) → ClientTakes w c old (third.Plain (events.App c ask)) (ev.asked_once_more old) (takes.Plain (inputs.App (old.asks + 1) ask))
  IsAskedToLeave : (s : ServerId) → ClientTakes w c old (third.Leave c s) (ev.asked_once_more old) (takes.Leave (old.asks + 1) s)
  ClientGets : (k : ℕ) (m : SentMessage) → message_of w.world k ≡ Some m → receiver_of w.world m ≡ nodes.Client c →
      ClientTakes w c old (third.Plain (events.Deliver k)) old (takes.Plain (inputs.Control m.message))
  IsTold : (k : ℕ) (ok : Bool) (x : IssuedCommand) → issued_of w.world k ≡ Some x → x.client ≡ c →
      ClientTakes w c old (third.Plain (events.Report k ok)) old (takes.Plain (ev.end_told w.world k ok x))

-- How it makes a server take one.
pub data ServerTakes (w : ThirdWorld) (s : ServerId) : ThirdEvent → ServerInput → Type 0 where
  ServerTicks : ServerTakes w s (third.Plain (events.Tick (nodes.Server s))) serving.Tick
  ServerGets : (k : ℕ) (m : SentMessage) → message_of w.world k ≡ Some m → receiver_of w.world m ≡ nodes.Server s →
      ServerTakes w s (third.Plain (events.Deliver k)) (serving.Control m.message)

-- What a law owes in each case of an event, from a world to what the event makes of it. Only nodes that run take an input.
pub record EventLawOf (e : ThirdEvent) (P : ThirdWorld → ThirdWorldTurn → Type 0) : Type 0 where
  -- nothing happens
  pub still : (w : ThirdWorld) → P w (unseen w)
  -- a client takes an input; if the input is an ask, one more is counted
  pub takes : (w : ThirdWorld) (c : ClientId) (old site : WorldClient) (b : ClientBeside) (input : ThirdInput) → site_of w.world c ≡ Some old →
      site.node ≡ old.node → beside_of w c ≡ Some b → ClientTakes w c old e site input → site.node.running ≡ true →
      P w (every.client_took w c site (Client_step w c site b input))
  -- a server takes an input
  pub serves : (w : ThirdWorld) (s : ServerId) (node : ServerNode) (input : ServerInput) → node_of w.world s ≡ Some node → ServerTakes w s e input →
      node.running ≡ true → P w (every.as_plain w (ev.server_took w.world s (Ok (Server_step w s node input))))
  -- the network
  pub loses : (w : ThirdWorld) (k : ℕ) (m : SentMessage) → message_of w.world k ≡ Some m → P w (every.as_plain w (quiet (ev.with_lost k m w.world)))
  pub cuts : (w : ThirdWorld) (from to : NodeId) → P w (every.as_plain w (quiet (ev.with_cut from to w.world)))
  pub heals : (w : ThirdWorld) (from to : NodeId) → P w (every.as_plain w (quiet (ev.without_cut from to w.world)))
  -- the clocks and the disks
  pub advances : (w : ThirdWorld) (steps : List ℕ) → P w (every.as_plain w (ev.advances w.world steps))
  pub effects : (w : ThirdWorld) (k : ℕ) → P w (every.as_plain w (ev.effects w.world k))
  pub reports : (w : ThirdWorld) (k : ℕ) (ok : Bool) (sc : ThirdWorldTurn) → e ≡ third.Plain (events.Report k ok) → P (every.with_report k ok w) sc → P w sc
  -- a node crashes or starts, and has its limits
  pub client_crashes : (w : ThirdWorld) (c : ClientId) (site : WorldClient) → site_of w.world c ≡ Some site →
      P w (every.client_begins (every.as_plain w (ev.crashes_client w.world c (Some site))) c (Some (ev.stopped_site site)))
  pub server_crashes : (w : ThirdWorld) (s : ServerId) (node : ServerNode) → node_of w.world s ≡ Some node →
      P w (every.server_begins (every.as_plain w (quiet (ev.crashes_server w.world s (Some node)))) s (Some (server.crash_node node)))
  pub client_starts : (w : ThirdWorld) (c : ClientId) (site : WorldClient) → site_of w.world c ≡ Some site → e ≡ third.Plain (events.Start (nodes.Client c)) →
      P w (every.client_begins (every.as_plain w (quiet (ev.starts_client w.world c (Some site)))) c (Some (ev.started_site site)))
  pub server_starts : (w : ThirdWorld) (s : ServerId) (node : ServerNode) → node_of w.world s ≡ Some node → e ≡ third.Plain (events.Start (nodes.Server s)) →
      P w (every.server_begins (every.as_plain w (quiet (ev.starts_server w.world s (Some node)))) s
      (Some (server.start_node node (clock_of w.world (nodes.Server s)))))

module _ (e : ThirdEvent) (P : ThirdWorld → ThirdWorldTurn → Type 0) (law : EventLawOf e P) where
  module _ (w : ThirdWorld) (f : is_third w.world.form ≡ true) where
    takes_it : (c : ClientId) (old site : WorldClient) → site_of w.world c ≡ Some old → site.node ≡ old.node → (input : ThirdInput) →
        ClientTakes w c old e site input → P w (every.client_takes w c input site)
    unfolding every.client_takes every.running_takes every.third_takes
    takes_it c old site there q input why = running site.node.running refl
      where
        by_beside : site.node.running ≡ true → (b : Option ClientBeside) → beside_of w c ≡ b → P w (every.third_takes w c input site b)
        by_beside r None p = law.still w
        by_beside r (Some b) p = law.takes w c old site b input there q p why r

        by_form : site.node.running ≡ true → (b : Bool) → b ≡ true →
            P w (if b then every.third_takes w c input site (beside_of w c) else every.plain_takes w c input site)
        by_form r true p = by_beside r (beside_of w c) refl
        by_form r false p = absurd cc

        running : (b : Bool) → site.node.running ≡ b → P w (if b then every.running_takes w c input site else unseen w)
        running true r = by_form r (is_third w.world.form) f
        running false r = law.still w

    at_client : (c : ClientId) (input : ThirdInput) (site : Option WorldClient) → site_of w.world c ≡ site →
        ((old : WorldClient) → ClientTakes w c old e old input) → P w (every.at_client w c input site)
    unfolding every.at_client
    at_client c input None q why = law.still w
    at_client c input (Some site) q why = takes_it c site site q refl input (why site)

    asks : (c : ClientId) (ask : ℕ → ThirdInput) (site : Option WorldClient) → site_of w.world c ≡ site →
        ((old : WorldClient) → ClientTakes w c old e (ev.asked_once_more old) (ask (old.asks + 1))) → P w (every.asks_at w c ask site)
    unfolding every.asks_at
    asks c ask None q why = law.still w
    asks c ask (Some site) q why = takes_it c site (ev.asked_once_more site) q refl (ask (site.asks + 1)) (why site)

    at_server : (s : ServerId) (input : ServerInput) (node : Option ServerNode) → node_of w.world s ≡ node → ServerTakes w s e input →
        P w (every.at_server w s input node)
    unfolding every.at_server every.server_takes ev.server_took node_step
    at_server s input None q why = law.still w
    at_server s input (Some node) q why = go node.running refl
      where
        go : (b : Bool) → node.running ≡ b →
            P w (every.as_plain w (ev.server_took w.world s (if b then Ok (Server_step w s node input) else Err Crashed)))
        go true r = law.serves w s node input q why r
        go false r = law.still w

    to_node : (k : ℕ) (m : SentMessage) → e ≡ third.Plain (events.Deliver k) → message_of w.world k ≡ Some m → (n : NodeId) → receiver_of w.world m ≡ n →
        P w (every.delivers_to w m.message n)
    unfolding every.delivers_to
    to_node k m i q (nodes.Client c) r =
        at_client c _ (site_of w.world c) refl
        (λ old. subst (λ x. ClientTakes w c old x old (takes.Plain (inputs.Control m.message))) (sym i) (ClientGets k m q r))
    to_node k m i q (nodes.Server s) r =
        at_server s _ (node_of w.world s) refl (subst (λ x. ServerTakes w s x (serving.Control m.message)) (sym i) (ServerGets k m q r))

    delivers : (k : ℕ) → e ≡ third.Plain (events.Deliver k) → (m : Option SentMessage) → message_of w.world k ≡ m → P w (every.delivers w m)
    unfolding every.delivers
    delivers k i None q = law.still w
    delivers k i (Some m) q = to_node k m i q (receiver_of w.world m) refl

    ticks : (n : NodeId) → e ≡ third.Plain (events.Tick n) → P w (every.ticks w n)
    unfolding every.ticks
    ticks (nodes.Client c) i =
        at_client c _ (site_of w.world c) refl (λ old. subst (λ x. ClientTakes w c old x old (takes.Plain inputs.Tick)) (sym i) ClientTicks)
    ticks (nodes.Server s) i = at_server s _ (node_of w.world s) refl (subst (λ x. ServerTakes w s x serving.Tick) (sym i) ServerTicks)

    tells : (k : ℕ) (ok : Bool) → e ≡ third.Plain (events.Report k ok) → (c : Option IssuedCommand) → issued_of w.world k ≡ c → P w (every.tells w k ok c)
    unfolding every.tells every.tells_client every.tells_site
    tells k ok i None found = law.still w
    tells k ok i (Some c) found = go (site_of w.world c.client) refl
      where
        by_instance : (site : WorldClient) → site_of w.world c.client ≡ Some site → (b : Bool) →
            P w (if b then every.client_takes w c.client (takes.Plain (ev.end_told w.world k ok c)) site else unseen w)
        by_instance site q true =
            takes_it c.client site site q refl _
            (subst (λ x. ClientTakes w c.client site x site (takes.Plain (ev.end_told w.world k ok c))) (sym i) (IsTold k ok c found refl))
        by_instance site q false = law.still w

        go : (site : Option WorldClient) → site_of w.world c.client ≡ site → P w (every.tells_client w k ok c site)
        go None q = law.still w
        go (Some site) q = by_instance site q (ev.is_same_instance c site)

    loses : (k : ℕ) (m : Option SentMessage) → message_of w.world k ≡ m → P w (every.as_plain w (quiet (ev.loses_message w.world k m)))
    unfolding ev.loses_message
    loses k None q = law.still w
    loses k (Some m) q = law.loses w k m q

    -- Crashes and starts.

    crashes_client : (c : ClientId) (site : Option WorldClient) → site_of w.world c ≡ site →
        P w (every.node_begins (nodes.Client c) (every.as_plain w (ev.crashes_client w.world c site)))
    unfolding every.node_begins ev.crashes_client ev.marks every.client_begins
    crashes_client c None e =
        subst (λ o. P w (every.client_begins (every.as_plain w (quiet w.world)) c o)) (sym e) (law.still w)
    crashes_client c (Some site) e =
        let sc : ThirdWorldTurn = every.as_plain w (ev.crashes_client w.world c (Some site)) in
        subst (λ o. P w (every.client_begins sc c o)) (sym (numbered_own w.world.clients c.0 (ev.stopped_site site) site e)) (law.client_crashes w c site e)

    crashes_server : (s : ServerId) (node : Option ServerNode) → node_of w.world s ≡ node →
        P w (every.node_begins (nodes.Server s) (every.as_plain w (quiet (ev.crashes_server w.world s node))))
    unfolding every.node_begins ev.crashes_server every.server_begins
    crashes_server s None e =
        subst (λ o. P w (every.server_begins (every.as_plain w (quiet w.world)) s o)) (sym e) (law.still w)
    crashes_server s (Some node) e =
        let sc : ThirdWorldTurn = every.as_plain w (quiet (ev.crashes_server w.world s (Some node))) in
        subst (λ o. P w (every.server_begins sc s o)) (sym (numbered_own w.world.servers s.0 (server.crash_node node) node e)) (law.server_crashes w s node e)

    starts_client : (c : ClientId) (site : Option WorldClient) → site_of w.world c ≡ site → e ≡ third.Plain (events.Start (nodes.Client c)) →
        P w (every.node_begins (nodes.Client c) (every.as_plain w (quiet (ev.starts_client w.world c site))))
    unfolding every.node_begins ev.starts_client every.client_begins
    starts_client c None q i =
        subst (λ o. P w (every.client_begins (every.as_plain w (quiet w.world)) c o)) (sym q) (law.still w)
    starts_client c (Some site) q i =
        let sc : ThirdWorldTurn = every.as_plain w (quiet (ev.starts_client w.world c (Some site))) in
        subst (λ o. P w (every.client_begins sc c o)) (sym (numbered_own w.world.clients c.0 (ev.started_site site) site q)) (law.client_starts w c site q i)

    starts_server : (s : ServerId) (node : Option ServerNode) → node_of w.world s ≡ node → e ≡ third.Plain (events.Start (nodes.Server s)) →
        P w (every.node_begins (nodes.Server s) (every.as_plain w (quiet (ev.starts_server w.world s node))))
    unfolding every.node_begins ev.starts_server every.server_begins
    starts_server s None q i =
        subst (λ o. P w (every.server_begins (every.as_plain w (quiet w.world)) s o)) (sym q) (law.still w)
    starts_server s (Some node) q i =
        let now : Stamp = clock_of w.world (nodes.Server s) in
        let sc : ThirdWorldTurn = every.as_plain w (quiet (ev.starts_server w.world s (Some node))) in
        subst (λ o. P w (every.server_begins sc s o)) (sym (numbered_own w.world.servers s.0 (server.start_node node now) node q))
        (law.server_starts w s node q i)

    begins : (n : NodeId) (sc : ThirdWorldTurn) → P w (every.node_begins n sc) → P w (every.begins w n sc)
    unfolding every.begins
    begins n sc p = subst (λ b. P w (if b then every.node_begins n sc else sc)) (sym f) p

    crashes : (n : NodeId) → P w (every.plain_happens w (events.Crash n))
    unfolding every.plain_happens ev.happens ev.crashes
    crashes (nodes.Client c) = begins (nodes.Client c) _ (crashes_client c (site_of w.world c) refl)
    crashes (nodes.Server s) = begins (nodes.Server s) _ (crashes_server s (node_of w.world s) refl)

    starts : (n : NodeId) → e ≡ third.Plain (events.Start n) → P w (every.plain_happens w (events.Start n))
    unfolding every.plain_happens ev.happens ev.starts
    starts (nodes.Client c) i = begins (nodes.Client c) _ (starts_client c (site_of w.world c) refl i)
    starts (nodes.Server s) i = begins (nodes.Server s) _ (starts_server s (node_of w.world s) refl i)

  -- of this event
  pub walk_by_event : (w : ThirdWorld) → is_third w.world.form ≡ true → P w (every.happens w e)
  unfolding every.happens every.plain_happens every.reports_of ev.happens
  walk_by_event w f = go e refl
    where
      go : (x : ThirdEvent) → e ≡ x → P w (every.happens w x)
      go (third.Leave c s) i =
          asks w f c _ (site_of w.world c) refl
          (λ old. subst (λ x. ClientTakes w c old x (ev.asked_once_more old) (takes.Leave (old.asks + 1) s)) (sym i) (IsAskedToLeave s))
      go (third.Plain (events.Tick n)) i = ticks w f n i
      go (third.Plain (events.App c ask)) i =
          asks w f c _ (site_of w.world c) refl
          (λ old. subst (λ x. ClientTakes w c old x (ev.asked_once_more old) (takes.Plain (inputs.App (old.asks + 1) ask))) (sym i) (IsAsked ask))
      go (third.Plain (events.Deliver k)) i = delivers w f k i (message_of w.world k) refl
      go (third.Plain (events.Lose k)) i = loses w f k (message_of w.world k) refl
      go (third.Plain (events.Cut from to)) i = law.cuts w from to
      go (third.Plain (events.Heal from to)) i = law.heals w from to
      go (third.Plain (events.Advance steps)) i = law.advances w steps
      go (third.Plain (events.Effect k)) i = law.effects w k
      go (third.Plain (events.Report k ok)) i = law.reports w k ok _ i (tells (every.with_report k ok w) f k ok i (issued_of w.world k) refl)
      go (third.Plain (events.Crash n)) i = crashes w f n
      go (third.Plain (events.Start n)) i = starts w f n i

-- A message that a node takes is one of the world's, and for that node.
abbrev pub IsMail : ThirdWorld → NodeId → Heard → Type 0
IsMail w n (Some (HeardMessage m)) = (x : SentMessage) × (Has x w.world.net.messages) × (x.message ≡ m) × (receiver_of w.world x ≡ n)
IsMail w n heard = Unit {0}

-- what a server hears with an input
abbrev pub heard_by : ServerInput → Heard
heard_by (serving.Control m) = Some (HeardMessage m)
heard_by input = None

-- What a law owes in each case if it may use that messages are the world's, and what is known of a node that starts.
pub record MailLaw (Starts : ThirdWorld → NodeId → Type 0) (P : ThirdWorld → ThirdWorldTurn → Type 0) : Type 0 where
  -- nothing happens
  pub still : (w : ThirdWorld) → P w (unseen w)
  -- a client takes an input; if the input is an ask, one more is counted
  pub takes : (w : ThirdWorld) (c : ClientId) (old site : WorldClient) (b : ClientBeside) (input : ThirdInput) → site_of w.world c ≡ Some old →
      site.node ≡ old.node → beside_of w c ≡ Some b → IsMail w (nodes.Client c) (heard_in input) →
      P w (every.client_took w c site (Client_step w c site b input))
  -- a server takes an input
  pub serves : (w : ThirdWorld) (s : ServerId) (node : ServerNode) (input : ServerInput) → node_of w.world s ≡ Some node →
      IsMail w (nodes.Server s) (heard_by input) →
      P w (every.as_plain w (ev.server_took w.world s (Ok (Server_step w s node input))))
  -- the network
  pub loses : (w : ThirdWorld) (k : ℕ) (m : SentMessage) → message_of w.world k ≡ Some m → P w (every.as_plain w (quiet (ev.with_lost k m w.world)))
  pub cuts : (w : ThirdWorld) (from to : NodeId) → P w (every.as_plain w (quiet (ev.with_cut from to w.world)))
  pub heals : (w : ThirdWorld) (from to : NodeId) → P w (every.as_plain w (quiet (ev.without_cut from to w.world)))
  -- the clocks and the disks
  pub advances : (w : ThirdWorld) (steps : List ℕ) → P w (every.as_plain w (ev.advances w.world steps))
  pub effects : (w : ThirdWorld) (k : ℕ) → P w (every.as_plain w (ev.effects w.world k))
  pub reports : (w : ThirdWorld) (k : ℕ) (ok : Bool) (sc : ThirdWorldTurn) → P (every.with_report k ok w) sc → P w sc
  -- a node crashes or starts, and has its limits
  pub client_crashes : (w : ThirdWorld) (c : ClientId) (site : WorldClient) → site_of w.world c ≡ Some site →
      P w (every.client_begins (every.as_plain w (ev.crashes_client w.world c (Some site))) c (Some (ev.stopped_site site)))
  pub server_crashes : (w : ThirdWorld) (s : ServerId) (node : ServerNode) → node_of w.world s ≡ Some node →
      P w (every.server_begins (every.as_plain w (quiet (ev.crashes_server w.world s (Some node)))) s (Some (server.crash_node node)))
  pub client_starts : (w : ThirdWorld) (c : ClientId) (site : WorldClient) → site_of w.world c ≡ Some site → Starts w (nodes.Client c) →
      P w (every.client_begins (every.as_plain w (quiet (ev.starts_client w.world c (Some site)))) c (Some (ev.started_site site)))
  pub server_starts : (w : ThirdWorld) (s : ServerId) (node : ServerNode) → node_of w.world s ≡ Some node → Starts w (nodes.Server s) →
      P w (every.server_begins (every.as_plain w (quiet (ev.starts_server w.world s (Some node)))) s
      (Some (server.start_node node (clock_of w.world (nodes.Server s)))))

-- An input that an event makes a node take is a message of the world, if it is one.
client_mail : (w : ThirdWorld) (c : ClientId) (old site : WorldClient) (e : ThirdEvent) (input : ThirdInput) → ClientTakes w c old e site input →
    IsMail w (nodes.Client c) (heard_in input)
client_mail w c old site e input ClientTicks = tt
client_mail w c old site e input (IsAsked ask) = tt
client_mail w c old site e input (IsAskedToLeave s) = tt
client_mail w c old site e input (ClientGets k m q r) = (m, numbered_has w.world.net.messages k m q, refl, r)
client_mail w c old site e input (IsTold k ok x found own) = tt

server_mail : (w : ThirdWorld) (s : ServerId) (e : ThirdEvent) (input : ServerInput) → ServerTakes w s e input → IsMail w (nodes.Server s) (heard_by input)
server_mail w s e input ServerTicks = tt
server_mail w s e input (ServerGets k m q r) = (m, numbered_has w.world.net.messages k m q, refl, r)

-- What is known of a node that starts by an event, if it is a start.
abbrev StartsBy : (ThirdWorld → NodeId → Type 0) → ThirdEvent → ThirdWorld → Type 0
StartsBy Starts e w = (n : NodeId) → e ≡ third.Plain (events.Start n) → Starts w n

no_start : (Starts : ThirdWorld → NodeId → Type 0) (e : ThirdEvent) (w : ThirdWorld) (k : ℕ) (ok : Bool) → e ≡ third.Plain (events.Report k ok) →
    StartsBy Starts e w
no_start Starts e w k ok i n j = absurd (cc)

-- of every event
pub walk_of_mail : (Starts : ThirdWorld → NodeId → Type 0) (P : ThirdWorld → ThirdWorldTurn → Type 0) → MailLaw Starts P →
    (w : ThirdWorld) (e : ThirdEvent) → is_third w.world.form ≡ true →
    ((n : NodeId) → e ≡ third.Plain (events.Start n) → Starts w n) → P w (every.happens w e)
walk_of_mail Starts P law w e f known =
    walk_by_event e (λ v sc. StartsBy Starts e v → P v sc)
    (record {
      still = λ v n. law.still v;
      takes = λ v c old site b input there q p why r n. law.takes v c old site b input there q p (client_mail v c old site e input why);
      serves = λ v s node input there why r n. law.serves v s node input there (server_mail v s e input why);
      loses = λ v k m q n. law.loses v k m q;
      cuts = λ v from to n. law.cuts v from to;
      heals = λ v from to n. law.heals v from to;
      advances = λ v steps n. law.advances v steps;
      effects = λ v k n. law.effects v k;
      reports = λ v k ok sc i h n. law.reports v k ok sc (h (no_start Starts e (every.with_report k ok v) k ok i));
      client_crashes = λ v c site q n. law.client_crashes v c site q;
      server_crashes = λ v s node q n. law.server_crashes v s node q;
      client_starts = λ v c site q i n. law.client_starts v c site q (n (nodes.Client c) i);
      server_starts = λ v s node q i n. law.server_starts v s node q (n (nodes.Server s) i);
    })
    w f known

-- The same if it matters neither which event it is nor where messages come from.
pub record EventLaw (P : ThirdWorld → ThirdWorldTurn → Type 0) : Type 0 where
  -- nothing happens
  pub still : (w : ThirdWorld) → P w (unseen w)
  -- a client takes an input; if the input is an ask, one more is counted
  pub takes : (w : ThirdWorld) (c : ClientId) (old site : WorldClient) (b : ClientBeside) (input : ThirdInput) → site_of w.world c ≡ Some old →
      site.node ≡ old.node → beside_of w c ≡ Some b → P w (every.client_took w c site (Client_step w c site b input))
  -- a server takes an input
  pub serves : (w : ThirdWorld) (s : ServerId) (node : ServerNode) (input : ServerInput) → node_of w.world s ≡ Some node →
      P w (every.as_plain w (ev.server_took w.world s (Ok (Server_step w s node input))))
  -- the network
  pub loses : (w : ThirdWorld) (k : ℕ) (m : SentMessage) → message_of w.world k ≡ Some m → P w (every.as_plain w (quiet (ev.with_lost k m w.world)))
  pub cuts : (w : ThirdWorld) (from to : NodeId) → P w (every.as_plain w (quiet (ev.with_cut from to w.world)))
  pub heals : (w : ThirdWorld) (from to : NodeId) → P w (every.as_plain w (quiet (ev.without_cut from to w.world)))
  -- the clocks and the disks
  pub advances : (w : ThirdWorld) (steps : List ℕ) → P w (every.as_plain w (ev.advances w.world steps))
  pub effects : (w : ThirdWorld) (k : ℕ) → P w (every.as_plain w (ev.effects w.world k))
  pub reports : (w : ThirdWorld) (k : ℕ) (ok : Bool) (sc : ThirdWorldTurn) → P (every.with_report k ok w) sc → P w sc
  -- a node crashes or starts, and has its limits
  pub client_crashes : (w : ThirdWorld) (c : ClientId) (site : WorldClient) → site_of w.world c ≡ Some site →
      P w (every.client_begins (every.as_plain w (ev.crashes_client w.world c (Some site))) c (Some (ev.stopped_site site)))
  pub server_crashes : (w : ThirdWorld) (s : ServerId) (node : ServerNode) → node_of w.world s ≡ Some node →
      P w (every.server_begins (every.as_plain w (quiet (ev.crashes_server w.world s (Some node)))) s (Some (server.crash_node node)))
  pub client_starts : (w : ThirdWorld) (c : ClientId) (site : WorldClient) → site_of w.world c ≡ Some site →
      P w (every.client_begins (every.as_plain w (quiet (ev.starts_client w.world c (Some site)))) c (Some (ev.started_site site)))
  pub server_starts : (w : ThirdWorld) (s : ServerId) (node : ServerNode) → node_of w.world s ≡ Some node →
      P w (every.server_begins (every.as_plain w (quiet (ev.starts_server w.world s (Some node)))) s
      (Some (server.start_node node (clock_of w.world (nodes.Server s)))))

-- of every event
pub walk_of_event : (P : ThirdWorld → ThirdWorldTurn → Type 0) → EventLaw P → (w : ThirdWorld) (e : ThirdEvent) → is_third w.world.form ≡ true →
    P w (every.happens w e)
walk_of_event P law w e f =
    walk_by_event e P
    (record {
      still = law.still;
      takes = λ w c old site b input there q p why r. law.takes w c old site b input there q p;
      serves = λ w s node input q why r. law.serves w s node input q;
      loses = law.loses;
      cuts = law.cuts;
      heals = law.heals;
      advances = law.advances;
      effects = law.effects;
      reports = λ w k ok sc i. law.reports w k ok sc;
      client_crashes = law.client_crashes;
      server_crashes = law.server_crashes;
      client_starts = λ w c site q i. law.client_starts w c site q;
      server_starts = λ w s node q i. law.server_starts w s node q;
    })
    w f
