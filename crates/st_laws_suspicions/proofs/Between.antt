-- What holds between a client of the third form and a server, while both run and the client's life at the server goes on. Whoever asked the server has a
-- session; and what a session knows of epochs and of grant numbers is what the server has said.
use Rattle.st_lemmas.proofs.Words
use Words.{◌≡◌, ◌≢◌, ◌⊎◌, ◌+◌, ◌≤◌, ℕ, true, false, List, [], ◌∷◌, Option, Some, None, refl, sym, ap, ◌∙◌, subst, inl, inr, arith}
use Words.{eqb-true, ClientId, Config, Epoch, GrantNo, HeldLock, Life, Message, NodeId, SentMessage, ServerId, ServerInput, Stamp}
use Words.bodies as bd
use Words.nodes
use Words.outputs
use Words.serving.{Control}
use Words.ClientState.{Association, ClientSession, ClientState}
use Words.Keys.{client, server_node}
use Words.Lists.{Has}
use Words.Lookups.{some_is}
use Words.Server.{ServerNode, ServerState, ServerTurn, life_in, sender}
use Words.Tables.{has_map_in, same_or_not}
use Words.Truth.{not_both}
use Words.World.{WorldClient, clock_of, node_of, numbered, site_of}
use Rattle.st_laws_leases.specs.Dates.Dates.{message_in, messages}
use Rattle.st_laws_steps.specs.Lives.Lives.{Pairwise}
use Rattle.st_rules.specs.declared.observation.Observation.TheVariants as plain_seen
use Rattle.st_third.specs.declared.event.ThirdInput.{ThirdInput}
use Rattle.st_third.specs.declared.observation.ThirdObservation.TheVariants as seen
use Rattle.st_third.specs.declared.output.ThirdOutput.{ThirdOutput}
use Rattle.st_third.specs.declared.output.ThirdOutput.TheVariants as says
use Rattle.st_third.specs.Client.{client_step}
use Rattle.st_third.specs.Events.{ThirdWorldTurn}
use Rattle.st_third.specs.Limits.{is_third, node_at}
use Rattle.st_third.specs.Server as serving
use Rattle.st_third.specs.State.{ClientBeside, ThirdClientTurn}
use Rattle.st_third.specs.World.{ThirdWorld, beside_of, receiver_of}
use Rattle.st_trace.specs.Server.Steps.{step_of}
use Rattle.st_laws_third.specs.Changes.{EpochFrom, GoesOnBy, Heard, HeardFailure, HeardLeave, HeardMessage, Hears, IsDemanded, IsGranted, LockFrom, NewerEpoch, SameEpoch, WasHeld, locks_in}
use Rattle.st_laws_third.specs.Living.{ClientLivesOn, HasSession, IsOfOne, LastsUnlessTold, LivesOn, heard_in}
use Rattle.st_laws_third.proofs.DemandsSeen.{People}
use Rattle.st_laws_third.proofs.EventWalk.{IsMail, heard_by}
use Rattle.st_laws_third.proofs.Living.{clients_live_on}
use Rattle.st_laws_third.proofs.Sound.{Sound}
use Rattle.st_laws_suspicions.proofs.Askers.{AreAsked, step_asked}
use Rattle.st_laws_suspicions.proofs.GrantNumbers.{Grows, IsGiven, Keeps, SaidRight, given_on, grows_same, step_stands, tells_on}
use Rattle.st_laws_suspicions.proofs.NodeSteps.{ClientBegan, ClientDid, ClientStepped, Happened, NobodyDid, ServerBegan, ServerDid, ServerStepped}
use Rattle.st_laws_suspicions.proofs.Senders.{server_signs}
use Rattle.st_laws_suspicions.proofs.Served.{Holds, holds_on}
use Rattle.st_laws_suspicions.proofs.ServerEvents.{C, node_by, step_is}

-- The servers of a world have their numbers.
abbrev pub AllNamed : ThirdWorld → Type 0
AllNamed w = (n : ℕ) (node : ServerNode) → numbered w.world.servers n ≡ Some node → node.state.id.0 ≡ n

-- so it is after an event
module _ (w : ThirdWorld) (sc : ThirdWorldTurn) (f : is_third w.world.form ≡ true) (named : AllNamed w) where
  named_by : (s : ServerId) (old new : ServerNode) → node_of w.world s ≡ Some old → node_of sc.third.world s ≡ Some new → new.state.id ≡ old.state.id →
      ((k : ℕ) → k ≢ s.0 → numbered sc.third.world.servers k ≡ numbered w.world.servers k) → AllNamed sc.third
  named_by s old new there after same others n node e = go (same_or_not n s.0)
    where
      go : (n ≡ s.0) ⊎ (n ≢ s.0) → node.state.id.0 ≡ n
      go (inl i) =
          ap (λ (x : ServerNode). x.state.id.0) (some_is (sym e ∙ ap (numbered sc.third.world.servers) i ∙ after))
          ∙ ap (λ (x : ServerId). x.0) same
          ∙ named s.0 old there
          ∙ sym i
      go (inr ne) = named n node (sym (others n ne) ∙ e)

  pub named_after : Happened w sc → AllNamed sc.third
  named_after (NobodyDid clients servers mail) n node e = named n node (sym (ap (λ xs. numbered xs n) servers) ∙ e)
  named_after (ClientDid c old new b input there q mail x) n node e = named n node (sym (ap (λ xs. numbered xs n) x.servers) ∙ e)
  named_after (ClientBegan c old new there x) n node e = named n node (sym (ap (λ xs. numbered xs n) x.servers) ∙ e)
  named_after (ServerDid s old input there mail x) n node e =
      named_by s old _ there x.there
      (ap (λ (t : ServerTurn). t.state.id) (step_is w.world.form (eqb-true w.world.form 3 f) old.state (clock_of w.world (nodes.Server s)) input)
      ∙ (server_signs C old.state (clock_of w.world (nodes.Server s)) input).0) x.others n node e
  named_after (ServerBegan s old new there x) n node e = named_by s old new there x.there x.id x.others n node e

-- Associations are with the servers from this number on, in order.
abbrev pub Placed : ℕ → List Association → Type 0
Placed n [] = Unit {0}
Placed n (a ∷ as_) = (a.server.0 ≡ n) × (Placed (n + 1) as_)

placed_low : (n : ℕ) (as_ : List Association) → Placed n as_ → (a : Association) → Has a as_ → n ≤ a.server.0
placed_low n [] p a h = absurd h
placed_low n (x ∷ as_) p a (inl e) = let q = p.0 in let i = ap (λ (z : Association). z.server.0) e in omega (arith, q, i)
placed_low n (x ∷ as_) p a (inr h) = let z = placed_low (n + 1) as_ p.1 a h in omega (arith, z)

-- so there is one with each of them
pub placed_once : (n : ℕ) (as_ : List Association) → Placed n as_ → (a d : Association) → Has a as_ → Has d as_ → a.server.0 ≡ d.server.0 → a ≡ d
placed_once n [] p a d h i e = absurd h
placed_once n (x ∷ as_) p a d (inl h) (inl i) e = h ∙ sym i
placed_once n (x ∷ as_) p a d (inr h) (inr i) e = placed_once (n + 1) as_ p.1 a d h i e
placed_once n (x ∷ as_) p a d (inl h) (inr i) e =
    let z = placed_low (n + 1) as_ p.1 d i in let q = p.0 in let j = ap (λ (y : Association). y.server.0) h in absurd (omega (arith, z, q, j, e))
placed_once n (x ∷ as_) p a d (inr h) (inl i) e =
    let z = placed_low (n + 1) as_ p.1 a h in let q = p.0 in let j = ap (λ (y : Association). y.server.0) i in absurd (omega (arith, z, q, j, e))

placed_on : (got : Heard) (n : ℕ) (as_ bs : List Association) → Pairwise (LivesOn got) as_ bs → Placed n as_ → Placed n bs
placed_on got n [] [] l p = tt
placed_on got n [] (d ∷ bs) l p = absurd l
placed_on got n (a ∷ as_) [] l p = absurd l
placed_on got n (a ∷ as_) (d ∷ bs) l p = (ap (λ (z : ServerId). z.0) l.one.server ∙ p.0, placed_on got (n + 1) as_ bs l.rest p.1)

-- what is heard is a message of the world, for this node
mail_is : (w : ThirdWorld) (n : NodeId) (got : Heard) → IsMail w n got → (m : Message) → got ≡ Some (HeardMessage m) →
    (x : SentMessage) × (Has x w.world.net.messages) × (x.message ≡ m) × (receiver_of w.world x ≡ n)
mail_is w n None mail m e = absurd (cc)
mail_is w n (Some (HeardLeave y)) mail m e = absurd (cc)
mail_is w n (Some (HeardFailure y)) mail m e = absurd (cc)
mail_is w n (Some (HeardMessage y)) (x, h, i, r) m e = let q : y ≡ m = cc in (x, h, i ∙ q, r)

-- the client for whom a message is
addressed : (w : ThirdWorld) → is_third w.world.form ≡ true → (c : ClientId) (x : SentMessage) → receiver_of w.world x ≡ nodes.Client c →
    x.message.header.to ≡ c.0
addressed w f c x e = go (node_by w.world.form x.message.header.to f)
  where
    same : nodes.Client (client x.message.header.to) ≡ nodes.Client c → x.message.header.to ≡ c.0
    same q = cc

    no : (s : ServerId) → nodes.Server s ≡ nodes.Client c → ⊥
    no s q = cc

    go : ((x.message.header.to ≤ 64) × (node_at w.world.form x.message.header.to ≡ nodes.Client (client x.message.header.to))) ⊎
        (node_at w.world.form x.message.header.to ≡ nodes.Server (Words.World.server (Words.◌-◌ x.message.header.to Rattle.st_base.specs.Nodes.SERVER_BASE))) →
        x.message.header.to ≡ c.0
    go (inl z) = same (sym z.1 ∙ e)
    go (inr z) = absurd (no _ (sym z ∙ e))

-- who sent a message of one of these associations
sent_from : (id : ClientId) (as_ bs : List Association) (m : Message) → IsOfOne id as_ bs m → m.header.from ≡ id.0
sent_from id [] bs m z = absurd z
sent_from id (a ∷ as_) [] m z = absurd z
sent_from id (a ∷ as_) (b ∷ bs) m (inl i) = i.from
sent_from id (a ∷ as_) (b ∷ bs) m (inr z) = sent_from id as_ bs m z

module _ (k : Config) (c : ClientId) (near : c.0 ≤ 64) (s : ServerId) where
  -- a client asked in a life, by one of these messages, which isn't a greeting
  abbrev AskedBy : List Message → ClientId → Life → Type 0
  AskedBy ms d life =
      (m : Message) × (Has m ms) × (m.header.from ≡ d.0) × (m.header.to ≡ server_node s) × (m.header.life ≡ life.0) × ((m.body ≡ bd.Hello) → ⊥)

  -- A message of the client is of an association with the server, in its life; all but a greeting has a session.
  pub record Owns (as_ : List Association) (m : Message) : Type 0 where
    pub association : Association
    pub has : Has association as_
    pub at : association.server ≡ s
    pub life : m.header.life ≡ association.life.0
    pub asks : (m.body ≡ bd.Hello) ⊎ (HasSession association)

  -- A session knows the server's epoch; and its locks are under numbers that were given.
  pub record Knows (n : ServerState) (v : ClientSession) : Type 0 where
    pub epoch : v.epoch.0 ≡ n.stable.epoch.0
    pub locks : (l : HeldLock) → Has l v.locks.rows → IsGiven n.locks c.0 l.ino l.g

  -- the server, and the messages
  pub record ServerFits (w : ThirdWorld) (node : ServerNode) : Type 0 where
    pub running : node.running ≡ true
    pub holds : Holds C k s node.state
    pub keeps : Keeps C k s node.state
    pub asked : AreAsked (AskedBy (messages w.world)) node.state.locks
    pub told : (m : Message) → Has m (messages w.world) → m.header.from ≡ server_node s → SaidRight C k s node.state m

  -- What holds between the two.
  pub record Between (w : ThirdWorld) : Type 0 where
    pub up : (site : WorldClient) → site_of w.world c ≡ Some site → site.node.running ≡ true
    pub placed : (site : WorldClient) → site_of w.world c ≡ Some site → Placed 1 site.node.state.associations
    pub owns : (site : WorldClient) → site_of w.world c ≡ Some site → (m : Message) → Has m (messages w.world) → m.header.from ≡ c.0 →
        m.header.to ≡ server_node s → Owns site.node.state.associations m
    pub served : (node : ServerNode) → node_of w.world s ≡ Some node → ServerFits w node
    pub knows : (site : WorldClient) (node : ServerNode) → site_of w.world c ≡ Some site → node_of w.world s ≡ Some node → (a : Association) →
        Has a site.node.state.associations → a.server ≡ s → (v : ClientSession) → a.session ≡ Some v → Knows node.state v

  -- A server after another moment.
  record ServerOn (n v : ServerState) : Type 0 where
    grows : Grows n.locks v.locks
    id : v.id ≡ n.id
    epoch : v.stable.epoch ≡ n.stable.epoch

  same_on : (n : ServerState) → ServerOn n n
  same_on n = record { grows = grows_same n.locks; id = refl; epoch = refl }

  said_on : (n v : ServerState) → ServerOn n v → (m : Message) → SaidRight C k s n m → SaidRight C k s v m
  said_on n v x m y =
      record {
        from = y.from ∙ ap (λ (z : ServerId). server_node z) (sym x.id);
        epoch = y.epoch ∙ ap (λ (z : Epoch). z.0) (sym x.epoch);
        body = tells_on n.locks v.locks x.grows m.header.to m.body y.body;
      }

  knows_on : (n v : ServerState) → ServerOn n v → (u : ClientSession) → Knows n u → Knows v u
  knows_on n v x u y =
      record {
        epoch = y.epoch ∙ ap (λ (z : Epoch). z.0) (sym x.epoch);
        locks = λ l h. given_on n.locks v.locks x.grows c.0 l.ino l.g (y.locks l h);
      }

  -- An event.
  module _ (w : ThirdWorld) (sc : ThirdWorldTurn) (so : Sound w) (people : People w) (named : AllNamed w) (b : Between w)
      (keeps : (m : Message) → Has m (messages w.world) → Has m (messages sc.third.world))
      (up : (site : WorldClient) → site_of sc.third.world c ≡ Some site → site.node.running ≡ true)
      (runs : (node : ServerNode) → node_of sc.third.world s ≡ Some node → node.running ≡ true)
      (unlost : (life : Life) → Has (seen.Plain (plain_seen.Lost c s life)) sc.seen → ⊥) (unended : (life : Life) → Has (seen.Ended c s life) sc.seen → ⊥) where
    -- no client's number is a server's
    unlike : (n m : ℕ) → n ≤ 64 → m ≡ n → m ≡ 32768 + s.0 → ⊥
    unlike n m l e q = absurd (omega (arith, l, e, q))

    asked_on : (l : Words.Locks.Locks) → AreAsked (AskedBy (messages w.world)) l → AreAsked (AskedBy (messages sc.third.world)) l
    asked_on l a = record { rows = λ r h. go r.client r.life (a.rows r h); waits = λ x h. go x.client x.life (a.waits x h) }
      where
        go : (d : ClientId) (life : Life) → AskedBy (messages w.world) d life → AskedBy (messages sc.third.world) d life
        go d life (m, h, i, j, e, f) = (m, keeps m h, i, j, e, f)

    -- The client's step.

    abbrev Now : Stamp
    Now = clock_of w.world (nodes.Client c)

    abbrev Turn_of : WorldClient → ClientBeside → ThirdInput → ThirdClientTurn
    Turn_of old beside input = client_step w.limits (record { plain = old.node.state; beside = beside }) Now input

    -- what the client has then
    data ClientView (site : WorldClient) : Type 0 where
      ClientStays : site_of w.world c ≡ Some site →
          ((m : Message) → Has m (messages sc.third.world) → (Has m (messages w.world)) ⊎ (m.header.from ≢ c.0)) → ClientView site
      ClientSteps : (old : WorldClient) (beside : ClientBeside) (input : ThirdInput) → site_of w.world c ≡ Some old → beside_of w c ≡ Some beside →
          IsMail w (nodes.Client c) (heard_in input) → ClientStepped w sc c old site (Turn_of old beside input) → ClientView site

    same_client : (d : ClientId) → c.0 ≡ d.0 → c ≡ d
    same_client d e = ap (λ n. client n) e

    same_server : (r : ServerId) → s.0 ≡ r.0 → s ≡ r
    same_server r e = ap (λ n. Words.World.server n) e

    -- who another client is
    other_from : (d : ClientId) (old new : WorldClient) (beside : ClientBeside) (input : ThirdInput) → site_of w.world d ≡ Some old →
        beside_of w d ≡ Some beside →
        ClientStepped w sc d old new (client_step w.limits (record { plain = old.node.state; beside = beside }) (clock_of w.world (nodes.Client d)) input) →
        (m : Message) → Has m (messages sc.third.world) → (Has m (messages w.world)) ⊎ (m.header.from ≡ d.0)
    other_from d old new beside input there q x m h = go (x.sent m h)
      where
        t : ThirdClientTurn
        t = client_step w.limits (record { plain = old.node.state; beside = beside }) (clock_of w.world (nodes.Client d)) input

        on : ClientLivesOn (heard_in input) (record { plain = old.node.state; beside = beside }) t.client t.out
        on = clients_live_on w.limits (record { plain = old.node.state; beside = beside }) (clock_of w.world (nodes.Client d)) input
            (so.fits.pairs d.0 old beside there q) (so.fits.sites d.0 old there).fit

        go : (Has m (messages w.world)) ⊎ (Has (says.Plain (outputs.Send m)) t.out) → (Has m (messages w.world)) ⊎ (m.header.from ≡ d.0)
        go (inl i) = inl i
        go (inr i) =
            inr (sent_from t.client.plain.id old.node.state.associations t.client.plain.associations m (on.sent m i)
            ∙ ap (λ (z : ClientId). z.0) on.id
            ∙ people.ids d.0 old there)

    -- who a server is
    server_from : (r : ServerId) (old : ServerNode) (input : ServerInput) → node_of w.world r ≡ Some old →
        ServerStepped w sc r old (serving.server_step w.world.form old.state (clock_of w.world (nodes.Server r)) input) →
        (m : Message) → Has m (messages sc.third.world) → (Has m (messages w.world)) ⊎ (m.header.from ≡ 32768 + r.0)
    server_from r old input there x m h = go (x.sent m h)
      where
        now : Stamp
        now = clock_of w.world (nodes.Server r)

        go : (Has m (messages w.world)) ⊎ (Has (outputs.Send m) (serving.server_step w.world.form old.state now input).out) →
            (Has m (messages w.world)) ⊎ (m.header.from ≡ 32768 + r.0)
        go (inl i) = inl i
        go (inr i) =
            let same = step_is w.world.form (eqb-true w.world.form 3 so.form) old.state now input in
            let e = (server_signs C old.state now input).1 m (subst (λ (t : ServerTurn). Has (outputs.Send m) t.out) same i) in
            let q = named r.0 old there in
            inr (omega (arith, e, q))

    client_view : (site : WorldClient) → site_of sc.third.world c ≡ Some site → Happened w sc → ClientView site
    client_view site e (NobodyDid clients servers mail) =
        ClientStays (sym (ap (λ xs. numbered xs c.0) clients) ∙ e) (λ m h. inl (mail m h))
    client_view site e (ClientDid d old new beside input there q mail x) = go (same_or_not c.0 d.0)
      where
        own : (old new : WorldClient) (beside : ClientBeside) (input : ThirdInput) → site_of w.world c ≡ Some old → beside_of w c ≡ Some beside →
            IsMail w (nodes.Client c) (heard_in input) → ClientStepped w sc c old new (Turn_of old beside input) → ClientView site
        own old new beside input there q mail x =
            ClientSteps old beside input there q mail
            (subst (λ (z : WorldClient). ClientStepped w sc c old z (Turn_of old beside input)) (some_is (sym x.there ∙ e)) x)

        go : (c.0 ≡ d.0) ⊎ (c.0 ≢ d.0) → ClientView site
        go (inl i) =
            subst
            (λ z. (old new : WorldClient) (beside : ClientBeside) (input : ThirdInput) → site_of w.world z ≡ Some old → beside_of w z ≡ Some beside →
            IsMail w (nodes.Client z) (heard_in input) →
            ClientStepped w sc z old new (client_step w.limits (record { plain = old.node.state; beside = beside }) (clock_of w.world (nodes.Client z)) input) →
            ClientView site)
            (same_client d i) own old new beside input there q mail x
        go (inr ne) =
            ClientStays (sym (x.others c.0 ne) ∙ e) (λ m h. by m (other_from d old new beside input there q x m h))
          where
            by : (m : Message) → (Has m (messages w.world)) ⊎ (m.header.from ≡ d.0) → (Has m (messages w.world)) ⊎ (m.header.from ≢ c.0)
            by m (inl i) = inl i
            by m (inr i) = inr (λ j. ne (sym j ∙ i))
    client_view site e (ClientBegan d old new there x) = go (same_or_not c.0 d.0)
      where
        off : c.0 ≡ d.0 → (new.node.running ≡ false) ⊎ (old.node.running ≡ false) → ⊥
        off i (inl z) = not_both new.node.running (up new (ap (numbered sc.third.world.clients) i ∙ x.there)) z
        off i (inr z) = not_both old.node.running (b.up old (ap (numbered w.world.clients) i ∙ there)) z

        go : (c.0 ≡ d.0) ⊎ (c.0 ≢ d.0) → ClientView site
        go (inl i) = absurd (off i x.off)
        go (inr ne) = ClientStays (sym (x.others c.0 ne) ∙ e) (λ m h. inl (x.mail m h))
    client_view site e (ServerDid r old input there mail x) =
        ClientStays (sym (ap (λ xs. numbered xs c.0) x.clients) ∙ e) (λ m h. by m (server_from r old input there x m h))
      where
        far : (m : Message) → m.header.from ≡ 32768 + r.0 → m.header.from ≡ c.0 → ⊥
        far m i j = absurd (omega (arith, i, j, near))

        by : (m : Message) → (Has m (messages w.world)) ⊎ (m.header.from ≡ 32768 + r.0) → (Has m (messages w.world)) ⊎ (m.header.from ≢ c.0)
        by m (inl i) = inl i
        by m (inr i) = inr (far m i)
    client_view site e (ServerBegan r old new there x) =
        ClientStays (sym (ap (λ xs. numbered xs c.0) x.clients) ∙ e) (λ m h. inl (x.mail m h))

    -- The server's step.

    data ServerView (node : ServerNode) : Type 0 where
      ServerStays : node_of w.world s ≡ Some node →
          ((m : Message) → Has m (messages sc.third.world) → (Has m (messages w.world)) ⊎ (m.header.from ≢ server_node s)) → ServerView node
      ServerSteps : (old : ServerNode) (input : ServerInput) → node_of w.world s ≡ Some old → IsMail w (nodes.Server s) (heard_by input) →
          node.state ≡ (step_of C old.state (clock_of w.world (nodes.Server s)) input).state →
          ((m : Message) → Has m (messages sc.third.world) →
          (Has m (messages w.world)) ⊎ (Has (outputs.Send m) (step_of C old.state (clock_of w.world (nodes.Server s)) input).out)) → ServerView node

    server_view : (node : ServerNode) → node_of sc.third.world s ≡ Some node → Happened w sc → ServerView node
    server_view node e (NobodyDid clients servers mail) =
        ServerStays (sym (ap (λ xs. numbered xs s.0) servers) ∙ e) (λ m h. inl (mail m h))
    server_view node e (ClientDid d old new beside input there q mail x) =
        ServerStays (sym (ap (λ xs. numbered xs s.0) x.servers) ∙ e) (λ m h. by m (other_from d old new beside input there q x m h))
      where
        by : (m : Message) → (Has m (messages w.world)) ⊎ (m.header.from ≡ d.0) → (Has m (messages w.world)) ⊎ (m.header.from ≢ server_node s)
        by m (inl i) = inl i
        by m (inr i) = inr (λ j. unlike d.0 m.header.from (people.few d.0 old there) i j)
    server_view node e (ClientBegan d old new there x) =
        ServerStays (sym (ap (λ xs. numbered xs s.0) x.servers) ∙ e) (λ m h. inl (x.mail m h))
    server_view node e (ServerDid r old input there mail x) = go (same_or_not s.0 r.0)
      where
        own : (old : ServerNode) (input : ServerInput) → node_of w.world s ≡ Some old → IsMail w (nodes.Server s) (heard_by input) →
            ServerStepped w sc s old (serving.server_step w.world.form old.state (clock_of w.world (nodes.Server s)) input) → ServerView node
        own old input there mail x =
            let now : Stamp = clock_of w.world (nodes.Server s) in
            let same = step_is w.world.form (eqb-true w.world.form 3 so.form) old.state now input in
            let y = subst (ServerStepped w sc s old) same x in
            ServerSteps old input there mail (ap (λ (z : ServerNode). z.state) (some_is (sym e ∙ y.there))) y.sent

        go : (s.0 ≡ r.0) ⊎ (s.0 ≢ r.0) → ServerView node
        go (inl i) =
            subst
            (λ z. (old : ServerNode) (input : ServerInput) → node_of w.world z ≡ Some old → IsMail w (nodes.Server z) (heard_by input) →
            ServerStepped w sc z old (serving.server_step w.world.form old.state (clock_of w.world (nodes.Server z)) input) → ServerView node)
            (same_server r i) own old input there mail x
        go (inr ne) = ServerStays (sym (x.others s.0 ne) ∙ e) (λ m h. by m (server_from r old input there x m h))
          where
            apart_from : (m : Message) → m.header.from ≡ 32768 + r.0 → m.header.from ≡ 32768 + s.0 → ⊥
            apart_from m i j = ne (omega (arith, i, j))

            by : (m : Message) → (Has m (messages w.world)) ⊎ (m.header.from ≡ 32768 + r.0) →
                (Has m (messages w.world)) ⊎ (m.header.from ≢ server_node s)
            by m (inl i) = inl i
            by m (inr i) = inr (apart_from m i)
    server_view node e (ServerBegan r old new there x) = go (same_or_not s.0 r.0)
      where
        off : s.0 ≡ r.0 → (new.running ≡ false) ⊎ (old.running ≡ false) → ⊥
        off i (inl z) = not_both new.running (runs new (ap (numbered sc.third.world.servers) i ∙ x.there)) z
        off i (inr z) = not_both old.running (b.served old (ap (numbered w.world.servers) i ∙ there)).running z

        go : (s.0 ≡ r.0) ⊎ (s.0 ≢ r.0) → ServerView node
        go (inl i) = absurd (off i x.off)
        go (inr ne) = ServerStays (sym (x.others s.0 ne) ∙ e) (λ m h. inl (x.mail m h))

    -- The server after the event.

    fits_by : (node : ServerNode) → node_of sc.third.world s ≡ Some node → ServerView node → ServerFits sc.third node
    fits_by node e (ServerStays there mail) =
        let f = b.served node there in
        record {
          running = f.running;
          holds = f.holds;
          keeps = f.keeps;
          asked = asked_on node.state.locks f.asked;
          told = λ m h i. by f m i (mail m h);
        }
      where
        by : ServerFits w node → (m : Message) → m.header.from ≡ server_node s → (Has m (messages w.world)) ⊎ (m.header.from ≢ server_node s) →
            SaidRight C k s node.state m
        by f m i (inl h) = f.told m h i
        by f m i (inr ne) = absurd (ne i)
    fits_by node e (ServerSteps old input there mail is sent) =
        subst
        (λ (n : ServerState). ServerFits sc.third (record node { state = n })) (sym is)
        (record {
          running = runs node e;
          holds = holds_on C k s old.state now input f.holds;
          keeps = z.keeps;
          asked =
              step_asked (AskedBy (messages sc.third.world)) C k s old.state now input hears f.holds (asked_on old.state.locks f.asked);
          told = λ m h i. by m i (sent m h);
        })
      where
        now : Stamp
        now = clock_of w.world (nodes.Server s)

        f : ServerFits w old
        f = b.served old there

        z : Rattle.st_laws_suspicions.proofs.GrantNumbers.StepStands C k s old.state (step_of C old.state now input)
        z = step_stands C k s old.state now input f.holds f.keeps

        hears : (m : Message) → input ≡ Control m → m.header.to ≡ server_node old.state.id → C m.header.from ≡ true → ((m.body ≡ bd.Hello) → ⊥) →
            AskedBy (messages sc.third.world) (sender m.header) (life_in m.header)
        hears m q to heard ne =
            let x = mail_is w (nodes.Server s) (Some (HeardMessage m)) (subst (λ i. IsMail w (nodes.Server s) (heard_by i)) q mail) m refl in (
              m,
              keeps m (subst (λ y. Has y (messages w.world)) x.2 (has_map_in message_in w.world.net.messages x.0 x.1)),
              refl,
              to ∙ ap (λ (y : ServerId). server_node y) f.holds.id,
              refl,
              ne,
            )

        by : (m : Message) → m.header.from ≡ server_node s → (Has m (messages w.world)) ⊎ (Has (outputs.Send m) (step_of C old.state now input).out) →
            SaidRight C k s (step_of C old.state now input).state m
        by m i (inl h) =
            said_on old.state (step_of C old.state now input).state (record { grows = z.grows; id = z.id; epoch = z.epoch }) m (f.told m h i)
        by m i (inr h) = z.said m h

    -- the server as it was before
    before_by : (node : ServerNode) → ServerView node → (old : ServerNode) × (node_of w.world s ≡ Some old) × (ServerOn old.state node.state)
    before_by node (ServerStays there mail) = (node, there, same_on node.state)
    before_by node (ServerSteps old input there mail is sent) =
        let f = b.served old there in
        let z = step_stands C k s old.state (clock_of w.world (nodes.Server s)) input f.holds f.keeps in
        (old, there, subst (ServerOn old.state) (sym is) (record { grows = z.grows; id = z.id; epoch = z.epoch }))

    -- The client after the event.
    module _ (old new : WorldClient) (beside : ClientBeside) (input : ThirdInput) (there : site_of w.world c ≡ Some old) (q : beside_of w c ≡ Some beside)
        (mail : IsMail w (nodes.Client c) (heard_in input)) (x : ClientStepped w sc c old new (Turn_of old beside input)) where
      t : ThirdClientTurn
      t = Turn_of old beside input

      abbrev got : Heard
      got = heard_in input

      on : ClientLivesOn got (record { plain = old.node.state; beside = beside }) (Turn_of old beside input).client (Turn_of old beside input).out
      on = clients_live_on w.limits (record { plain = old.node.state; beside = beside }) Now input (so.fits.pairs c.0 old beside there q)
          (so.fits.sites c.0 old there).fit

      abbrev Out : List ThirdOutput
      Out = (Turn_of old beside input).out

      -- the life with the server goes on
      lasts : (a d : Association) → a.server ≡ s → LastsUnlessTold Out a d → d.life ≡ a.life
      lasts a d e (inl i) = i
      lasts a d e (inr (inl h)) =
          absurd (unlost a.life (subst (λ (r : ServerId). Has (seen.Plain (plain_seen.Lost c r a.life)) sc.seen) e (x.lost a.server a.life h)))
      lasts a d e (inr (inr (end, h))) =
          absurd (unended a.life (subst (λ (r : ServerId). Has (seen.Ended c r a.life) sc.seen) e (x.ended a.server a.life end h)))

      owned_on : (m : Message) (as_ bs : List Association) → Pairwise (LivesOn got) as_ bs → Pairwise (LastsUnlessTold Out) as_ bs → (a : Association) →
          Has a as_ → a.server ≡ s → m.header.life ≡ a.life.0 → (m.body ≡ bd.Hello) ⊎ (HasSession a) → Owns bs m
      owned_on m [] bs l p a h e f g = absurd h
      owned_on m (y ∷ as_) [] l p a h e f g = absurd l
      owned_on m (y ∷ as_) (d ∷ bs) l p a (inr h) e f g =
          let z = owned_on m as_ bs l.rest p.rest a h e f g in
          record { association = z.association; has = inr z.has; at = z.at; life = z.life; asks = z.asks }
      owned_on m (y ∷ as_) (d ∷ bs) l p a (inl i) e f g =
          let server : y.server ≡ s = ap (λ (z : Association). z.server) (sym i) ∙ e in
          let life : d.life ≡ y.life = lasts y d server p.one in
          let same : d.life.0 ≡ y.life.0 = ap (λ (z : Life). z.0) life in
          record {
            association = d;
            has = inl refl;
            at = l.one.server ∙ server;
            life = f ∙ ap (λ (z : Association). z.life.0) i ∙ sym same;
            asks = by same (subst (λ (z : Association). (m.body ≡ bd.Hello) ⊎ (HasSession z)) i g);
          }
        where
          by : d.life.0 ≡ y.life.0 → (m.body ≡ bd.Hello) ⊎ (HasSession y) → (m.body ≡ bd.Hello) ⊎ (HasSession d)
          by same (inl z) = inl z
          by same (inr z) = inr (l.one.stays same z)

      owned_now : (id : ClientId) (m : Message) (as_ bs : List Association) → Pairwise (LivesOn got) as_ bs → Pairwise (LastsUnlessTold Out) as_ bs →
          m.header.to ≡ server_node s → IsOfOne id as_ bs m → Owns bs m
      owned_now id m [] bs l p to z = absurd z
      owned_now id m (y ∷ as_) [] l p to z = absurd z
      owned_now id m (y ∷ as_) (d ∷ bs) l p to (inr z) =
          let o = owned_now id m as_ bs l.rest p.rest to z in
          record { association = o.association; has = inr o.has; at = o.at; life = o.life; asks = o.asks }
      owned_now id m (y ∷ as_) (d ∷ bs) l p to (inl i) =
          let number : d.server.0 ≡ s.0 = (let e = i.to in omega (arith, e, to)) in
          let server : d.server ≡ s = ap (λ n. Words.World.server n) number in
          let life : d.life ≡ y.life = lasts y d (sym l.one.server ∙ server) p.one in
          let same : m.header.life ≡ d.life.0 = (let e = ap (λ (z : Life). z.0) life in let u = i.since in let v = i.life in omega (arith, e, u, v)) in
          record { association = d; has = inl refl; at = server; life = same; asks = i.asks same }

      -- an association of before
      came_from : (as_ bs : List Association) → Pairwise (LivesOn got) as_ bs → Pairwise (LastsUnlessTold Out) as_ bs → (d : Association) → Has d bs →
          (a : Association) × (Has a as_) × (LivesOn got a d) × (LastsUnlessTold Out a d)
      came_from [] [] l p d h = absurd h
      came_from [] (e ∷ bs) l p d h = absurd l
      came_from (y ∷ as_) [] l p d h = absurd l
      came_from (y ∷ as_) (e ∷ bs) l p d (inl i) =
          (y, inl refl, subst (LivesOn got y) (sym i) l.one, subst (LastsUnlessTold Out y) (sym i) p.one)
      came_from (y ∷ as_) (e ∷ bs) l p d (inr h) = let z = came_from as_ bs l.rest p.rest d h in (z.0, inr z.1, z.2, z.3)

      -- what is heard of the server is what it said
      heard_right : (node : ServerNode) → node_of w.world s ≡ Some node → (a : Association) → a.server ≡ s → (epoch : ℕ) (body : Words.Body) →
          Hears got a epoch body →
          (m : Message) × (SaidRight C k s node.state m) × (m.header.to ≡ c.0) × (m.header.epoch ≡ epoch) × (m.body ≡ body)
      heard_right node at a e epoch body h =
          let z = mail_is w (nodes.Client c) got mail h.message h.is in
          let has : Has h.message (messages w.world) =
          subst (λ y. Has y (messages w.world)) z.2 (has_map_in message_in w.world.net.messages z.0 z.1) in
          let from : h.message.header.from ≡ server_node s = h.from ∙ ap (λ (r : ServerId). server_node r) e in (
            h.message,
            (b.served node at).told h.message has from,
            ap (λ (y : Message). y.header.to) (sym z.2) ∙ addressed w so.form c z.0 z.3,
            h.in_epoch,
            h.body,
          )

      knows_now : (node : ServerNode) → node_of w.world s ≡ Some node → (d : Association) → Has d (Turn_of old beside input).client.plain.associations →
          d.server ≡ s → (v : ClientSession) → d.session ≡ Some v → Knows node.state v
      knows_now node at d h e v is = record { epoch = epoch by.epoch; locks = λ l i. lock l (by.locks l i) }
        where
          z : (a : Association) × (Has a old.node.state.associations) × (LivesOn got a d) × (LastsUnlessTold Out a d)
          z = came_from old.node.state.associations (Turn_of old beside input).client.plain.associations on.associations on.lasts d h

          server : z.0.server ≡ s
          server = sym z.2.server ∙ e

          by : GoesOnBy got z.0 z.0.session v
          by = z.2.heard (ap (λ (l : Life). l.0) (lasts z.0 d server z.3)) v is

          epoch : EpochFrom got z.0 z.0.session v → v.epoch.0 ≡ node.state.stable.epoch.0
          epoch (SameEpoch u f g) = ap (λ (x : Epoch). x.0) g ∙ (b.knows old node there at z.0 z.1 server u f).epoch
          epoch (NewerEpoch body f) = let y = heard_right node at z.0 server v.epoch.0 body f in sym y.3 ∙ y.1.epoch

          held : (o : Option ClientSession) → z.0.session ≡ o → (l m : HeldLock) → Has m (locks_in o) → m.ino ≡ l.ino → m.g ≡ l.g →
              IsGiven node.state.locks c.0 l.ino l.g
          held None f l m i g j = absurd i
          held (Some u) f l m i g j =
              subst (λ n. IsGiven node.state.locks c.0 n l.g) g
              (subst (λ (n : GrantNo). IsGiven node.state.locks c.0 m.ino n) j ((b.knows old node there at z.0 z.1 server u f).locks m i))

          given_by : (l : HeldLock) (m : Message) → SaidRight C k s node.state m → m.header.to ≡ c.0 → (body : Words.Body) → m.body ≡ body →
              Rattle.st_laws_suspicions.proofs.GrantNumbers.TellsGiven node.state.locks c.0 body
          given_by l m r to body q =
              subst (Rattle.st_laws_suspicions.proofs.GrantNumbers.TellsGiven node.state.locks c.0) q
              (subst (λ n. Rattle.st_laws_suspicions.proofs.GrantNumbers.TellsGiven node.state.locks n m.body) to r.body)

          lock : (l : HeldLock) → LockFrom got z.0 (locks_in z.0.session) l → IsGiven node.state.locks c.0 l.ino l.g
          lock l (WasHeld m i g j) = held z.0.session refl l m i g j
          lock l (IsGranted en mode f) = let y = heard_right node at z.0 server en _ f in given_by l y.0 y.1 y.2 (bd.Granted l.ino l.g mode) y.4
          lock l (IsDemanded en to f) = let y = heard_right node at z.0 server en _ f in given_by l y.0 y.1 y.2 (bd.Demand l.ino l.g to) y.4

      owns_now : (m : Message) → Has m (messages sc.third.world) → m.header.from ≡ c.0 → m.header.to ≡ server_node s →
          Owns (Turn_of old beside input).client.plain.associations m
      owns_now m h from to = go (x.sent m h)
        where
          go : (Has m (messages w.world)) ⊎ (Has (says.Plain (outputs.Send m)) Out) → Owns (Turn_of old beside input).client.plain.associations m
          go (inl i) =
              let o = b.owns old there m i from to in
              owned_on m old.node.state.associations (Turn_of old beside input).client.plain.associations on.associations on.lasts o.association o.has o.at
              o.life o.asks
          go (inr i) =
              owned_now (Turn_of old beside input).client.plain.id m old.node.state.associations (Turn_of old beside input).client.plain.associations
              on.associations on.lasts to (on.sent m i)

    owns_by : (site : WorldClient) → ClientView site → (m : Message) → Has m (messages sc.third.world) → m.header.from ≡ c.0 →
        m.header.to ≡ server_node s → Owns site.node.state.associations m
    owns_by site (ClientStays there mail) m h from to = go (mail m h)
      where
        go : (Has m (messages w.world)) ⊎ (m.header.from ≢ c.0) → Owns site.node.state.associations m
        go (inl i) = b.owns site there m i from to
        go (inr ne) = absurd (ne from)
    owns_by site (ClientSteps old beside input there q mail x) m h from to =
        subst (λ (z : ClientState). Owns z.associations m) (sym x.state) (owns_now old site beside input there q mail x m h from to)

    knows_by : (site : WorldClient) → ClientView site → (node : ServerNode) → node_of w.world s ≡ Some node → (a : Association) →
        Has a site.node.state.associations → a.server ≡ s → (v : ClientSession) → a.session ≡ Some v → Knows node.state v
    knows_by site (ClientStays there mail) node at a h e v is = b.knows site node there at a h e v is
    knows_by site (ClientSteps old beside input there q mail x) node at a h e v is =
        knows_now old site beside input there q mail x node at a (subst (λ (z : ClientState). Has a z.associations) x.state h) e v is

    placed_by : (site : WorldClient) → ClientView site → Placed 1 site.node.state.associations
    placed_by site (ClientStays there mail) = b.placed site there
    placed_by site (ClientSteps old beside input there q mail x) =
        subst (λ (z : ClientState). Placed 1 z.associations) (sym x.state)
        (placed_on (heard_in input) 1 old.node.state.associations (Turn_of old beside input).client.plain.associations
        (on old site beside input there q mail x).associations (b.placed old there))

    -- the client and the server were there
    pub client_before : Happened w sc → (site : WorldClient) → site_of sc.third.world c ≡ Some site → (old : WorldClient) × (site_of w.world c ≡ Some old)
    client_before did site e = go (client_view site e did)
      where
        go : ClientView site → (old : WorldClient) × (site_of w.world c ≡ Some old)
        go (ClientStays there mail) = (site, there)
        go (ClientSteps old beside input there q mail x) = (old, there)

    pub server_before : Happened w sc → (node : ServerNode) → node_of sc.third.world s ≡ Some node → (old : ServerNode) × (node_of w.world s ≡ Some old)
    server_before did node e = let z = before_by node (server_view node e did) in (z.0, z.1)

    pub between_after : Happened w sc → Between sc.third
    between_after did =
        record {
          up = up;
          placed = λ site e. placed_by site (client_view site e did);
          owns = λ site e. owns_by site (client_view site e did);
          served = λ node e. fits_by node e (server_view node e did);
          knows = λ site node e f a h i v is.
              let z = before_by node (server_view node f did) in
              knows_on z.0.state node.state z.2 v (knows_by site (client_view site e did) z.0 z.1 a h i v is);
        }
