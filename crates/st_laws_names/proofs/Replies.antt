-- Each final reply of a server has its event, in which the request of its key was served, and a key is served once: after every event.
use Rattle.st_lemmas.proofs.Words
use Words.{◌≡◌, ◌≢◌, ◌⊎◌, ℕ, ◌≤◌, Bool, true, List, [], ◌∷◌, ◌++◌, Option, Some, None, Ok, refl, sym, ap, ◌∙◌, subst, inl, inr, arith, ClientId, Epoch}
use Words.{ServerId, Stamp, Event, Body, Header, Message, NameOp, ClientInput, ServerInput, Session, SessionState, SentMessage}
use Words.nodes
use Words.events
use Words.bodies
use Words.why
use Words.outputs
use Words.serving
use Words.states
use Words.takes
use Words.ClientReplies.{name_answer}
use Words.ClientState.{reasserts}
use Words.Events as ev
use Words.Events.{WorldTurn, world_step}
use Words.History.{Traced, traced_after}
use Words.Keys.{client, server_node}
use Words.Names.{Names}
use Words.Safety.{Step, is_event, step}
use Words.Server as server
use Words.Server.{ServerNode}
use Words.Sessions as sessions
use Words.World as world
use Words.World.{WorldClient, World, clock_of, fresh_world, node_of, numbered, site_of, with_numbered}
use Words.Lists.{Has}
use Words.Lookups.{some_is}
use Words.Numbers.{numbered_below, numbered_has, numbered_own}
use Words.Tables.{has_append, has_map_in}
use Words.Members.{has_left, has_right}
use Rattle.st_base.specs.declared.config.Config as base
use Rattle.st_protocol.specs.Assoc.{Config}
use Rattle.st_laws_leases.specs.Dates.Dates.{message_in, messages}
use Rattle.st_laws_leases.proofs.Dates.Leaving.{Leaves, leaves_from, server_not_client, set_cases}
use Rattle.st_trace.proofs.Server.Taking.{FreshState, Found, found_for, fresh_state}
use Rattle.st_laws_pages.proofs.Lives.Fresh.{fresh_is}
use Rattle.st_laws_requests.specs.Cuts.Cuts.{KeptBy, Keyed, does}
use Rattle.st_laws_requests.specs.Replies.ServedRequests.{Ends, IsBehind, Reached, Refusal}
use Rattle.st_laws_requests.proofs.Cuts.Server.{Acks, Before, Good, IsSaid, Kind, New, Noted, O, ServesNames, before_more, good_more, own_after_thefts, served, telling_name}
use Rattle.st_laws_requests.proofs.Cuts.Seen.{server_sends}
use Rattle.st_laws_requests.proofs.Replies.EachEvent.{ClientTook, Comes, NodeAfter, ServerLeft, ServerTook, SiteAfter, event_brings}
use Rattle.st_laws_extents.specs.CutRequests.EndedLives.{IsPast}
use Rattle.st_laws_extents.proofs.CutRequests.Law.{owed}
use Rattle.st_trace.specs.Server.Edits.{Begun}
use Rattle.st_trace.proofs.Server.Input.{thefts_begun}
use Rattle.st_promises.specs.NameAnswers.{said}
use Rattle.st_laws_cuts.specs.EndedRequests.{AllPast}
use Rattle.st_laws_cuts.specs.ServedRequests.{IsServedBy, NamesBy}
use Rattle.st_laws_cuts.proofs.Naming.{step_names}
use Rattle.st_laws_cuts.proofs.Law.{AllHold}
use Rattle.st_laws_names.specs.Keys.{HasEvent, NamesDid, RepliesHaveEvents, ServedAt, ServedOnce, Serves, behind_thefts, is_final, now_at}
use Rattle.st_laws_names.proofs.Keys.{KeysHold, sends_own}
use Rattle.st_laws_names.proofs.Behind.{not_past}
use Rattle.st_laws_names.proofs.Changes.{past_same}
use Rattle.st_laws_names.proofs.Serving.{name_replies, step_serves}
use Rattle.st_laws_cuts.proofs.Changes.{crashed_names, started_names}

-- final replies are of a kind
final_kind : Kind is_final
final_kind =
    record {
      welcome = refl;
      reasserted = refl;
      granted = λ ino g mode. refl;
      demand = λ ino g mode. refl;
      suspect = λ x y. refl;
      no_session = λ x y. refl;
      other_epoch = λ x y. refl;
      grace = λ x y. refl;
    }

-- a final reply ends its request
final_ends : (b : Body) → is_final b ≡ true → Ends b
final_ends bodies.Ack f = tt
final_ends (bodies.Named r) f = tt
final_ends (bodies.Nack why.Suspect x y) f = cc f
final_ends (bodies.Nack why.NoSession x y) f = cc f
final_ends (bodies.Nack why.OtherEpoch x y) f = cc f
final_ends (bodies.Nack why.Grace x y) f = cc f
final_ends (bodies.Nack why.GraceOver x y) f = cc f
final_ends (bodies.Nack why.Conflict x y) f = cc f
final_ends (bodies.Nack w x y) f = tt
final_ends b f = cc f

-- what the rule of a request for a name did to names, and replied
names_said : (n m : Names) (now : Stamp) (t : server.ServerTurn) (h : Header) (op : NameOp) → t.state.stable.names ≡ n →
    (server.rule t now h (bodies.Name op)).turn.state.stable.names ≡ m → NamesDid n m (bodies.Name op) (name_replies t now h op).body
unfolding server.rule
names_said n m now t h op at became = go (name_replies t now h op).body (name_replies t now h op).is
  where
    -- the reply is what names say if it is theirs
    said_by : (b : Body) → (server.name t h op).reply ≡ Some b →
        IsSaid is_final final_kind (record { 0 = 0 }) t.state.stable.epoch serving.Tick n (λ c life number b. Unit {0}) t.state now
        (does t.state.stable.names op) (server.name t h op).turn.state.stable.names b
    said_by b q = telling_name is_final final_kind (record { 0 = 0 }) t.state.stable.epoch serving.Tick n (λ c life number b. Unit {0}) t.state now t h op at b
        q

    go : (b : Body) → (server.name t h op).reply ≡ Some b → NamesDid n m (bodies.Name op) b
    go (bodies.Named r) q = ap (λ y. does y op) (sym at) ∙ said_by (bodies.Named r) q ∙ ap (λ y. said y (name_answer r)) became
    go b q = sym became ∙ said_by b q

-- a fact of kept replies, from another one
kept_map : (Q : Body → Bool) (A B : ℕ → Body → Type 0) (x : SessionState) → ((n : ℕ) (b : Body) → x ≡ states.Live n (Some b) → Q b ≡ true → A n b → B n b) →
    KeptBy Q A x → KeptBy Q B x
kept_map Q A B (states.Live last (Some b)) f k = λ q. f last b refl q (k q)
kept_map Q A B (states.Live last None) f k = tt
kept_map Q A B states.Ended f k = tt

-- What holds after every event.
pub record RepliesHold (past : List Step) (w : World) : Type 0 where
  pub replies : RepliesHaveEvents past w
  pub kept : (s : ServerId) (n : ServerNode) → node_of w s ≡ Some n → (c : ClientId) (x : Session) → sessions.session_of n.state.sessions c ≡ Some x →
      KeptBy is_final (λ number b. HasEvent past w c s x.life.0 n.state.stable.epoch.0 number b) x.state
  pub once : ServedOnce past

module _ (k : Config) (count : ℕ) (past : List Step) (t : Traced) (e : Event) (sc : WorldTurn) (ranges : is_event count e ≡ true) (h : AllHold k count past t)
    (n : AllHold k count (past ++ step t e sc ∷ []) (traced_after e t sc)) (taken : world_step t.world e ≡ Ok sc)
    (keys : KeysHold past t.world)
    (pasts : (y : Step) → Has y past → (c : ClientId) (s : ServerId) (m : Message) → AllPast y.after.world c s m → AllPast t.world c s m)
    (d : RepliesHold past t.world) where
  abbrev past2 : List Step
  past2 = past ++ step t e sc ∷ []

  abbrev x : Step
  x = step t e sc

  abbrev M : List Message
  M = messages t.world

  abbrev w : World
  w = ev.counted t.world

  -- what stood for fewer steps and messages stands for more
  event_more : (v : World) → ((m : Message) → Has m M → Has m (messages v)) → (c : ClientId) (s : ServerId) (life epoch number : ℕ) (b : Body) →
      HasEvent past t.world c s life epoch number b → HasEvent past2 v c s life epoch number b
  event_more v f c s life epoch number b (inl z) = inl (z.0, has_left past _ z.0 z.1, z.2)
  event_more v f c s life epoch number b (inr z) = inr (record { by = z.by; among = f z.by z.among; keyed = z.keyed; asks = z.asks })

  abbrev KeptIn : World → Type 0
  KeptIn v = (s : ServerId) (p : ServerNode) → node_of v s ≡ Some p → (c : ClientId) (y : Session) → sessions.session_of p.state.sessions c ≡ Some y →
      KeptBy is_final (λ number b. HasEvent past2 v c s y.life.0 p.state.stable.epoch.0 number b) y.state

  record Next (v : World) : Type 0 where
    pub replies : RepliesHaveEvents past2 v
    pub kept : KeptIn v

  -- a server of which nothing happens
  kept_more : (v : World) → ((m : Message) → Has m M → Has m (messages v)) → (s : ServerId) (p : ServerNode) → node_of t.world s ≡ Some p →
      (c : ClientId) (y : Session) → sessions.session_of p.state.sessions c ≡ Some y →
      KeptBy is_final (λ number b. HasEvent past2 v c s y.life.0 p.state.stable.epoch.0 number b) y.state
  kept_more v f s p at c y q =
      kept_map is_final (λ number b. HasEvent past t.world c s y.life.0 p.state.stable.epoch.0 number b)
      (λ number b. HasEvent past2 v c s y.life.0 p.state.stable.epoch.0 number b) y.state
      (λ number b is fin z. event_more v f c s y.life.0 p.state.stable.epoch.0 number b z) (d.kept s p at c y q)

  -- servers and messages stay
  still : (v : World) → v.servers ≡ t.world.servers → messages v ≡ messages t.world → Next v
  still v ss ms =
      record {
        replies = λ m i s from fin. event_more v old (client m.header.to) s m.header.life m.header.epoch m.header.number m.body
            (d.replies m (subst (Has m) ms i) s from fin);
        kept = λ s p at. kept_more v old s p (ap (λ z. numbered z s.0) (sym ss) ∙ at);
      }
    where
      old : (m : Message) → Has m M → Has m (messages v)
      old m i = subst (Has m) (sym ms) i

  -- a server has no session
  emptied : (s : ServerId) (old new : ServerNode) (v : World) → node_of t.world s ≡ Some old → v.servers ≡ with_numbered s.0 new t.world.servers →
      messages v ≡ messages t.world → ((c : ClientId) → sessions.session_of new.state.sessions c ≡ None) → Next v
  emptied s old new v at ss ms none =
      record {
        replies =
            (λ m i y from fin. event_more v more (client m.header.to) y m.header.life m.header.epoch m.header.number m.body
            (d.replies m (subst (Has m) ms i) y from fin));
        kept = kept;
      }
    where
      more : (m : Message) → Has m M → Has m (messages v)
      more m i = subst (Has m) (sym ms) i

      no_session : {A : Type 0} (o : Option Session) (y : Session) → o ≡ None → o ≡ Some y → A
      no_session None y p q = cc q
      no_session (Some z) y p q = cc p

      kept : KeptIn v
      kept y p there c z q = go (set_cases t.world.servers s.0 y.0 old new p at (ap (λ r. numbered r y.0) (sym ss) ∙ there))
        where
          go : ((y.0 ≡ s.0) × (p ≡ new)) ⊎ ((y.0 ≢ s.0) × (node_of t.world y ≡ Some p)) →
              KeptBy is_final (λ number b. HasEvent past2 v c y z.life.0 p.state.stable.epoch.0 number b) z.state
          go (inl r) = no_session (sessions.session_of p.state.sessions c) z (ap (λ (u : ServerNode). sessions.session_of u.state.sessions c) r.1 ∙ none c) q
          go (inr r) = kept_more v more y p r.1 c z q

  -- A step of a client.
  client_step : (v : World) → v.servers ≡ t.world.servers → (c : ClientId) (i : ClientInput) (site old : WorldClient) → site.node ≡ old.node →
      site.node.running ≡ true → site_of t.world c ≡ Some old → Comes t.world i →
      (last : World) → Leaves M (ev.with_site c (SiteAfter v c i site) v) last (ClientTook v c i site).out → Next last
  client_step v ss c i site old same run at comes last l =
      record {
        replies = λ m j s from fin. event_more last l.old (client m.header.to) s m.header.life m.header.epoch m.header.number m.body
            (d.replies m (mine m s from (leaves_from M (ev.with_site c (SiteAfter v c i site) v) last (ClientTook v c i site).out l m j)) s from fin);
        kept = λ s p there. kept_more last l.old s p (ap (λ z. numbered z s.0) (sym ss) ∙ ap (λ z. numbered z s.0) (sym l.servers) ∙ there);
      }
    where
      few : c.0 ≤ 16
      few = let z = (numbered_below t.world.clients c.0 old at).1 in let y = h.base.cuts.few in omega (arith, z, y)

      mine : (m : Message) (s : ServerId) → m.header.from ≡ server_node s → Has m M ⊎ Has (outputs.Send m) (ClientTook v c i site).out → Has m M
      mine m s from (inl j) = j
      mine m s from (inr j) =
          absurd
          (server_not_client c.0 s.0 few
          (sym (sends_own k count past t e sc h n taken keys c i (clock_of v (nodes.Client c)) site old same comes run at m j) ∙ from))

  -- A message that a server takes is delivered.
  record Delivered (m : Message) : Type 0 where
    pub index : ℕ
    pub delivers : e ≡ events.Deliver index
    pub sent : SentMessage
    pub is : world.message_of t.world index ≡ Some sent
    pub same : m ≡ sent.message
    pub among : Has m M

  abbrev B : ServerInput → Type 0
  B serving.Tick = Unit {0}
  B (serving.Control m) = Delivered m

  -- a request for a name is served at a server in this event
  pub record ServedThere (s : ServerId) : Type 0 where
    pub c : ClientId
    pub life : ℕ
    pub epoch : ℕ
    pub number : ℕ
    pub reply : Body
    pub at : ServedAt (step t e sc) c s life epoch number reply
    pub op : NameOp
    pub body : at.sent.message.body ≡ bodies.Name op

  -- A step of a server.
  module _ (s : ServerId) (i : ServerInput) (node : ServerNode) (at : node_of t.world s ≡ Some node) (run : node.running ≡ true) (brings : B i)
      (is : (ServerLeft t.world s i node).world ≡ sc.world)
      (l : Leaves M (ev.with_node s (NodeAfter t.world s i node) w) (ServerLeft t.world s i node).world (ServerTook t.world s i node).out) where
    abbrev now : Stamp
    now = clock_of (ev.counted t.world) (nodes.Server s)

    abbrev epoch : Epoch
    epoch = node.state.stable.epoch

    abbrev names : Names
    names = node.state.stable.names

    abbrev u : server.ServerTurn
    u = ServerTook t.world s i node

    abbrev next : ServerNode
    next = NodeAfter t.world s i node

    abbrev last : World
    last = (ServerLeft t.world s i node).world

    id : node.state.id ≡ s
    id = (h.base.cuts.servers s node at).id

    abbrev Old : ClientId → ℕ → ℕ → Body → Type 0
    Old c life number b = HasEvent past t.world c s life epoch.0 number b

    begins : O is_final final_kind s epoch (Before is_final final_kind s epoch i names Old node.state now)
        (before_more is_final final_kind s epoch i names Old node.state now) names (server.turn node.state [])
    begins = record { acks = record { id = id; epoch = refl; kept = λ c y q. d.kept s node at c y q; sent = λ y j. absurd j }; names = refl }

    left : (m : Names) ×
        (O is_final final_kind s epoch (Good is_final final_kind s epoch i names Old node.state now m)
        (good_more is_final final_kind s epoch i names Old node.state now m) m u ×
        ((m ≡ names) ⊎ ServesNames is_final final_kind s epoch i names Old node.state now m))
    left = served is_final final_kind s epoch i names Old node.state now begins

    acks : Acks is_final final_kind s epoch (Good is_final final_kind s epoch i names Old node.state now left.0)
        (good_more is_final final_kind s epoch i names Old node.state now left.0) u
    acks = left.1.0.acks

    became : node_of last s ≡ Some next
    became = ap (λ z. numbered z s.0) l.servers ∙ numbered_own t.world.servers s.0 next node at

    -- the message that is taken
    delivered : (m : Message) → i ≡ serving.Control m → Delivered m
    delivered m q = subst B q brings

    -- what is served belongs to a session that lived before the thefts
    is_served : (m : Message) → m.header.to ≡ server_node s → m.header.epoch ≡ epoch.0 → server.is_client_node m.header.from ≡ true →
        server.take (behind_thefts t.world s node.state) m.header ≡ takes.Fresh → IsServedBy node.state m
    is_served m to ep client_node fresh =
        record {
          client = client_node;
          to = to ∙ ap server_node (sym id);
          of_epoch = ep;
          session = z.session;
          is = f.sessions (server.sender m.header) z.session z.is live;
          of_life = z.of_life;
          last = z.state.last;
          reply = z.state.reply;
          state = z.state.is;
          next = z.state.next;
        }
      where
        z : Found (behind_thefts t.world s node.state).state.sessions (server.sender m.header) (server.life_in m.header) (FreshState m.header.number)
        z = found_for (behind_thefts t.world s node.state).state.sessions (server.sender m.header) (server.life_in m.header) (server.epoch_in m.header)
            m.header.number takes.Fresh (FreshState m.header.number) fresh (λ r. cc r) (λ r. cc r) (λ r. cc r) (λ y r. fresh_state m.header.number y r)

        f : Begun node.state (behind_thefts t.world s node.state)
        f = thefts_begun node.state now

        live : sessions.is_live z.session ≡ true
        live = subst (λ r. sessions.is_live_state r ≡ true) (sym z.state.is) refl

    -- a request that was served now
    module _ (c : ClientId) (life number : ℕ) (b : Body) (z : New is_final final_kind s epoch i names Old node.state now left.0 u.out c life number b) where
      keyed : Keyed c s life epoch.0 number z.by
      keyed = record { between = (z.from, z.there); of_life = z.of_life; of_epoch = z.of_epoch; under = z.under }

      did : (asked b : Body) → Noted is_final final_kind s epoch i names Old node.state now asked u.out left.0 b →
          NamesDid names next.state.stable.names asked b
      did (bodies.Name op) (bodies.Named r) q = q ∙ ap (λ m. said m (name_answer r)) (sym left.1.0.names)
      did (bodies.Name op) b q = left.1.0.names ∙ q
      did asked b q = tt

      new_event : IsBehind (sessions.session_of u.state.sessions c) life number → HasEvent past2 sc.world c s life epoch.0 number b
      new_event behind = go z.how
        where
          gone : AllPast sc.world c s z.by
          gone p there = subst (λ q. IsPast c q z.by) is_p
              (inr (
                z.of_epoch ∙ ap (λ (y : Epoch). y.0) (sym acks.epoch),
                λ r. subst (λ q. IsBehind (sessions.session_of u.state.sessions c) q z.by.header.number) (sym z.of_life)
                    (subst (λ q. IsBehind (sessions.session_of u.state.sessions c) life q) (sym z.under) behind),
              ))
            where
              is_p : next ≡ p
              is_p = some_is (sym became ∙ ap (λ v. node_of v s) is ∙ there)

          serves : server.is_client_node z.by.header.from ≡ true → server.take (behind_thefts t.world s node.state) z.by.header ≡ takes.Fresh →
              (server.rule (behind_thefts t.world s node.state) (now_at t.world s) z.by.header z.by.body).reply ≡ Some b →
              Serves x c s life epoch.0 number b z.by
          serves cl fresh replied =
              record {
                keyed = keyed;
                old = node;
                was = at;
                running = run;
                served = is_served z.by z.there z.of_epoch cl fresh;
                fresh = fresh;
                replied = replied;
                new = next;
                became = ap (λ v. node_of v s) (sym is) ∙ became;
                gone = gone;
                did = did z.by.body b z.noted;
              }

          go : Rattle.st_laws_requests.proofs.Cuts.Server.Serves is_final final_kind s epoch i names Old node.state now z.by b ⊎ (reasserts z.by.body ≡ true) →
              HasEvent past2 sc.world c s life epoch.0 number b
          go (inl y) =
              let g = delivered z.by z.is in
              inl (
                x,
                has_right past (x ∷ []) x (inl refl),
                record {
                  index = g.index;
                  delivers = g.delivers;
                  sent = g.sent;
                  is = g.is;
                  serves =
                      subst (Serves x c s life epoch.0 number b) g.same (serves y.client y.fresh y.replied);
                },
              )
          go (inr y) =
              inr (record { by = z.by; among = subst (λ v. Has z.by (messages v)) is (l.old z.by (delivered z.by z.is).among); keyed = keyed; asks = y })

    -- a reply that is kept
    kept_own : (c : ClientId) (y : Session) → sessions.session_of u.state.sessions c ≡ Some y →
        KeptBy is_final (λ number b. HasEvent past2 sc.world c s y.life.0 next.state.stable.epoch.0 number b) y.state
    kept_own c y q =
        subst (λ (v : Epoch). KeptBy is_final (λ number b. HasEvent past2 sc.world c s y.life.0 v.0 number b) y.state) (sym acks.epoch)
        (kept_map is_final (Good is_final final_kind s epoch i names Old node.state now left.0 u.out c y.life.0)
        (λ number b. HasEvent past2 sc.world c s y.life.0 epoch.0 number b) y.state good (acks.kept c y q))
      where
        good : (number : ℕ) (b : Body) → y.state ≡ states.Live number (Some b) → is_final b ≡ true →
            Good is_final final_kind s epoch i names Old node.state now left.0 u.out c y.life.0 number b → HasEvent past2 sc.world c s y.life.0 epoch.0 number b
        good number b st fin (inl z) = event_more sc.world (λ m j. subst (λ v. Has m (messages v)) is (l.old m j)) c s y.life.0 epoch.0 number b z
        good number b st fin (inr z) = new_event c y.life.0 number b z
            (subst (λ o. IsBehind o y.life.0 number) (sym q) (inr (refl, subst (Reached number) (sym st) (omega arith))))

    -- a reply that is sent
    sent_own : (m : Message) → Has (outputs.Send m) u.out → (y : ServerId) → m.header.from ≡ server_node y → is_final m.body ≡ true →
        HasEvent past2 sc.world (client m.header.to) y m.header.life m.header.epoch m.header.number m.body
    sent_own m j y from fin =
        subst (λ v. HasEvent past2 sc.world (client m.header.to) (record { 0 = v }) m.header.life m.header.epoch m.header.number m.body) same
        (subst (λ v. HasEvent past2 sc.world (client m.header.to) s m.header.life v m.header.number m.body) (sym z.0) (good z.1))
      where
        own : (m.header.from ≡ server_node s) ×
            (is_final m.body ≡ true → (m.header.epoch ≡ epoch.0) ×
            Good is_final final_kind s epoch i names Old node.state now left.0 u.out (client m.header.to) m.header.life m.header.number m.body)
        own = acks.sent m j

        z : (m.header.epoch ≡ epoch.0) × Good is_final final_kind s epoch i names Old node.state now left.0 u.out (client m.header.to) m.header.life
            m.header.number m.body
        z = own.1 fin

        same : s.0 ≡ y.0
        same = let a = own.0 in omega (arith, a, from)

        there : Has m (messages sc.world)
        there = subst (λ v. Has m (messages v)) is (server_sends s u.out (ev.quiet (ev.with_node s next w)) m j)

        good : Good is_final final_kind s epoch i names Old node.state now left.0 u.out (client m.header.to) m.header.life m.header.number m.body →
            HasEvent past2 sc.world (client m.header.to) s m.header.life epoch.0 m.header.number m.body
        good (inl g) = event_more sc.world (λ p q. subst (λ v. Has p (messages v)) is (l.old p q)) (client m.header.to) s m.header.life epoch.0 m.header.number
            m.body g
        good (inr g) = how g.how
          where
            -- what the replies of the server say
            says : 1 ≤ m.header.number → IsBehind (sessions.session_of u.state.sessions (client m.header.to)) m.header.life m.header.number ⊎
                Refusal (messages sc.world) s m
            says pos = (n.base.replies.replies s next (ap (λ v. node_of v s) (sym is) ∙ became) m there own.0).behind run
                (z.0 ∙ ap (λ (v : Epoch). v.0) (sym acks.epoch)) (final_ends m.body fin) pos

            by : IsBehind (sessions.session_of u.state.sessions (client m.header.to)) m.header.life m.header.number ⊎ Refusal (messages sc.world) s m →
                HasEvent past2 sc.world (client m.header.to) s m.header.life epoch.0 m.header.number m.body
            by (inl r) = new_event (client m.header.to) m.header.life m.header.number m.body g r
            by (inr r) =
                inr (record {
                  by = r.by;
                  among = r.among;
                  keyed = record { between = (r.from, r.there); of_life = r.of_life; of_epoch = r.of_epoch ∙ z.0; under = r.under };
                  asks = ap reasserts r.asks;
                })

            how : Rattle.st_laws_requests.proofs.Cuts.Server.Serves is_final final_kind s epoch i names Old node.state now g.by m.body ⊎
                (reasserts g.by.body ≡ true) → HasEvent past2 sc.world (client m.header.to) s m.header.life epoch.0 m.header.number m.body
            how (inl y) =
                let q = (is_served g.by g.there g.of_epoch y.client y.fresh).next in
                let p = g.under in
                by (says (omega (arith, q, p)))
            how (inr y) =
                inr (record {
                  by = g.by;
                  among = subst (λ v. Has g.by (messages v)) is (l.old g.by (delivered g.by g.is).among);
                  keyed =
                      record { between = (g.from, g.there); of_life = g.of_life; of_epoch = g.of_epoch; under = g.under };
                  asks = y;
                })

    -- names that change serve a request for a name
    names_served : (next.state.stable.names ≡ names → ⊥) → ServedThere s
    names_served differ = go left.1.1
      where
        by_request : ServesNames is_final final_kind s epoch i names Old node.state now left.0 →
            ((m : Message) × (i ≡ serving.Control m) × NamesBy node.state m u.state.stable.names) → ServedThere s
        by_request z q = pick (step_serves node.state now z.by q.2.op body)
          where
            same : q.0 ≡ z.by
            same = of_control (sym q.1 ∙ z.is)
              where
                of_control : {m p : Message} → serving.Control m ≡ serving.Control p → m ≡ p
                of_control r = cc r

            op : NameOp
            op = q.2.op

            body : z.by.body ≡ bodies.Name q.2.op
            body = ap (λ (m : Message). m.body) (sym same) ∙ q.2.body

            g : Delivered z.by
            g = delivered z.by z.is

            start_names : (behind_thefts t.world s node.state).state.stable.names ≡ names
            start_names =
                (own_after_thefts is_final final_kind s epoch (Before is_final final_kind s epoch i names Old node.state now)
                (before_more is_final final_kind s epoch i names Old node.state now) names node.state now begins).names

            reply : Body
            reply = (name_replies (behind_thefts t.world s node.state) now z.by.header q.2.op).body

            replied : (server.rule (behind_thefts t.world s node.state) now z.by.header z.by.body).reply ≡ Some
                (name_replies (behind_thefts t.world s node.state) now z.by.header q.2.op).body
            replied =
                subst
                (λ b. (server.rule (behind_thefts t.world s node.state) now z.by.header b).reply ≡ Some
                (name_replies (behind_thefts t.world s node.state) now z.by.header q.2.op).body) (sym body)
                (name_replies (behind_thefts t.world s node.state) now z.by.header q.2.op).is

            rule_names : (server.rule (behind_thefts t.world s node.state) now z.by.header (bodies.Name q.2.op)).turn.state.stable.names ≡
                next.state.stable.names
            rule_names = subst (λ b. (server.rule (behind_thefts t.world s node.state) now z.by.header b).turn.state.stable.names ≡ next.state.stable.names)
                body (z.names_ ∙ sym left.1.0.names)

            did : NamesDid names next.state.stable.names z.by.body (name_replies (behind_thefts t.world s node.state) now z.by.header q.2.op).body
            did = subst (λ b. NamesDid names next.state.stable.names b (name_replies (behind_thefts t.world s node.state) now z.by.header q.2.op).body)
                (sym body)
                (names_said names next.state.stable.names now (behind_thefts t.world s node.state) z.by.header q.2.op start_names rule_names)

            serves : IsBehind (sessions.session_of u.state.sessions (server.sender z.by.header)) z.by.header.life z.by.header.number →
                Serves x (client z.by.header.from) s z.by.header.life z.by.header.epoch z.by.header.number
                (name_replies (behind_thefts t.world s node.state) now z.by.header q.2.op).body z.by
            serves behind =
                record {
                  keyed = record { between = (refl, z.there); of_life = refl; of_epoch = refl; under = refl };
                  old = node;
                  was = at;
                  running = run;
                  served = is_served z.by z.there z.of_epoch z.client z.fresh;
                  fresh = z.fresh;
                  replied = replied;
                  new = next;
                  became = ap (λ v. node_of v s) (sym is) ∙ became;
                  gone = λ p there. subst (λ q. IsPast (client z.by.header.from) q z.by) (some_is (sym became ∙ ap (λ v. node_of v s) is ∙ there))
                      (inr (z.of_epoch ∙ ap (λ (y : Epoch). y.0) (sym acks.epoch), λ r. behind));
                  did = did;
                }

            pick : ((server.server_step node.state now (serving.Control z.by)).state.stable.names ≡ names) ⊎
                IsBehind (sessions.session_of (server.server_step node.state now (serving.Control z.by)).state.sessions (server.sender z.by.header))
                z.by.header.life z.by.header.number → ServedThere s
            pick (inl r) = absurd (differ (subst (λ j. (server.server_step node.state now j).state.stable.names ≡ names) (sym z.is) r))
            pick (inr r) =
                record {
                  c = client z.by.header.from;
                  life = z.by.header.life;
                  epoch = z.by.header.epoch;
                  number = z.by.header.number;
                  reply = (name_replies (behind_thefts t.world s node.state) now z.by.header q.2.op).body;
                  at = record {
                    index = g.index;
                    delivers = g.delivers;
                    sent = g.sent;
                    is = g.is;
                    serves = subst
                        (Serves x (client z.by.header.from) s z.by.header.life z.by.header.epoch z.by.header.number
                        (name_replies (behind_thefts t.world s node.state) now z.by.header q.2.op).body) g.same
                        (serves (subst
                        (λ j. IsBehind (sessions.session_of (server.server_step node.state now j).state.sessions (server.sender z.by.header))
                        z.by.header.life z.by.header.number) (sym z.is) r));
                  };
                  op = q.2.op;
                  body = ap (λ (m : Message). m.body) (sym g.same) ∙ body;
                }

        go : (left.0 ≡ names) ⊎ ServesNames is_final final_kind s epoch i names Old node.state now left.0 → ServedThere s
        go (inl q) = absurd (differ (left.1.0.names ∙ q))
        go (inr z) = by (step_names node.state now i)
          where
            by : (u.state.stable.names ≡ names) ⊎ ((m : Message) × (i ≡ serving.Control m) × NamesBy node.state m u.state.stable.names) → ServedThere s
            by (inl r) = absurd (differ r)
            by (inr r) = by_request z r

    server_step : Next sc.world
    server_step = record { replies = replies; kept = kept }
      where
        replies : RepliesHaveEvents past2 sc.world
        replies m j y from fin = go (leaves_from M (ev.with_node s next w) last u.out l m (subst (λ v. Has m (messages v)) (sym is) j))
          where
            go : Has m M ⊎ Has (outputs.Send m) u.out → HasEvent past2 sc.world (client m.header.to) y m.header.life m.header.epoch m.header.number m.body
            go (inl q) = event_more sc.world (λ p r. subst (λ v. Has p (messages v)) is (l.old p r)) (client m.header.to) y m.header.life m.header.epoch
                m.header.number m.body (d.replies m q y from fin)
            go (inr q) = sent_own m q y from fin

        kept : KeptIn sc.world
        kept y p there c r q =
            go (set_cases t.world.servers s.0 y.0 node next p at (ap (λ z. numbered z y.0) (sym l.servers) ∙ ap (λ v. node_of v y) is ∙ there))
          where
            go : ((y.0 ≡ s.0) × (p ≡ next)) ⊎ ((y.0 ≢ s.0) × (node_of t.world y ≡ Some p)) →
                KeptBy is_final (λ number b. HasEvent past2 sc.world c y r.life.0 p.state.stable.epoch.0 number b) r.state
            go (inl z) =
                subst (λ (v : ServerNode). KeptBy is_final (λ number b. HasEvent past2 sc.world c y r.life.0 v.state.stable.epoch.0 number b) r.state) (sym z.1)
                (subst (λ v. KeptBy is_final (λ number b. HasEvent past2 sc.world c (record { 0 = v }) r.life.0 next.state.stable.epoch.0 number b) r.state)
                (sym z.0)
                (kept_own c r (subst (λ (v : ServerNode). sessions.session_of v.state.sessions c ≡ Some r) z.1 q)))
            go (inr z) = kept_more sc.world (λ m j. subst (λ v. Has m (messages v)) is (l.old m j)) y p z.1 c r q

  -- Every event.
  crashed : (s : ServerId) (node : ServerNode) → node_of t.world s ≡ Some node → Next (ev.crashes_server w s (Some node))
  unfolding ev.crashes_server server.crash w
  crashed s node at = emptied s node (server.crash_node node) (ev.crashes_server w s (Some node)) at refl refl (λ c. refl)

  started : (s : ServerId) (node : ServerNode) → node_of t.world s ≡ Some node → Next (ev.starts_server w s (Some node))
  unfolding ev.starts_server server.start server.begin_epoch w
  started s node at = emptied s node (server.start_node node (clock_of w (nodes.Server s))) (ev.starts_server w s (Some node)) at refl refl (λ c. refl)

  stopped : (c : ClientId) (site : WorldClient) → Next (ev.crashes_client w c (Some site)).world
  unfolding ev.crashes_client ev.marks w
  stopped c site = still (ev.crashes_client w c (Some site)).world refl refl

  begun : (c : ClientId) (site : WorldClient) → Next (ev.starts_client w c (Some site))
  unfolding ev.starts_client w
  begun c site = still (ev.starts_client w c (Some site)) refl refl

  event_next : Next sc.world
  event_next =
      event_brings t.world e B (λ s q. tt)
      (λ i m q r. record {
        index = i;
        delivers = q;
        sent = m;
        is = r;
        same = refl;
        among =
            has_map_in message_in t.world.net.messages m (numbered_has t.world.net.messages i m r);
      }) (λ v. v ≡ sc.world → Next v)
      (λ v cs ss ms q. still v ss ms) (λ v cs ss c i site old same run at comes last l q. client_step v ss c i site old same run at comes last l)
      (λ s i node at run brings new_ l q. subst Next (sym q) (server_step s i node at run brings q l)) (λ c site at q. stopped c site)
      (λ c site at q. begun c site) (λ s node at q. crashed s node at) (λ s node at q. started s node at) sc
      (owed k count past t e sc ranges h.base taken) taken refl

  -- A key that was served is no longer served.
  pub not_again : (y : Step) → Has y past → (c : ClientId) (s : ServerId) (life epoch number : ℕ) (r q : Body) → ServedAt y c s life epoch number r →
      ServedAt (step t e sc) c s life epoch number q → ⊥
  not_again y i c s life epoch number r q a b =
      not_past c b.serves.old b.sent.message b.serves.served b.serves.running b.serves.keyed.between.0
      (past_same c b.serves.old a.sent.message b.sent.message (a.serves.keyed.of_life ∙ sym b.serves.keyed.of_life)
      (a.serves.keyed.of_epoch ∙ sym b.serves.keyed.of_epoch) (a.serves.keyed.under ∙ sym b.serves.keyed.under)
      (pasts y i c s a.sent.message a.serves.gone b.serves.old b.serves.was))

  -- In one event it is served with one reply.
  one_reply : (c : ClientId) (s : ServerId) (life epoch number : ℕ) (r q : Body) → ServedAt (step t e sc) c s life epoch number r →
      ServedAt (step t e sc) c s life epoch number q → r ≡ q
  one_reply c s life epoch number r q a b =
      some_is
      (sym a.serves.replied ∙ ap (λ (o : ServerNode). replies o a.sent.message) old ∙ ap (λ (m : SentMessage). replies b.serves.old m.message) sent ∙
      b.serves.replied)
    where
      replies : ServerNode → Message → Option Body
      replies o m = (server.rule (behind_thefts t.world s o.state) (now_at t.world s) m.header m.body).reply

      old : a.serves.old ≡ b.serves.old
      old = some_is (sym a.serves.was ∙ b.serves.was)

      index : a.index ≡ b.index
      index = of_deliver (sym a.delivers ∙ b.delivers)
        where
          of_deliver : {i j : ℕ} → events.Deliver i ≡ events.Deliver j → i ≡ j
          of_deliver q = cc q

      sent : a.sent ≡ b.sent
      sent = some_is (sym a.is ∙ ap (λ i. world.message_of t.world i) index ∙ b.is)

  once_on : ServedOnce past2
  once_on y z i j c s life epoch number r q a b = go (has_append past (x ∷ []) y i) (has_append past (x ∷ []) z j)
    where
      go : Has y past ⊎ Has y (x ∷ []) → Has z past ⊎ Has z (x ∷ []) → r ≡ q
      go (inl f) (inl g) = d.once y z f g c s life epoch number r q a b
      go (inl f) (inr (inl g)) = absurd (not_again y f c s life epoch number r q a (subst (λ (v : Step). ServedAt v c s life epoch number q) g b))
      go (inr (inl f)) (inl g) = absurd (not_again z g c s life epoch number q r b (subst (λ (v : Step). ServedAt v c s life epoch number r) f a))
      go (inr (inl f)) (inr (inl g)) = one_reply c s life epoch number r q (subst (λ (v : Step). ServedAt v c s life epoch number r) f a)
          (subst (λ (v : Step). ServedAt v c s life epoch number q) g b)
      go (inr (inr f)) g = absurd f
      go (inl f) (inr (inr g)) = absurd g
      go (inr (inl f)) (inr (inr g)) = absurd g

  -- The request that a server serves in this event has its event.
  pub served_now : (index : ℕ) (sent : SentMessage) (s : ServerId) (old new : ServerNode) (reply : Body) → e ≡ events.Deliver index →
      world.message_of t.world index ≡ Some sent → node_of t.world s ≡ Some old → old.running ≡ true → IsServedBy old.state sent.message →
      server.take (behind_thefts t.world s old.state) sent.message.header ≡ takes.Fresh →
      (server.rule (behind_thefts t.world s old.state) (now_at t.world s) sent.message.header sent.message.body).reply ≡ Some reply →
      node_of sc.world s ≡ Some new →
      new.state.stable.epoch ≡ old.state.stable.epoch →
      IsBehind (sessions.session_of new.state.sessions (client sent.message.header.from)) sent.message.header.life sent.message.header.number →
      NamesDid old.state.stable.names new.state.stable.names sent.message.body reply →
      ServedAt (step t e sc) (client sent.message.header.from) s sent.message.header.life sent.message.header.epoch sent.message.header.number reply
  served_now index sent s old new reply delivers is at run by fresh replied became same_epoch behind did =
      record {
        index = index;
        delivers = delivers;
        sent = sent;
        is = is;
        serves = record {
          keyed = record { between = (refl, by.to ∙ ap server_node (h.base.cuts.servers s old at).id); of_life = refl; of_epoch = refl; under = refl };
          old = old;
          was = at;
          running = run;
          served = by;
          fresh = fresh;
          replied = replied;
          new = new;
          became = became;
          gone = λ p there. subst (λ q. IsPast (client sent.message.header.from) q sent.message) (some_is (sym became ∙ there))
              (inr (by.of_epoch ∙ ap (λ (y : Epoch). y.0) (sym same_epoch), λ r. behind));
          did = did;
        };
      }

  -- An event in which the names of a server change serves a request.
  pub changed_served : (s : ServerId) (old new : ServerNode) → node_of t.world s ≡ Some old → node_of sc.world s ≡ Some new →
      (new.state.stable.names ≡ old.state.stable.names → ⊥) → ServedThere s
  unfolding ev.crashes_client ev.marks ev.starts_client ev.crashes_server ev.starts_server
  changed_served s old new was there differ =
      event_brings t.world e B (λ s q. tt)
      (λ i m q r. record {
        index = i;
        delivers = q;
        sent = m;
        is = r;
        same = refl;
        among =
            has_map_in message_in t.world.net.messages m (numbered_has t.world.net.messages i m r);
      }) (λ v. v ≡ sc.world → ServedThere s)
      (λ v cs ss ms q. same_servers v ss q) (λ v cs ss c i site old same run at comes last l q. same_servers last (l.servers ∙ ss) q)
      (λ y i node run_at run brings new_ l q. stepped y i node run_at run brings l q)
      (λ c site at q. same_servers (ev.crashes_client w c (Some site)).world refl q) (λ c site at q. same_servers (ev.starts_client w c (Some site)) refl q)
      (λ y node at q. put y node (server.crash_node node) (ev.crashes_server w y (Some node)) at refl (crashed_names node) q)
      (λ y node at q. put y node (server.start_node node (clock_of w (nodes.Server y))) (ev.starts_server w y (Some node)) at refl
      (started_names node (clock_of w (nodes.Server y))) q) sc
      (owed k count past t e sc ranges h.base taken) taken refl
    where
      same_servers : (v : World) → v.servers ≡ t.world.servers → v ≡ sc.world → ServedThere s
      same_servers v ss q =
          absurd
          (differ (ap (λ (p : ServerNode). p.state.stable.names) (some_is (sym there ∙ ap (λ u. node_of u s) (sym q) ∙ ap (λ r. numbered r s.0) ss ∙ was))))

      -- a server with the same names is put at its place
      put : (y : ServerId) (node after : ServerNode) (v : World) → node_of t.world y ≡ Some node → v.servers ≡ with_numbered y.0 after t.world.servers →
          after.state.stable.names ≡ node.state.stable.names → v ≡ sc.world → ServedThere s
      put y node after v at ss kept q =
          go (set_cases t.world.servers y.0 s.0 node after new at (ap (λ r. numbered r s.0) (sym ss) ∙ ap (λ u. node_of u s) q ∙ there))
        where
          go : ((s.0 ≡ y.0) × (new ≡ after)) ⊎ ((s.0 ≢ y.0) × (node_of t.world s ≡ Some new)) → ServedThere s
          go (inl z) =
              absurd
              (differ
              (ap (λ (p : ServerNode). p.state.stable.names) z.1 ∙ kept ∙
              ap (λ (p : ServerNode). p.state.stable.names) (some_is (sym at ∙ ap (λ m. numbered t.world.servers m) (sym z.0) ∙ was))))
          go (inr z) = absurd (differ (ap (λ (p : ServerNode). p.state.stable.names) (some_is (sym z.1 ∙ was))))

      stepped : (y : ServerId) (i : ServerInput) (node : ServerNode) → node_of t.world y ≡ Some node → node.running ≡ true → B i →
          Leaves M (ev.with_node y (NodeAfter t.world y i node) w) (ServerLeft t.world y i node).world (ServerTook t.world y i node).out →
          (ServerLeft t.world y i node).world ≡ sc.world → ServedThere s
      stepped y i node at run brings l q =
          go (set_cases t.world.servers y.0 s.0 node (NodeAfter t.world y i node) new at
          (ap (λ r. numbered r s.0) (sym l.servers) ∙ ap (λ u. node_of u s) q ∙ there))
        where
          go : ((s.0 ≡ y.0) × (new ≡ NodeAfter t.world y i node)) ⊎ ((s.0 ≢ y.0) × (node_of t.world s ≡ Some new)) → ServedThere s
          go (inr z) = absurd (differ (ap (λ (p : ServerNode). p.state.stable.names) (some_is (sym z.1 ∙ was))))
          go (inl z) = own (ap (λ m. record { 0 = m }) z.0)
            where
              own : s ≡ y → ServedThere s
              own same =
                  subst ServedThere (sym same)
                  (names_served y i node at run brings q l
                  (λ r. differ
                  (ap (λ (p : ServerNode). p.state.stable.names) z.1 ∙ r ∙
                  ap (λ (p : ServerNode). p.state.stable.names) (some_is (sym at ∙ ap (λ v. node_of t.world v) (sym same) ∙ was)))))

  pub replies_on : RepliesHold (past ++ step t e sc ∷ []) sc.world
  replies_on = record { replies = event_next.replies; kept = event_next.kept; once = once_on }

-- At the start nothing was replied.
pub replies_begin : (k : base.Config) (clients servers disks blocks form : ℕ) → RepliesHold [] (fresh_world k clients servers disks blocks form)
unfolding fresh_world server.fresh_server
replies_begin k clients servers disks blocks form = record { replies = λ m i. absurd i; kept = kept; once = λ y z i. absurd i }
  where
    w : World
    w = fresh_world k clients servers disks blocks form

    kept : (s : ServerId) (p : ServerNode) → node_of w s ≡ Some p → (c : ClientId) (y : Session) → sessions.session_of p.state.sessions c ≡ Some y →
        KeptBy is_final (λ number b. HasEvent [] w c s y.life.0 p.state.stable.epoch.0 number b) y.state
    kept s p at c y q =
        go (subst (λ (v : ServerNode). sessions.session_of v.state.sessions c ≡ Some y) (fresh_is (world.node_at_start k servers disks blocks) servers s.0 p at)
        q)
      where
        go : {A : Type 0} → ◌≡◌ {A = Option Session} None (Some y) → A
        go e = cc e
