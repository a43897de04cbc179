-- In every run, after every event, take each grant that a server sent, each one that it keeps for a
-- client, and each wait. The inode of its file was given. It comes from a request of the same life and
-- epoch, which was served after each refusal of the file from before its inode was given.
use Rattle.st_lemmas.proofs.Words
use Words.{◌≡◌, ◌≢◌, ◌⊎◌, ℕ, ◌+◌, ◌≤◌, ◌<◌, arith, true, List, [], ◌∷◌, ◌++◌, Option, Some, None, Ok, refl, sym, ap, ◌∙◌, subst, inl, inr}
use Words.{Body, ClientId, ClientInput, Epoch, Event, Message, Mode, ServerId, ServerInput, Session, SessionState, Stamp}
use Words.bodies
use Words.nodes
use Words.outputs
use Words.serving
use Words.states
use Words.Client as cl
use Words.Events as ev
use Words.Events.{WorldTurn, world_step}
use Words.History.{Traced}
use Words.Keys.{client, server_node}
use Words.Lists.{Has}
use Words.Lookups.{some_is}
use Words.Names as names
use Words.Numbers.{numbered_below, numbered_has}
use Words.Safety.{Step, step}
use Words.Server as server
use Words.Server.{ServerNode, ServerTurn, Stable, sender}
use Words.Sessions as sessions
use Words.World.{World, WorldClient, clock_of, fresh_world, node_at_start, node_of, numbered, site_of, with_numbered}
use Rattle.st_base.specs.declared.config.Config.{Config}
use Rattle.st_trace.specs.Server.Edits.{Served}
use Rattle.st_laws_leases.specs.Dates.Dates.{ClientDated, Dated, message_in, messages}
use Rattle.st_laws_leases.proofs.Dates.Leaving.{Leaves, leaves_from, server_not_client, set_cases}
use Rattle.st_laws_leases.proofs.Dates.Receiving.{Ever, Held, ever_on, step_held}
use Rattle.st_laws_leases.proofs.Dates.Receiving as receiving
use Rattle.st_laws_pages.proofs.Lives.Fresh.{fresh_is}
use Rattle.st_laws_requests.specs.Replies.ServedRequests.{IsBehind, Reached}
use Rattle.st_laws_requests.proofs.Replies.EachEvent.{Brings, ClientTook, NodeAfter, ServerLeft, ServerTook, SiteAfter}
use Rattle.st_laws_extents.specs.CutRequests.EndedLives.{IsPast}
use Rattle.st_laws_cuts.specs.EndedRequests.{AllPast}
use Rattle.st_laws_cuts.proofs.Events.{same_epoch}
use Rattle.st_laws_volume.proofs.AskedWaits.{GrantedBody}
use Rattle.st_laws_volume.proofs.EventAnswers.{ByAsk, ByMessage, ByReport, ByTick, TakesAt}
use Rattle.st_laws_volume.proofs.EventTakes.{event_takes}
use Rattle.st_laws_volume.proofs.GrantWalk.{AllWait, Gives, served}
use Rattle.st_laws_volume.proofs.KeptGrants.{GrantsKept, KeepsGrants}
use Rattle.st_laws_volume.proofs.MappedFiles.{file_entry}
use Rattle.st_laws_volume.proofs.TreeWorld.{AllSound}
use Rattle.st_laws_volume.proofs.UngivenFiles.{IsRefused, IsUnder, under_on}

-- What the grants and the waits of a world are, by what is known in a world.
pub record AreUnder (past : List Step) (at : World) (w : World) : Type 0 where
  pub sent : (m : Message) → Has m (messages w) → (s : ServerId) →
      m.header.from ≡ server_node s →
      GrantedBody (IsUnder past at s m.header.epoch (client m.header.to) m.header.life) m.body
  pub waits : (s : ServerId) (node : ServerNode) → node_of w s ≡ Some node →
      AllWait (IsUnder past at s node.state.stable.epoch.0) node.state.locks
  pub kept : (s : ServerId) (node : ServerNode) → node_of w s ≡ Some node →
      KeepsGrants (IsUnder past at s node.state.stable.epoch.0) node.state.sessions

-- More is known.
granted_more : (F G : ℕ → Type 0) → ((ino : ℕ) → F ino → G ino) → (b : Body) → GrantedBody F b →
    GrantedBody G b
granted_more F G f (bodies.Granted ino g mode) h = f ino h
granted_more F G f b h = tt

state_more : (F G : ℕ → Type 0) → ((ino : ℕ) → F ino → G ino) → (x : SessionState) →
    GrantsKept F x → GrantsKept G x
state_more F G f (states.Live last (Some b)) h = granted_more F G f b h
state_more F G f (states.Live last None) h = tt
state_more F G f states.Ended h = tt

module _ (V W : ClientId → ℕ → ℕ → Type 0)
    (f : (c : ClientId) (life ino : ℕ) → V c life ino → W c life ino) where
  waits_more : (l : Words.Locks.Locks) → AllWait V l → AllWait W l
  waits_more l h x i = f x.client x.life.0 x.ino (h x i)

  keeps_more : (t : sessions.Sessions) → KeepsGrants V t → KeepsGrants W t
  keeps_more t h c y e =
      state_more (V c y.life.0) (W c y.life.0) (f c y.life.0) y.state (h c y e)

-- A request for a lock of a file is served.
module _ (past : List Step) (t : Traced) (sound : AllSound t.world)
    (pasts : (y : Step) → Has y past → (c : ClientId) (s : ServerId) (m : Message) →
    AllPast y.after.world c s m → AllPast t.world c s m)
    (s : ServerId) (node : ServerNode) (at : node_of t.world s ≡ Some node)
    (id : node.state.id ≡ s) (runs : node.running ≡ true) (now : Stamp) (i : ServerInput)
    (comes : (m : Message) → i ≡ serving.Control m → Has m (messages t.world)) where
  abbrev E : ℕ
  E = node.state.stable.epoch.0

  module _ (m : Message) (u : ServerTurn) (z : Served node.state now i u m) (ino : ℕ)
      (file : names.is_file u.state.stable.names ino ≡ true) where
    stable : u.state.stable ≡ node.state.stable
    stable = z.asked.heard.came.begun.stable

    given : ino < node.state.stable.names.next
    given =
        let e = file_entry node.state.stable.names ino
        (sym (ap (λ (y : Stable). names.is_file y.names ino) stable) ∙ file) in
        subst (λ n. n < node.state.stable.names.next) e.its
        ((sound node (numbered_has t.world.servers s.0 node at)).numbers e.entry e.has).1

    session : sessions.session_of node.state.sessions (sender m.header) ≡ Some z.in_life.session
    session =
        z.asked.heard.came.begun.sessions (sender m.header) z.in_life.session z.in_life.is
        (ap sessions.is_live_state z.in_life.state)

    epoch : m.header.epoch ≡ E
    epoch = z.asked.epoch ∙ ap (λ (y : Stable). y.epoch.0) stable

    later : (number : ℕ) → IsRefused past (sender m.header) s m.header.life E number ino →
        number < m.header.number
    later number r = go (pasts r.y r.among (sender m.header) s q r.served.serves.gone node at)
      where
        q : Message
        q = r.served.sent.message

        behind : IsBehind (Some z.in_life.session) q.header.life q.header.number →
            number < m.header.number
        behind (inl l) =
            let a = z.in_life.of_life in
            let b = r.served.serves.keyed.of_life in absurd (omega (arith, l, a, b))
        behind (inr l) =
            let a = subst (Reached q.header.number) z.in_life.state l.1 in
            let b = z.next in
            let d = r.served.serves.keyed.under in omega (arith, a, b, d)

        go : IsPast (sender m.header) node q → number < m.header.number
        go (inl l) = let b = r.served.serves.keyed.of_epoch in absurd (omega (arith, l, b))
        go (inr l) =
            behind (subst (λ o. IsBehind o q.header.life q.header.number) session (l.1 runs))

    served_under : IsUnder past t.world s E (sender m.header) m.header.life ino
    served_under =
        record {
          given = λ n q. subst (λ (x : ServerNode). ino < x.state.stable.names.next)
              (some_is (sym at ∙ q)) given;
          message = m;
          among = comes m z.asked.heard.came.is;
          between = (
            refl,
            z.asked.heard.came.there
                ∙ (ap server_node z.asked.heard.came.begun.id ∙ ap server_node id),
          );
          first = let e = z.next in omega (arith, e);
          of_life = refl;
          of_epoch = epoch;
          later = later;
        }

-- An event.
module _ (past : List Step) (t : Traced) (e : Event) (sc : WorldTurn)
    (happened : world_step t.world e ≡ Ok sc)
    (grown : (m : Message) → Has m (messages t.world) → Has m (messages sc.world))
    (d : Dated past t) (sound : AllSound t.world)
    (pasts : (y : Step) → Has y past → (c : ClientId) (s : ServerId) (m : Message) →
    AllPast y.after.world c s m → AllPast t.world c s m)
    (h : AreUnder past t.world t.world) where
  abbrev past2 : List Step
  past2 = past ++ step t e sc ∷ []

  abbrev R : World → Type 0
  R v = AreUnder past2 sc.world v

  on : (s : ServerId) (epoch : ℕ) (c : ClientId) (life ino : ℕ) →
      IsUnder past t.world s epoch c life ino → IsUnder past2 sc.world s epoch c life ino
  on = under_on past t e sc happened grown

  old_sent : (m : Message) → Has m (messages t.world) → (s : ServerId) →
      m.header.from ≡ server_node s →
      GrantedBody (IsUnder past2 sc.world s m.header.epoch (client m.header.to) m.header.life)
      m.body
  old_sent m i s from =
      granted_more (IsUnder past t.world s m.header.epoch (client m.header.to) m.header.life)
      (IsUnder past2 sc.world s m.header.epoch (client m.header.to) m.header.life)
      (on s m.header.epoch (client m.header.to) m.header.life) m.body (h.sent m i s from)

  -- a server as it was, or with other locks and sessions
  old_waits : (s : ServerId) (node : ServerNode) → node_of t.world s ≡ Some node →
      AllWait (IsUnder past2 sc.world s node.state.stable.epoch.0) node.state.locks
  old_waits s node at =
      waits_more (IsUnder past t.world s node.state.stable.epoch.0)
      (IsUnder past2 sc.world s node.state.stable.epoch.0) (on s node.state.stable.epoch.0)
      node.state.locks (h.waits s node at)

  old_kept : (s : ServerId) (node : ServerNode) → node_of t.world s ≡ Some node →
      KeepsGrants (IsUnder past2 sc.world s node.state.stable.epoch.0) node.state.sessions
  old_kept s node at =
      keeps_more (IsUnder past t.world s node.state.stable.epoch.0)
      (IsUnder past2 sc.world s node.state.stable.epoch.0) (on s node.state.stable.epoch.0)
      node.state.sessions (h.kept s node at)

  alike : (v : World) → v.clients ≡ t.world.clients → v.servers ≡ t.world.servers →
      messages v ≡ messages t.world → R v
  alike v cs ss ms =
      record {
        sent = λ m i. old_sent m (subst (Has m) ms i);
        waits = λ s node at. old_waits s node (ap (λ xs. numbered xs s.0) (sym ss) ∙ at);
        kept = λ s node at. old_kept s node (ap (λ xs. numbered xs s.0) (sym ss) ∙ at);
      }

  record OfNode (s : ServerId) (node : ServerNode) : Type 0 where
    waits : AllWait (IsUnder past2 sc.world s node.state.stable.epoch.0) node.state.locks
    kept : KeepsGrants (IsUnder past2 sc.world s node.state.stable.epoch.0) node.state.sessions

  set_server : (v : World) (s : ServerId) (old new : ServerNode) → node_of t.world s ≡ Some old →
      v.servers ≡ with_numbered s.0 new t.world.servers → OfNode s new →
      (x : ServerId) (node : ServerNode) → node_of v x ≡ Some node → OfNode x node
  set_server v s old new at q k x node there =
      go (set_cases t.world.servers s.0 x.0 old new node at
      (ap (λ xs. numbered xs x.0) (sym q) ∙ there))
    where
      go : ((x.0 ≡ s.0) × (node ≡ new)) ⊎ ((x.0 ≢ s.0) × (node_of t.world x ≡ Some node)) →
          OfNode x node
      go (inl z) =
          subst (λ y. OfNode y node) (ap (λ n. record { 0 = n }) (sym z.0))
          (subst (OfNode s) (sym z.1) k)
      go (inr z) = record { waits = old_waits x node z.1; kept = old_kept x node z.1 }

  -- A client's step.
  brought : (c : ClientId) (old : WorldClient) (j : ClientInput) → TakesAt t.world e c old j →
      (now : Stamp) → receiving.Comes (messages t.world) c now Ever ever_on j
  brought c old _ (ByTick q) now = tt
  brought c old _ (ByAsk ask q) now = tt
  brought c old _ (ByMessage n m q z y) now =
      Words.Tables.has_map_in message_in t.world.net.messages m
      (numbered_has t.world.net.messages n m z)
  brought c old _ (ByReport n ok x result q j y z failed) now = tt

  client_step : (v : World) → v.clients ≡ t.world.clients → v.servers ≡ t.world.servers →
      (c : ClientId) (i : ClientInput)
      (site old : WorldClient) → site.node ≡ old.node → site_of t.world c ≡ Some old →
      TakesAt t.world e c old i → (last : World) →
      Leaves (messages t.world) (ev.with_site c (SiteAfter v c i site) v) last
      (ClientTook v c i site).out → R last
  client_step v cs ss c i site old same at k last l =
      record {
        sent = λ m j s from. sent m s from
            (leaves_from (messages t.world) (ev.with_site c (SiteAfter v c i site) v) last
            (ClientTook v c i site).out l m j);
        waits = λ s node q. old_waits s node
            (ap (λ xs. numbered xs s.0) (sym (l.servers ∙ ss)) ∙ q);
        kept = λ s node q. old_kept s node
            (ap (λ xs. numbered xs s.0) (sym (l.servers ∙ ss)) ∙ q);
      }
    where
      now : Stamp
      now = clock_of v (nodes.Client c)

      few : c.0 ≤ 16
      few = let n = (numbered_below t.world.clients c.0 old at).1 in let y = d.few in
          omega (arith, n, y)

      held : Held (messages t.world) c now Ever ever_on (ClientTook v c i site)
      held =
          step_held (messages t.world) c now Ever ever_on site.node.state i
          (brought c old i k now)
          (subst (λ (n : cl.ClientNode). ClientDated (messages t.world) c n.state) (sym same)
          (d.clients c old at)) (λ a j. tt)

      sent : (m : Message) (s : ServerId) → m.header.from ≡ server_node s →
          Has m (messages t.world) ⊎ Has (outputs.Send m) (ClientTook v c i site).out →
          GrantedBody (IsUnder past2 sc.world s m.header.epoch (client m.header.to)
          m.header.life) m.body
      sent m s from (inl j) = old_sent m j s from
      sent m s from (inr j) = absurd
          (server_not_client c.0 s.0 few (sym (held.outs m j).from ∙ from))

  -- A server's step.
  comes_to : (j : ServerInput) → Brings t.world j → (m : Message) → j ≡ serving.Control m →
      Has m (messages t.world)
  comes_to serving.Tick b m q = cc q
  comes_to (serving.Control x) b m q = subst (λ y. Has y (messages t.world)) (same x m q) b
    where
      same : (x m : Message) → serving.Control x ≡ serving.Control m → x ≡ m
      same x m q = cc

  server_step : (s : ServerId) (i : ServerInput) (node : ServerNode) →
      node_of t.world s ≡ Some node → node.running ≡ true → Brings t.world i →
      Leaves (messages t.world) (ev.with_node s (NodeAfter t.world s i node) (ev.counted t.world))
      (ServerLeft t.world s i node).world
      (ServerTook t.world s i node).out → R (ServerLeft t.world s i node).world
  server_step s i node at runs brings l =
      record {
        sent = λ m j r from. sent m r from
            (leaves_from (messages t.world)
            (ev.with_node s (NodeAfter t.world s i node) (ev.counted t.world)) last u.out l m j);
        waits = λ r p q. (set_server last s node (NodeAfter t.world s i node) at l.servers its r p
            q).waits;
        kept = λ r p q. (set_server last s node (NodeAfter t.world s i node) at l.servers its r p
            q).kept;
      }
    where
      now : Stamp
      now = clock_of (ev.counted t.world) (nodes.Server s)

      last : World
      last = (ServerLeft t.world s i node).world

      u : ServerTurn
      u = ServerTook t.world s i node

      id : node.state.id ≡ s
      id = (d.servers s node at).id

      old_epoch : ℕ
      old_epoch = node.state.stable.epoch.0

      W : ClientId → ℕ → ℕ → Type 0
      W = IsUnder past t.world s old_epoch

      asked : (m : Message) (v : ServerTurn) → Served node.state now i v m → (ino : ℕ)
          (mode : Mode) → m.body ≡ bodies.Acquire ino mode →
          names.is_file v.state.stable.names ino ≡ true → W (sender m.header) m.header.life ino
      asked m v z ino mode body file =
          served_under past t sound pasts s node at id runs now i (comes_to i brings) m v z ino file

      k : Gives s old_epoch W node.state now i asked u
      k =
          served s old_epoch W node.state now i asked
          (record {
            id = id;
            epoch = refl;
            waits = h.waits s node at;
            kept = h.kept s node at;
            sent = λ m j. absurd j;
          })

      epoch : old_epoch ≡ (NodeAfter t.world s i node).state.stable.epoch.0
      epoch = ap (λ (y : Epoch). y.0) (sym (same_epoch s node i t.world id))

      its : OfNode s (NodeAfter t.world s i node)
      its =
          record {
            waits = subst (λ n. AllWait (IsUnder past2 sc.world s n) u.state.locks) epoch
                (waits_more W (IsUnder past2 sc.world s old_epoch) (on s old_epoch) u.state.locks
                k.waits);
            kept = subst (λ n. KeepsGrants (IsUnder past2 sc.world s n) u.state.sessions) epoch
                (keeps_more W (IsUnder past2 sc.world s old_epoch) (on s old_epoch)
                u.state.sessions k.kept);
          }

      sent : (m : Message) (r : ServerId) → m.header.from ≡ server_node r →
          Has m (messages t.world) ⊎ Has (outputs.Send m) u.out →
          GrantedBody (IsUnder past2 sc.world r m.header.epoch (client m.header.to)
          m.header.life) m.body
      sent m r from (inl j) = old_sent m j r from
      sent m r from (inr j) =
          let f = k.sent m j in
          let o = f.from in
          subst
          (λ x. GrantedBody (IsUnder past2 sc.world x m.header.epoch (client m.header.to)
          m.header.life) m.body)
          (ap (λ n. record { 0 = n }) (omega (arith, o, from)))
          (subst
          (λ n. GrantedBody (IsUnder past2 sc.world s n (client m.header.to) m.header.life) m.body)
          (sym f.epoch)
          (granted_more (W (client m.header.to) m.header.life)
          (IsUnder past2 sc.world s old_epoch (client m.header.to) m.header.life)
          (on s old_epoch (client m.header.to) m.header.life) m.body f.grants))

  -- Crashes and starts.
  stopped : (c : ClientId) (site : WorldClient) → site_of t.world c ≡ Some site →
      R (ev.crashes_client (ev.counted t.world) c (Some site)).world
  unfolding ev.crashes_client ev.marks
  stopped c site at = record { sent = old_sent; waits = old_waits; kept = old_kept }

  begun : (c : ClientId) (site : WorldClient) → site_of t.world c ≡ Some site →
      R (ev.starts_client (ev.counted t.world) c (Some site))
  unfolding ev.starts_client
  begun c site at = record { sent = old_sent; waits = old_waits; kept = old_kept }

  emptied : (s : ServerId) (new : ServerNode) → new.state.locks.waiters ≡ [] →
      new.state.sessions.rows ≡ [] → OfNode s new
  emptied s new w r =
      record {
        waits = λ x i. absurd (subst (Has x) w i);
        kept = λ c y q. absurd (none y (sym (ap (Words.find (sessions.is_session_of c)) r) ∙ q));
      }
    where
      none : (y : Session) → ◌≡◌ {A = Option Session} None (Some y) → ⊥
      none y q = cc

  put_server : (v : World) (s : ServerId) (old new : ServerNode) → node_of t.world s ≡ Some old →
      v.servers ≡ with_numbered s.0 new t.world.servers → messages v ≡ messages t.world →
      OfNode s new → R v
  put_server v s old new at ss ms k =
      record {
        sent = λ m i. old_sent m (subst (Has m) ms i);
        waits = λ r p q. (set_server v s old new at ss k r p q).waits;
        kept = λ r p q. (set_server v s old new at ss k r p q).kept;
      }

  crashed : (s : ServerId) (node : ServerNode) → node_of t.world s ≡ Some node →
      R (ev.crashes_server (ev.counted t.world) s (Some node))
  unfolding ev.crashes_server server.crash
  crashed s node at =
      put_server (ev.crashes_server (ev.counted t.world) s (Some node)) s node
      (server.crash_node node) at refl refl (emptied s (server.crash_node node) refl refl)

  started : (s : ServerId) (node : ServerNode) → node_of t.world s ≡ Some node →
      R (ev.starts_server (ev.counted t.world) s (Some node))
  unfolding ev.starts_server server.start server.begin_epoch
  started s node at =
      put_server (ev.starts_server (ev.counted t.world) s (Some node)) s node
      (server.start_node node (clock_of (ev.counted t.world) (nodes.Server s))) at refl refl
      (emptied s (server.start_node node (clock_of (ev.counted t.world) (nodes.Server s))) refl
      refl)

  pub under_after : AreUnder past2 sc.world sc.world
  under_after =
      event_takes t.world e R alike
      (λ v a b c i site old same at k last l. client_step v a b c i site old same at k last l)
      (λ s i node at run b l. server_step s i node at run b l) stopped begun crashed started sc
      happened

-- At the start.
pub under_begins : (k : Config) (clients servers disks blocks form : ℕ) →
    AreUnder [] (fresh_world k clients servers disks blocks form)
    (fresh_world k clients servers disks blocks form)
unfolding fresh_world server.fresh_server
under_begins k clients servers disks blocks form =
    record {
      sent = λ m i s from. absurd i;
      waits = λ s node at x i.
          absurd (subst (λ (y : ServerNode). Has x y.state.locks.waiters)
          (fresh_is (node_at_start k servers disks blocks) servers s.0 node at) i);
      kept = λ s node at c y q.
          absurd (none y (subst (λ (p : ServerNode).
          sessions.session_of p.state.sessions c ≡ Some y)
          (fresh_is (node_at_start k servers disks blocks) servers s.0 node at) q));
    }
  where
    none : (y : Session) → ◌≡◌ {A = Option Session} None (Some y) → ⊥
    none y q = cc
