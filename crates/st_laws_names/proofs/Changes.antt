-- Asks change names once: after every event, and over whole runs.
use Rattle.st_lemmas.proofs.Words
use Words.{◌≡◌, ◌≢◌, ◌⊎◌, ℕ, ◌+◌, ◌≤◌, arith, true, not, List, [], ◌∷◌, ◌++◌, Option, Some, None, Ok, refl, sym, ap, ◌∙◌, subst, inl, inr, list_any, ClientId}
use Words.{ServerId, Ask, Event, Message, ServerInput}
use Words.nodes
use Words.asks
use Words.bodies
use Words.serving
use Words.ClientState.{asks_cut_or_name}
use Words.Events as ev
use Words.Events.{WorldTurn, world_step}
use Words.History.{Traced, traced, traced_after}
use Words.Keys.{client}
use Words.Safety.{Step, is_event, step, IsHead}
use Words.Server as server
use Words.Server.{ServerNode}
use Words.World.{World, WorldClient, clock_of, fresh_world, node_of, numbered, site_of, with_numbered}
use Words.Lists.{Has}
use Words.Tables.{some_passes, has_append, same_or_not}
use Words.ClientState as cs
use Words.Sessions as sessions
use Words.Lookups.{some_is}
use Words.Truth.{clash}
use Rattle.st_protocol.specs.Assoc.{Config}
use Rattle.st_laws_refine.specs.Server.Pair.{terms_of}
use Rattle.st_laws_leases.specs.Sides.Law.{InEveryRun}
use Rattle.st_laws_leases.specs.Dates.Dates.{messages}
use Rattle.st_laws_leases.proofs.Dates.Leaving.{set_cases}
use Rattle.st_laws_leases.proofs.Sides.Runs.{throughout_events}
use Rattle.st_laws_requests.specs.Replies.ServedRequests.{NewOwed, IsBehind}
use Rattle.st_laws_requests.proofs.Replies.EachEvent.{Brings, NodeAfter, ServerLeft, ServerTook, event_leaves}
use Rattle.st_laws_requests.proofs.Cuts.Names.{names_same, says_it}
use Rattle.st_laws_requests.specs.Cuts.Cuts.{does, AsksFor, asks_of}
use Rattle.st_laws_extents.proofs.CutRequests.Law.{owed}
use Rattle.st_promises.specs.NameAnswers.{becomes_at, changes_at, leaves, said, same_names, says, changes_in}
use Rattle.st_laws_cuts.specs.ServedRequests.{NamesBy}
use Rattle.st_laws_cuts.proofs.Naming.{step_names}
use Rattle.st_base.specs.declared.config.Config as base
use Rattle.st_laws_extents.specs.CutRequests.EndedLives.{Goes, IsPast}
use Rattle.st_laws_extents.proofs.CutRequests.ServersGoOn.{event_goes}
use Rattle.st_laws_cuts.specs.EndedRequests.{AllPast}
use Rattle.st_laws_names.specs.OutstandingKeys.{SameKey, WaitsUnder}
use Rattle.st_laws_names.specs.Changes.{AskChanges, AsksChangeOnce, ChangedBy, IsBefore}
use Rattle.st_laws_names.proofs.World.{Asked, NamesHold, Worlds, names_begin, now_key}
use Rattle.st_laws_names.proofs.World as once
use Rattle.st_laws_names.proofs.Serving.{step_serves}
use Rattle.st_laws_extents.specs.CutRequests.Law.{gifts}
use Rattle.st_laws_names.proofs.Waiting.{Row}
use Rattle.st_laws_cuts.proofs.OverAfter.{past_on}
use Rattle.st_laws_names.proofs.Rows.{Known, RowsHold, rows_on}
use Rattle.st_laws_names.proofs.Behind.{Behind, behind, not_past}
use Rattle.st_laws_cuts.proofs.Changes.{crashed_names, started_names}
use Rattle.st_laws_names.proofs.Keys.{key_back}
use Rattle.st_laws_names.proofs.Owners.{waits_as}

-- a server that runs serves a message of its world, by which its names become another one's
record ByRequest (t : World) (old new : ServerNode) : Type 0 where
  pub running : old.running ≡ true
  pub message : Message
  pub among : Has message (messages t)
  pub by : NamesBy old.state message new.state.stable.names
  pub behind : IsBehind (sessions.session_of new.state.sessions (client message.header.from)) message.header.life message.header.number

-- What became of the names of a server in an event.
record CameFrom (t : World) (s : ServerId) (new : ServerNode) : Type 0 where
  pub old : ServerNode
  pub was : node_of t s ≡ Some old
  pub how : (new.state.stable.names ≡ old.state.stable.names) ⊎ ByRequest t old new

abbrev AllCame : World → World → Type 0
AllCame t v = (s : ServerId) (new : ServerNode) → node_of v s ≡ Some new → CameFrom t s new

-- servers that stay, and one that changes
stay : (t v : World) → v.servers ≡ t.servers → AllCame t v
stay t v q s new at = record { old = new; was = ap (λ z. numbered z s.0) (sym q) ∙ at; how = inl refl }

one_other : (t v : World) (s : ServerId) (old new : ServerNode) → node_of t s ≡ Some old → v.servers ≡ with_numbered s.0 new t.servers → ((new.state.stable.names ≡ old.state.stable.names) ⊎ ByRequest t old new) → AllCame t v
one_other t v s old new at q how y n there = go (set_cases t.servers s.0 y.0 old new n at (ap (λ z. numbered z y.0) (sym q) ∙ there))
  where
    own : CameFrom t s new
    own = record { old = old; was = at; how = how }

    go : ((y.0 ≡ s.0) × (n ≡ new)) ⊎ ((y.0 ≢ s.0) × (node_of t y ≡ Some n)) → CameFrom t y n
    go (inl z) = subst (CameFrom t y) (sym z.1) (subst (λ k. CameFrom t (record { 0 = k }) new) (sym z.0) own)
    go (inr z) = record { old = n; was = z.1; how = inl refl }

came : (t : World) (e : Event) (sc : WorldTurn) → NewOwed (ev.counted t) e → world_step t e ≡ Ok sc → AllCame t sc.world
unfolding ev.crashes_client ev.marks ev.starts_client ev.crashes_server ev.starts_server
came t e sc owes taken =
    event_leaves t (AllCame t)
    (λ v cs ss ms. stay t v ss)
    (λ v cs ss c i site old same run at k last l. stay t last (l.servers ∙ ss))
    (λ s i node at run brings new_ l. one_other t (ServerLeft t s i node).world s node (NodeAfter t s i node) at l.servers (served s i node run brings))
    stopped begun crashed started e sc owes taken
  where
    served : (s : ServerId) (i : ServerInput) (node : ServerNode) → node.running ≡ true → Brings t i → ((NodeAfter t s i node).state.stable.names ≡ node.state.stable.names) ⊎ ByRequest t node (NodeAfter t s i node)
    served s i node run brings = go (step_names node.state (clock_of (ev.counted t) (nodes.Server s)) i)
      where
        go : ((ServerTook t s i node).state.stable.names ≡ node.state.stable.names) ⊎ ((m : Message) × (i ≡ serving.Control m) × NamesBy node.state m (ServerTook t s i node).state.stable.names) →
            ((NodeAfter t s i node).state.stable.names ≡ node.state.stable.names) ⊎ ByRequest t node (NodeAfter t s i node)
        go (inl p) = inl p
        go (inr (m, q, z)) = pick (step_serves node.state (clock_of (ev.counted t) (nodes.Server s)) m z.op z.body)
          where
            pick : ((server.server_step node.state (clock_of (ev.counted t) (nodes.Server s)) (serving.Control m)).state.stable.names ≡ node.state.stable.names) ⊎
                IsBehind (sessions.session_of (server.server_step node.state (clock_of (ev.counted t) (nodes.Server s)) (serving.Control m)).state.sessions (client m.header.from)) m.header.life m.header.number →
                ((NodeAfter t s i node).state.stable.names ≡ node.state.stable.names) ⊎ ByRequest t node (NodeAfter t s i node)
            pick (inl p) = inl (subst (λ j. (server.server_step node.state (clock_of (ev.counted t) (nodes.Server s)) j).state.stable.names ≡ node.state.stable.names) (sym q) p)
            pick (inr b) = inr (record { running = run; message = m; among = subst (Brings t) q brings; by = z; behind = subst (λ j. IsBehind (sessions.session_of (server.server_step node.state (clock_of (ev.counted t) (nodes.Server s)) j).state.sessions (client m.header.from)) m.header.life m.header.number) (sym q) b })

    stopped : (c : ClientId) (site : WorldClient) → site_of t c ≡ Some site → AllCame t (ev.crashes_client (ev.counted t) c (Some site)).world
    stopped c site at = stay t (ev.crashes_client (ev.counted t) c (Some site)).world refl

    begun : (c : ClientId) (site : WorldClient) → site_of t c ≡ Some site → AllCame t (ev.starts_client (ev.counted t) c (Some site))
    begun c site at = stay t (ev.starts_client (ev.counted t) c (Some site)) refl

    crashed : (s : ServerId) (node : ServerNode) → node_of t s ≡ Some node → AllCame t (ev.crashes_server (ev.counted t) s (Some node))
    crashed s node at = one_other t (ev.crashes_server (ev.counted t) s (Some node)) s node (server.crash_node node) at refl (inl (crashed_names node))

    started : (s : ServerId) (node : ServerNode) → node_of t s ≡ Some node → AllCame t (ev.starts_server (ev.counted t) s (Some node))
    started s node at = one_other t (ev.starts_server (ev.counted t) s (Some node)) s node (server.start_node node (clock_of (ev.counted t) (nodes.Server s))) at refl (inl (started_names node (clock_of (ev.counted t) (nodes.Server s))))

-- What holds after every event.
pub record PairsHold (past : List Step) (w : World) : Type 0 where
  pub pairs : (c : ClientId) (op : ℕ) (a b : Asked past w c op) → SameKey a.server b.server a.life_ a.epoch_ a.number_ b.life_ b.epoch_ b.number_
  pub pasts : (y : Step) → Has y past → (c : ClientId) (s : ServerId) (m : Message) → AllPast y.after.world c s m → AllPast w c s m

-- past under one key is past under the same
pub past_same : (c : ClientId) (n : ServerNode) (m p : Message) → m.header.life ≡ p.header.life → m.header.epoch ≡ p.header.epoch → m.header.number ≡ p.header.number → IsPast c n m → IsPast c n p
past_same c n m p a b d (inl l) = inl (omega (arith, l, b))
past_same c n m p a b d (inr q) = inr (sym b ∙ q.0, λ run. subst (λ k. IsBehind (sessions.session_of n.state.sessions c) k p.header.number) a (subst (λ k. IsBehind (sessions.session_of n.state.sessions c) m.header.life k) d (q.1 run)))

module _ (k : Config) (count : ℕ) (past : List Step) (t : Traced) (e : Event) (sc : WorldTurn) (ranges : is_event count e ≡ true) (h : NamesHold k count past t) (n : NamesHold k count (past ++ step t e sc ∷ []) (traced_after e t sc)) (taken : world_step t.world e ≡ Ok sc)
    (d : RowsHold past (gifts k count t.world h.all.base.all) t.world) (p : PairsHold past t.world) where
  abbrev past2 : List Step
  past2 = past ++ step t e sc ∷ []

  goes : Goes t.world sc.world
  goes = event_goes past t h.all.base.replies e sc (owed k count past t e sc ranges h.all.base taken) taken

  -- what holds after the event
  which : (v : World) → Worlds past2 sc.world v → Worlds past t.world v ⊎ (v ≡ sc.world)
  which v (inr q) = inr q
  which v (inl z) = go (has_append past _ z.0 z.1)
    where
      go : Has z.0 past ⊎ Has z.0 (step t e sc ∷ []) → Worlds past t.world v ⊎ (v ≡ sc.world)
      go (inl i) = inl (inl (z.0, i, z.2))
      go (inr (inl q)) = inr (z.2 ∙ ap (λ (y : Step). y.after.world) q)
      go (inr (inr i)) = absurd i

  pairs_on : (c : ClientId) (op : ℕ) (a b : Asked past2 sc.world c op) → SameKey a.server b.server a.life_ a.epoch_ a.number_ b.life_ b.epoch_ b.number_
  pairs_on c op a b = go (which a.at a.among) (which b.at b.among)
    where
      go : Worlds past t.world a.at ⊎ (a.at ≡ sc.world) → Worlds past t.world b.at ⊎ (b.at ≡ sc.world) → SameKey a.server b.server a.life_ a.epoch_ a.number_ b.life_ b.epoch_ b.number_
      go x (inr q) = now_key past2 sc.world n.once c op b.server b.life_ b.epoch_ b.number_ (subst (λ v. WaitsUnder v c b.server b.life_ b.epoch_ b.number_ op) q b.waits) a
      go (inr q) (inl y) = key_back b.server a.server b.life_ b.epoch_ b.number_ a.life_ a.epoch_ a.number_ (now_key past2 sc.world n.once c op a.server a.life_ a.epoch_ a.number_ (subst (λ v. WaitsUnder v c a.server a.life_ a.epoch_ a.number_ op) q a.waits) b)
      go (inl x) (inl y) = p.pairs c op (record { at = a.at; among = x; server = a.server; life_ = a.life_; epoch_ = a.epoch_; number_ = a.number_; waits = a.waits }) (record { at = b.at; among = y; server = b.server; life_ = b.life_; epoch_ = b.epoch_; number_ = b.number_; waits = b.waits })

  pasts_on : (y : Step) → Has y past2 → (c : ClientId) (s : ServerId) (m : Message) → AllPast y.after.world c s m → AllPast sc.world c s m
  pasts_on y i c s m z = go (has_append past _ y i)
    where
      go : Has y past ⊎ Has y (step t e sc ∷ []) → AllPast sc.world c s m
      go (inl j) = past_on k count past t e sc ranges h.all.base taken c s m (p.pasts y j c s m z)
      go (inr (inl q)) = subst (λ (w : Step). AllPast w.after.world c s m) q z
      go (inr (inr j)) = absurd j

  -- No ask at two events.
  asked_in : (y : Step) → Has y past → (s : ServerId) (c : ClientId) (op : ℕ) → (z : ChangedBy past y s c op) → (k : Asked past t.world c op) × SameKey k.server s k.life_ k.epoch_ k.number_ z.message.header.life z.message.header.epoch z.message.header.number
  asked_in y i s c op z = go z.is_before
    where
      there : Worlds past t.world z.before → (k : Asked past t.world c op) × SameKey k.server s k.life_ k.epoch_ k.number_ z.message.header.life z.message.header.epoch z.message.header.number
      there w = (record { at = z.before; among = w; server = s; life_ = z.message.header.life; epoch_ = z.message.header.epoch; number_ = z.message.header.number; waits = z.waits }, record { server = refl; life_ = refl; epoch_ = refl; number_ = refl })

      known : (z.before ≡ y.before.world) → Known past y.before.world → Worlds past t.world z.before
      known q (inl w) = inl (w.0, w.1, q ∙ w.2)
      known q (inr f) = absurd (f c s z.message.header.life z.message.header.epoch z.message.header.number op (subst (λ v. WaitsUnder v c s z.message.header.life z.message.header.epoch z.message.header.number op) q z.waits))

      go : IsBefore past y z.before → (k : Asked past t.world c op) × SameKey k.server s k.life_ k.epoch_ k.number_ z.message.header.life z.message.header.epoch z.message.header.number
      go (inl w) = there (inl w)
      go (inr q) = there (known q (d.chain y i))

  once_only : (y : Step) → Has y past → (s u : ServerId) (c : ClientId) (op : ℕ) → ChangedBy past y s c op → ChangedBy past (step t e sc) u c op → ⊥
  once_only y i s u c op a b = not_past c b.old b.message b.by.served b.running b.from (past_same c b.old a.message b.message key.life_ key.epoch_ key.number_ (gone b.old (subst (λ z. node_of t.world z ≡ Some b.old) (sym key.server) b.was)))
    where
      k1 : (k : Asked past t.world c op) × SameKey k.server s k.life_ k.epoch_ k.number_ a.message.header.life a.message.header.epoch a.message.header.number
      k1 = asked_in y i s c op a

      k2 : Asked past t.world c op
      k2 = record { at = b.before; among = b.is_before; server = u; life_ = b.message.header.life; epoch_ = b.message.header.epoch; number_ = b.message.header.number; waits = b.waits }

      two : SameKey k1.0.server u k1.0.life_ k1.0.epoch_ k1.0.number_ b.message.header.life b.message.header.epoch b.message.header.number
      two = p.pairs c op k1.0 (record { at = b.before; among = b.is_before; server = u; life_ = b.message.header.life; epoch_ = b.message.header.epoch; number_ = b.message.header.number; waits = b.waits })

      key : SameKey s u a.message.header.life a.message.header.epoch a.message.header.number b.message.header.life b.message.header.epoch b.message.header.number
      key = record { server = sym k1.1.server ∙ two.server; life_ = sym k1.1.life_ ∙ two.life_; epoch_ = sym k1.1.epoch_ ∙ two.epoch_; number_ = sym k1.1.number_ ∙ two.number_ }

      gone : AllPast t.world c s a.message
      gone = p.pasts y i c s a.message a.gone

  -- The ask that made a change.
  module _ (s : ServerId) (old new : ServerNode) (was : node_of t.world s ≡ Some old) (became : node_of sc.world s ≡ Some new) (r : ByRequest t.world old new) where
    abbrev m : Message
    m = r.message

    abbrev c : ClientId
    c = client r.message.header.from

    id : old.state.id ≡ s
    id = (h.all.base.cuts.servers s old was).id

    own : asks_cut_or_name r.message.body ≡ true
    own = subst (λ b. asks_cut_or_name b ≡ true) (sym r.by.body) refl

    gone : AllPast sc.world (client r.message.header.from) s r.message
    gone n at = go (same_or_not r.message.header.epoch new.state.stable.epoch.0)
      where
        is : new ≡ n
        is = some_is (sym became ∙ at)

        up : old.state.stable.epoch.0 ≤ new.state.stable.epoch.0
        up = let z = goes.nodes s new became in let q = some_is (sym z.1 ∙ was) in subst (λ (y : ServerNode). y.state.stable.epoch.0 ≤ new.state.stable.epoch.0) q z.2.up

        go : (r.message.header.epoch ≡ new.state.stable.epoch.0) ⊎ (r.message.header.epoch ≢ new.state.stable.epoch.0) → IsPast (client r.message.header.from) n r.message
        go (inl q) = subst (λ n. IsPast (client r.message.header.from) n r.message) is (inr (q, λ run. r.behind))
        go (inr ne) = subst (λ n. IsPast (client r.message.header.from) n r.message) is (inl (let y = r.by.served.of_epoch in omega (arith, y, up, ne)))

    found : Behind past (gifts k count t.world h.all.base.all (client r.message.header.from) s) t.world s r.message
    found = behind k count past t h.all d s old was r.running r.message r.among r.by.served own

    changed_by : (op : ℕ) → Row past t.world (client r.message.header.from) s r.message op → ChangedBy past (step t e sc) s (client r.message.header.from) op
    changed_by op w =
        record {
          old = old;
          was = was;
          running = r.running;
          new = new;
          became = became;
          message = r.message;
          among = r.among;
          from = refl;
          by = r.by;
          gone = gone;
          before = w.asked.at;
          is_before = w.asked.among;
          waits = waits_as w.asked.at (client r.message.header.from) op w.asked.server s w.asked.life_ w.asked.epoch_ w.asked.number_ r.message.header.life r.message.header.epoch r.message.header.number w.same w.asked.waits;
        }

    ask_changes : AskChanges past (step t e sc) s
    ask_changes = by found.ask found.asked found.of (subst (AsksFor found.ask) r.by.body found.means)
      where
        by : (a : Ask) → numbered (asks_of past (client r.message.header.from)) found.op ≡ Some a → cs.server_of a ≡ s → AsksFor a (bodies.Name r.by.op) → AskChanges past (step t e sc) s
        by (asks.Name sv ask) q of a =
            record {
              c = client r.message.header.from;
              op = found.op;
              ask = ask;
              changed = changed_by found.op found.row;
              asked = subst (λ z. numbered (asks_of past (client r.message.header.from)) found.op ≡ Some (asks.Name z ask)) of q;
              becomes = subst (λ o. becomes_at ask o (node_of sc.world s) ≡ true) (sym was) (subst (λ o. becomes_at ask (Some old) o ≡ true) (sym became) one);
              unsettled = found.unsettled;
            }
          where
            one : list_any (leaves new.state.stable.names) (says old.state.stable.names ask) ≡ true
            one = some_passes (leaves new.state.stable.names) (says old.state.stable.names ask) (said new.state.stable.names r.by.answer)
                (subst (λ z. Has z (says old.state.stable.names ask)) (ap (does old.state.stable.names) (sym a.1) ∙ r.by.did) (says_it old.state.stable.names ask a.0 a.2)) (names_same new.state.stable.names)
        by a q of z = absurd z

  pub asks_once : AsksChangeOnce past (step t e sc)
  asks_once = record { each = λ s f. one s (node_of sc.world s) refl f; once = once_only }
    where
      no_change : (o : Option ServerNode) → {A : Type 0} → changes_at o None ≡ true → A
      no_change None f = cc f
      no_change (Some n) f = cc f

      one : (s : ServerId) (o : Option ServerNode) → node_of sc.world s ≡ o → changes_in s (step t e sc) ≡ true → AskChanges past (step t e sc) s
      one s None q f = no_change (node_of t.world s) (subst (λ o. changes_at (node_of t.world s) o ≡ true) q f)
      one s (Some new) q f = by (came t.world e sc (owed k count past t e sc ranges h.all.base taken) taken s new q)
        where
          by : CameFrom t.world s new → AskChanges past (step t e sc) s
          by z = how z.how (subst (λ o. changes_at o (Some new) ≡ true) z.was (subst (λ o. changes_at (node_of t.world s) o ≡ true) q f))
            where
              differ : new.state.stable.names ≡ z.old.state.stable.names → {A : Type 0} → changes_at (Some z.old) (Some new) ≡ true → A
              differ e g = clash (sym (ap not (names_same z.old.state.stable.names)) ∙ ap (λ n. not (same_names z.old.state.stable.names n)) (sym e) ∙ g) refl

              how : (new.state.stable.names ≡ z.old.state.stable.names) ⊎ ByRequest t.world z.old new → changes_at (Some z.old) (Some new) ≡ true → AskChanges past (step t e sc) s
              how (inl e) g = differ e g
              how (inr r) g = ask_changes s z.old new z.was q r

-- Over whole runs.
pub record ChangesHold (k : Config) (count : ℕ) (past : List Step) (t : Traced) : Type 0 where
  pub names_ : NamesHold k count past t
  pub rows : RowsHold past (gifts k count t.world names_.all.base.all) t.world
  pub pairs : PairsHold past t.world

pub one : (k : Config) (count : ℕ) (past : List Step) (t : Traced) (e : Event) (sc : WorldTurn) → is_event count e ≡ true → ChangesHold k count past t → world_step t.world e ≡ Ok sc → AsksChangeOnce past (step t e sc) × ChangesHold k count (past ++ step t e sc ∷ []) (traced_after e t sc)
one k count past t e sc r h taken = (asks_once k count past t e sc r h.names_ n taken h.rows h.pairs, record { names_ = n; rows = subst (λ a. RowsHold (past ++ step t e sc ∷ []) (gifts k count sc.world a) sc.world) (sym (once.same_ghosts k count past t e sc r h.names_ taken)) (rows_on k count past t e sc r h.names_.all n.all taken h.rows); pairs = record { pairs = pairs_on k count past t e sc r h.names_ n taken h.rows h.pairs; pasts = pasts_on k count past t e sc r h.names_ n taken h.rows h.pairs } })
  where
    n : NamesHold k count (past ++ step t e sc ∷ []) (traced_after e t sc)
    n = (once.one k count past t e sc r h.names_ taken).1

pub changes_begin : (k : base.Config) (clients servers disks blocks form : ℕ) → IsHead k clients servers disks blocks form → ChangesHold (terms_of k) (clients + servers) [] (traced (fresh_world k clients servers disks blocks form))
changes_begin k clients servers disks blocks form head =
    record {
      names_ = names_begin k clients servers disks blocks form head;
      rows = record { over = λ c site at a i m among. none_sent m among; now = inr (λ c s life epoch number op w. nobody c s life epoch number op w); chain = λ y i. absurd i };
      pairs = record { pairs = λ c op a b. absurd (no_pairs c op a); pasts = λ y i. absurd i };
    }
  where
    w : World
    w = fresh_world k clients servers disks blocks form

    nobody : (c : ClientId) (s : ServerId) (life epoch number op : ℕ) → WaitsUnder w c s life epoch number op → ⊥
    nobody c s life epoch number op z = once.none_waits k clients servers disks blocks form c op s life epoch number z

    none_sent : (m : Message) → Has m (messages w) → {A : Type 0} → A
    none_sent m i = absurd (once.none_sent k clients servers disks blocks form m i)

    no_pairs : (c : ClientId) (op : ℕ) → Asked [] w c op → ⊥
    no_pairs c op a = go a.among
      where
        go : Worlds [] w a.at → ⊥
        go (inl z) = absurd z.1
        go (inr q) = nobody c a.server a.life_ a.epoch_ a.number_ op (subst (λ v. WaitsUnder v c a.server a.life_ a.epoch_ a.number_ op) q a.waits)

pub asks_change_once : InEveryRun AsksChangeOnce
asks_change_once k clients servers disks blocks form es head events =
    throughout_events (clients + servers) AsksChangeOnce (ChangesHold (terms_of k) (clients + servers)) (one (terms_of k) (clients + servers)) es events [] (traced (fresh_world k clients servers disks blocks form)) (changes_begin k clients servers disks blocks form head)
