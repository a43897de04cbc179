-- Names change as asked: after every event, and over whole runs.
use Rattle.st_lemmas.proofs.Words
use Words.{◌≡◌, ◌≢◌, ◌⊎◌, ℕ, ◌+◌, Bool, true, false, not, ◌||◌, List, [], ◌∷◌, ◌++◌, Option, Some, None, Ok, refl, sym, ap, ◌∙◌, subst, inl, inr, list_any}
use Words.{eq-eqb, ClientId, ServerId, Stamp, Ask, Event, Message, ServerInput}
use Words.nodes
use Words.asks
use Words.bodies
use Words.serving
use Words.ClientState.{asks_cut_or_name}
use Words.Events as ev
use Words.Events.{WorldTurn, world_step}
use Words.History.{Traced, traced, traced_after}
use Words.Keys.{client}
use Words.Safety.{Step, is_event, step}
use Words.Server as server
use Words.Server.{ServerNode}
use Words.World.{World, WorldClient, all_clients, all_servers, clock_of, fresh_world, node_of, numbered, site_of, with_numbered}
use Words.Lists.{Has}
use Words.Tables.{all_pass, and_both, some_passes}
use Rattle.st_protocol.specs.Assoc.{Config}
use Rattle.st_laws_refine.specs.Server.Pair.{terms_of}
use Rattle.st_laws_leases.specs.Sides.Law.{InEveryRun}
use Rattle.st_laws_leases.specs.Dates.Dates.{messages}
use Rattle.st_laws_leases.proofs.Dates.Leaving.{set_cases}
use Rattle.st_laws_leases.proofs.Sides.Runs.{throughout_events}
use Rattle.st_laws_requests.specs.Replies.ServedRequests.{NewOwed}
use Rattle.st_laws_requests.proofs.Replies.EachEvent.{Brings, NodeAfter, ServerLeft, ServerTook, event_leaves}
use Rattle.st_laws_requests.proofs.Cuts.Names.{names_same, says_it}
use Rattle.st_laws_requests.specs.Cuts.Cuts.{does}
use Rattle.st_laws_extents.specs.CutRequests.Law.{gifts}
use Rattle.st_laws_extents.proofs.CutRequests.Law.{Hold, owed}
use Rattle.st_promises.specs.CutAsks.{numbered_asks}
use Rattle.st_promises.specs.NameAnswers.{becomes_at, changes_at, leaves, said, same_names, says}
use Rattle.st_promises.specs.NameChanges.{NamesChangeAsAsked, becomes_by, changes_by, is_change_asked, is_open_change}
use Rattle.st_laws_cuts.specs.EndedRequests.{MeansTo}
use Rattle.st_laws_cuts.specs.ServedRequests.{IsServedAt, NamesBy}
use Rattle.st_laws_cuts.proofs.Law.{AllHold, begins}
use Rattle.st_laws_cuts.proofs.Law as cuts
use Rattle.st_laws_cuts.proofs.Naming.{step_names}
use Rattle.st_laws_cuts.proofs.Open as opened
use Rattle.st_laws_cuts.proofs.Open.{OpenAsk}
use Rattle.st_laws_cuts.proofs.World.{OwnersHold}

-- a server that runs serves a message of its world, by which its names become another one's
record ByRequest (t : World) (old new : ServerNode) : Type 0 where
  pub running : old.running ≡ true
  pub message : Message
  pub among : Has message (messages t)
  pub by : NamesBy old.state message new.state.stable.names

-- What became of the names of a server in an event.
record CameFrom (t : World) (s : ServerId) (new : ServerNode) : Type 0 where
  pub old : ServerNode
  pub was : node_of t s ≡ Some old
  pub how : (new.state.stable.names ≡ old.state.stable.names) ⊎ ByRequest t old new

abbrev AllCame : World → World → Type 0
AllCame t v = (s : ServerId) (new : ServerNode) → node_of v s ≡ Some new → CameFrom t s new

-- servers that stay, and one that changes
stay : (t v : World) → v.servers ≡ t.servers → AllCame t v
stay t v q s new at = record { old = new; was = ap (λ z. numbered z s.0) (sym q) ∙ at; how = inl refl }

one_other : (t v : World) (s : ServerId) (old new : ServerNode) → node_of t s ≡ Some old → v.servers ≡ with_numbered s.0 new t.servers → ((new.state.stable.names ≡ old.state.stable.names) ⊎ ByRequest t old new) → AllCame t v
one_other t v s old new at q how y n there = go (set_cases t.servers s.0 y.0 old new n at (ap (λ z. numbered z y.0) (sym q) ∙ there))
  where
    own : CameFrom t s new
    own = record { old = old; was = at; how = how }

    go : ((y.0 ≡ s.0) × (n ≡ new)) ⊎ ((y.0 ≢ s.0) × (node_of t y ≡ Some n)) → CameFrom t y n
    go (inl z) = subst (CameFrom t y) (sym z.1) (subst (λ k. CameFrom t (record { 0 = k }) new) (sym z.0) own)
    go (inr z) = record { old = n; was = z.1; how = inl refl }

pub crashed_names : (node : ServerNode) → (server.crash_node node).state.stable.names ≡ node.state.stable.names
unfolding server.crash
crashed_names node = refl

pub started_names : (node : ServerNode) (now : Stamp) → (server.start_node node now).state.stable.names ≡ node.state.stable.names
unfolding server.start server.begin_epoch
started_names node now = refl

came : (t : World) (e : Event) (sc : WorldTurn) → NewOwed (ev.counted t) e → world_step t e ≡ Ok sc → AllCame t sc.world
unfolding ev.crashes_client ev.marks ev.starts_client ev.crashes_server ev.starts_server
came t e sc owes taken =
    event_leaves t (AllCame t)
    (λ v cs ss ms. stay t v ss)
    (λ v cs ss c i site old same run at k last l. stay t last (l.servers ∙ ss))
    (λ s i node at run brings new_ l. one_other t (ServerLeft t s i node).world s node (NodeAfter t s i node) at l.servers (served s i node run brings))
    stopped begun crashed started e sc owes taken
  where
    served : (s : ServerId) (i : ServerInput) (node : ServerNode) → node.running ≡ true → Brings t i → ((NodeAfter t s i node).state.stable.names ≡ node.state.stable.names) ⊎ ByRequest t node (NodeAfter t s i node)
    served s i node run brings = go (step_names node.state (clock_of (ev.counted t) (nodes.Server s)) i)
      where
        go : ((ServerTook t s i node).state.stable.names ≡ node.state.stable.names) ⊎ ((m : Message) × (i ≡ serving.Control m) × NamesBy node.state m (ServerTook t s i node).state.stable.names) →
            ((NodeAfter t s i node).state.stable.names ≡ node.state.stable.names) ⊎ ByRequest t node (NodeAfter t s i node)
        go (inl p) = inl p
        go (inr (m, q, z)) = inr (record { running = run; message = m; among = subst (Brings t) q brings; by = z })

    stopped : (c : ClientId) (site : WorldClient) → site_of t c ≡ Some site → AllCame t (ev.crashes_client (ev.counted t) c (Some site)).world
    stopped c site at = stay t (ev.crashes_client (ev.counted t) c (Some site)).world refl

    begun : (c : ClientId) (site : WorldClient) → site_of t c ≡ Some site → AllCame t (ev.starts_client (ev.counted t) c (Some site))
    begun c site at = stay t (ev.starts_client (ev.counted t) c (Some site)) refl

    crashed : (s : ServerId) (node : ServerNode) → node_of t s ≡ Some node → AllCame t (ev.crashes_server (ev.counted t) s (Some node))
    crashed s node at = one_other t (ev.crashes_server (ev.counted t) s (Some node)) s node (server.crash_node node) at refl (inl (crashed_names node))

    started : (s : ServerId) (node : ServerNode) → node_of t s ≡ Some node → AllCame t (ev.starts_server (ev.counted t) s (Some node))
    started s node at = one_other t (ev.starts_server (ev.counted t) s (Some node)) s node (server.start_node node (clock_of (ev.counted t) (nodes.Server s))) at refl (inl (started_names node (clock_of (ev.counted t) (nodes.Server s))))

module _ (k : Config) (count : ℕ) (past : List Step) (t : Traced) (e : Event) (sc : WorldTurn) (h : Hold k count past t) (d : OwnersHold past (gifts k count t.world h.all) t.world) where
  -- the ask that led to a request by which names changed
  module _ (s : ServerId) (old new : ServerNode) (was : node_of t.world s ≡ Some old) (became : node_of sc.world s ≡ Some new) (r : ByRequest t.world old new) where
    served : IsServedAt t.world s
    served = record { node = old; there = was; running = r.running; message = r.message; among = r.among; server = sym (h.cuts.servers s old was).id; by = r.by.served }

    own : asks_cut_or_name served.message.body ≡ true
    unfolding served
    own = subst (λ b. asks_cut_or_name b ≡ true) (sym r.by.body) refl

    becomes : (a : Ask) → MeansTo (gifts k count t.world h.all (client r.message.header.from) s) s a (bodies.Name r.by.op) → becomes_by s (step t e sc) a ≡ true
    becomes (asks.Name sv n) m = and_both _ _ (eq-eqb _ _ (ap (λ (y : ServerId). y.0) m.0)) by
      where
        one : list_any (leaves new.state.stable.names) (says old.state.stable.names n) ≡ true
        one = some_passes (leaves new.state.stable.names) (says old.state.stable.names n) (said new.state.stable.names r.by.answer)
            (subst (λ z. Has z (says old.state.stable.names n)) (ap (does old.state.stable.names) (sym m.1.is) ∙ r.by.did) (says_it old.state.stable.names n m.1.g m.1.none)) (names_same new.state.stable.names)

        by : becomes_at n (node_of t.world s) (node_of sc.world s) ≡ true
        by = subst (λ o. becomes_at n o (node_of sc.world s) ≡ true) (sym was) (subst (λ o. becomes_at n (Some old) o ≡ true) (sym became) one)
    becomes a m = absurd m

    asked : list_any (changes_by past (step t e sc) s) (all_clients t.world) ≡ true
    unfolding served
    asked = by (opened.is_open k count past t h d s served own)
      where
        by : OpenAsk past (gifts k count t.world h.all (client r.message.header.from) s) (client r.message.header.from) s r.message.body → list_any (changes_by past (step t e sc) s) (all_clients t.world) ≡ true
        by o = some_passes (changes_by past (step t e sc) s) (all_clients t.world) (client r.message.header.from) (opened.among k count past t h d s served own)
            (some_passes (is_open_change past (step t e sc) s (client r.message.header.from)) (numbered_asks past (client r.message.header.from)) (o.op, o.ask) (opened.under k count past t h d s served own o.op o.ask o.asked)
            (and_both _ _ (becomes o.ask (subst (MeansTo (gifts k count t.world h.all (client r.message.header.from) s) s o.ask) r.by.body o.means)) (ap not o.unsettled)))

  or_right : (a b : Bool) → b ≡ true → (a || b) ≡ true
  or_right true b e = refl
  or_right false b e = e

  pub changes_asked : NewOwed (ev.counted t.world) e → world_step t.world e ≡ Ok sc → NamesChangeAsAsked past (step t e sc)
  changes_asked owes taken = all_pass (is_change_asked past (step t e sc)) (all_servers sc.world) (λ s h. one s (node_of sc.world s) refl)
    where
      Wanted : ServerId → Option ServerNode → Option ServerNode → Type 0
      Wanted s a b = (not (changes_at a b) || list_any (changes_by past (step t e sc) s) (all_clients t.world)) ≡ true

      none : (s : ServerId) (o : Option ServerNode) → Wanted s o None
      none s None = refl
      none s (Some n) = refl

      one : (s : ServerId) (o : Option ServerNode) → node_of sc.world s ≡ o → is_change_asked past (step t e sc) s ≡ true
      one s None q = subst (λ o. Wanted s (node_of t.world s) o) (sym q) (none s (node_of t.world s))
      one s (Some new) q = by (came t.world e sc owes taken s new q)
        where
          by : CameFrom t.world s new → is_change_asked past (step t e sc) s ≡ true
          by z = subst (λ o. Wanted s (node_of t.world s) o) (sym q) (subst (λ o. Wanted s o (Some new)) (sym z.was) (how z.how))
            where
              how : (new.state.stable.names ≡ z.old.state.stable.names) ⊎ ByRequest t.world z.old new → Wanted s (Some z.old) (Some new)
              how (inl p) = subst (λ n. (not (not (same_names z.old.state.stable.names n)) || list_any (changes_by past (step t e sc) s) (all_clients t.world)) ≡ true) (sym p)
                  (ap (λ b. not (not b) || list_any (changes_by past (step t e sc) s) (all_clients t.world)) (names_same z.old.state.stable.names))
              how (inr r) = or_right _ _ (asked s z.old new z.was q r)

one : (k : Config) (count : ℕ) (past : List Step) (t : Traced) (e : Event) (sc : WorldTurn) → is_event count e ≡ true → AllHold k count past t → world_step t.world e ≡ Ok sc → NamesChangeAsAsked past (step t e sc) × AllHold k count (past ++ step t e sc ∷ []) (traced_after e t sc)
one k count past t e sc r h taken = (changes_asked k count past t e sc h.base h.owners (owed k count past t e sc r h.base taken) taken, (cuts.one k count past t e sc r h taken).1)

pub names_change_as_asked : InEveryRun NamesChangeAsAsked
names_change_as_asked k clients servers disks blocks form es head events =
    throughout_events (clients + servers) NamesChangeAsAsked (AllHold (terms_of k) (clients + servers)) (one (terms_of k) (clients + servers)) es events [] (traced (fresh_world k clients servers disks blocks form)) (begins k clients servers disks blocks form head)
