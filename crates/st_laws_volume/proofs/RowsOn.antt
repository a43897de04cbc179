-- The exclusive row of a client stays through every event, or the server no longer serves the
-- client's next request.
use Rattle.st_lemmas.proofs.Words
use Words.{◌≡◌, ◌≢◌, ◌⊎◌, ℕ, ◌-◌, arith, true, false, List, [], Some, Ok, refl, sym, ap, ◌∙◌, subst, inl, inr, ClientId, Epoch, Event, GrantNo, Message, ServerId, ServerInput}
use Words.nodes
use Words.Events as ev
use Words.Events.{WorldTurn, world_step}
use Words.History.{Traced}
use Words.Safety.{Step, is_event}
use Words.Server as server
use Words.Server.{ServerNode}
use Words.Sessions as sessions
use Words.Tables.{same_or_not}
use Words.World.{World, WorldClient, clock_of, node_of, numbered, site_of, with_numbered}
use Rattle.st_protocol.specs.Assoc.{Config}
use Rattle.st_laws_leases.proofs.Dates.Leaving.{set_cases}
use Rattle.st_laws_requests.specs.Replies.ServedRequests.{InputNew, IsBehind}
use Rattle.st_laws_requests.proofs.Replies.EachEvent.{NodeAfter, ServerLeft, event_leaves}
use Rattle.st_laws_extents.specs.CutRequests.EndedLives.{IsPast}
use Rattle.st_laws_extents.proofs.CutRequests.Law.{Hold, owed}
use Rattle.st_laws_cuts.specs.EndedRequests.{AllPast}
use Rattle.st_laws_cuts.proofs.Events.{same_epoch}
use Rattle.st_laws_volume.proofs.EarlierRequests.{earlier}
use Rattle.st_laws_volume.proofs.RowsStay.{RowStands, row_stays}

-- a client has an exclusive row of a file at a server, if that is there, and its grant has a given
-- fact
abbrev pub HasRowUnder : (GrantNo → Type 0) → World → ClientId → ServerId → ℕ → Type 0
HasRowUnder Under w c s ino =
    (node : ServerNode) → node_of w s ≡ Some node → RowStands Under c ino node.state.locks

-- under any grant
abbrev pub AnyGrant : GrantNo → Type 0
AnyGrant g = Unit {0}

abbrev pub HasRow : World → ClientId → ServerId → ℕ → Type 0
HasRow w c s ino = HasRowUnder AnyGrant w c s ino

module _ (k : Config) (count : ℕ) (past : List Step) (t : Traced) (e : Event) (sc : WorldTurn)
    (ranges : is_event count e ≡ true) (h : Hold k count past t)
    (taken : world_step t.world e ≡ Ok sc) (c : ClientId) (s : ServerId) (ino : ℕ) (m : Message)
    (before : AllPast t.world c s (earlier m)) (Under : GrantNo → Type 0)
    (rows : HasRowUnder Under t.world c s ino) where
  abbrev w : World
  w = t.world

  abbrev R : World → Type 0
  R v = AllPast v c s m ⊎ HasRowUnder Under v c s ino

  same : (v : World) → v.servers ≡ w.servers → R v
  same v ss = inr (λ node at. rows node (ap (λ xs. numbered xs s.0) (sym ss) ∙ at))

  -- one server is another one after the event
  module _ (r : ServerId) (old new : ServerNode) (at : node_of w r ≡ Some old) (v : World)
      (ss : v.servers ≡ with_numbered r.0 new w.servers) where
    cases : (p : ServerNode) → node_of v s ≡ Some p →
        ((s.0 ≡ r.0) × (p ≡ new)) ⊎ ((s.0 ≢ r.0) × (node_of w s ≡ Some p))
    cases p q = set_cases w.servers r.0 s.0 old new p at (ap (λ xs. numbered xs s.0) (sym ss) ∙ q)

    others : s.0 ≢ r.0 → R v
    others n = inr (λ p q. go p (cases p q))
      where
        go : (p : ServerNode) → ((s.0 ≡ r.0) × (p ≡ new)) ⊎ ((s.0 ≢ r.0) × (node_of w s ≡ Some p)) →
            RowStands Under c ino p.state.locks
        go p (inl z) = absurd (n z.0)
        go p (inr z) = rows p z.1

    module _ (here : s.0 ≡ r.0) where
      its : node_of w s ≡ Some old
      its = ap (λ n. numbered w.servers n) here ∙ at

      own : (X : ServerNode → Type 0) → X new → (p : ServerNode) → node_of v s ≡ Some p → X p
      own X x p q = go (cases p q)
        where
          go : ((s.0 ≡ r.0) × (p ≡ new)) ⊎ ((s.0 ≢ r.0) × (node_of w s ≡ Some p)) → X p
          go (inl z) = subst X (sym z.1) x
          go (inr z) = absurd (z.0 here)

      is_past : IsPast c new m → R v
      is_past z = inl (λ p q. own (λ (y : ServerNode). IsPast c y m) z p q)

    changed :
        (s.0 ≡ r.0 → node_of w s ≡ Some old → IsPast c new m ⊎ RowStands Under c ino new.state.locks) →
        R v
    changed f = go (same_or_not s.0 r.0)
      where
        by : (here : s.0 ≡ r.0) → IsPast c new m ⊎ RowStands Under c ino new.state.locks → R v
        by here (inl z) = is_past here z
        by here (inr z) =
            inr (λ p q. own here (λ (y : ServerNode). RowStands Under c ino y.state.locks) z p q)

        go : (s.0 ≡ r.0) ⊎ (s.0 ≢ r.0) → R v
        go (inr n) = others n
        go (inl q) = by q (f q (its q))

  -- A step of a server.
  stepped : (r : ServerId) (i : ServerInput) (node : ServerNode) → node_of w r ≡ Some node →
      node.running ≡ true →
      InputNew (server.thefts (server.turn node.state [])
      (clock_of (ev.counted w) (nodes.Server r))) (clock_of (ev.counted w) (nodes.Server r)) i →
      (v : World) → v.servers ≡ with_numbered r.0 (NodeAfter w r i node) w.servers → R v
  stepped r i node at run new v ss =
      changed r node (NodeAfter w r i node) at v ss (λ q its. go its (before node its))
    where
      epoch : (NodeAfter w r i node).state.stable.epoch.0 ≡ node.state.stable.epoch.0
      epoch = ap (λ (y : Epoch). y.0) (same_epoch r node i w (h.cuts.servers r node at).id)

      go : node_of w s ≡ Some node → IsPast c node (earlier m) →
          IsPast c (NodeAfter w r i node) m ⊎ RowStands Under c ino (NodeAfter w r i node).state.locks
      go its (inl l) = inl (inl (omega (arith, l, epoch)))
      go its (inr z) =
          by (row_stays node.state (clock_of (ev.counted w) (nodes.Server r)) i Under c ino m.header.life
          (m.header.number - 1) m.header.number (z.1 run) (omega arith)
          new (rows node its))
        where
          by : IsBehind (sessions.session_of (NodeAfter w r i node).state.sessions c) m.header.life
              m.header.number
              ⊎ RowStands Under c ino (NodeAfter w r i node).state.locks →
              IsPast c (NodeAfter w r i node) m ⊎ RowStands Under c ino (NodeAfter w r i node).state.locks
          by (inl b) = inl (inr (z.0 ∙ sym epoch, λ y. b))
          by (inr b) = inr b

  -- Crashes and starts.
  stopped : (d : ClientId) (site : WorldClient) → site_of w d ≡ Some site →
      R (ev.crashes_client (ev.counted w) d (Some site)).world
  unfolding ev.crashes_client ev.marks
  stopped d site at = same (ev.crashes_client (ev.counted w) d (Some site)).world refl

  begun : (d : ClientId) (site : WorldClient) → site_of w d ≡ Some site →
      R (ev.starts_client (ev.counted w) d (Some site))
  unfolding ev.starts_client
  begun d site at = same (ev.starts_client (ev.counted w) d (Some site)) refl

  crashed : (r : ServerId) (node : ServerNode) → node_of w r ≡ Some node →
      R (ev.crashes_server (ev.counted w) r (Some node))
  unfolding ev.crashes_server server.crash
  crashed r node at = changed r node (server.crash_node node) at
      (ev.crashes_server (ev.counted w) r (Some node)) refl (λ q its. inl (go (before node its)))
    where
      off : {A : Type 0} → false ≡ true → A
      off z = cc

      go : IsPast c node (earlier m) → IsPast c (server.crash_node node) m
      go (inl l) = inl l
      go (inr z) = inr (z.0, λ r. off r)

  started : (r : ServerId) (node : ServerNode) → node_of w r ≡ Some node →
      R (ev.starts_server (ev.counted w) r (Some node))
  unfolding ev.starts_server server.start server.begin_epoch
  started r node at =
      changed r node (server.start_node node (clock_of (ev.counted w) (nodes.Server r))) at
      (ev.starts_server (ev.counted w) r (Some node)) refl
      (λ q its. inl (go (before node its)))
    where
      go : IsPast c node (earlier m) →
          IsPast c (server.start_node node (clock_of (ev.counted w) (nodes.Server r))) m
      go (inl l) = inl (omega (arith, l))
      go (inr z) = inl (let y = z.0 in omega (arith, y))

  pub rows_on : AllPast sc.world c s m ⊎ HasRowUnder Under sc.world c s ino
  rows_on =
      event_leaves w R (λ v cs ss ms. same v ss)
      (λ v cs ss d i site old sm run at comes last l. same last (l.servers ∙ ss))
      (λ r i node at run brings new l. stepped r i node at run new (ServerLeft w r i node).world
      l.servers) stopped begun crashed started e sc
      (owed k count past t e sc ranges h taken) taken
