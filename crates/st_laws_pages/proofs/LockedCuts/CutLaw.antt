-- Cuts are locked: each step keeps what holds of the lock tables, and after a cut its server has an exclusive row of the file.
use Rattle.st_lemmas.proofs.Words
use Words.{◌≡◌, ◌≢◌, ℕ, ◌+◌, ◌⊎◌, Bool, true, false, List, [], ◌∷◌, ◌++◌, ◌==◌, Option, Some, None, Ok, Err, refl, sym, ap, ◌∙◌, subst, inl, inr, if◌then◌else◌}
use Words.{Result, list_all, list_any, ClientId, ServerId, Stamp, NodeId, Message, Event, Note, Output, ServerInput, ClientInput, Fate, LogEntry, StepRefusal}
use Words.{IssuedCommand, SentMessage}
use Words.nodes
use Words.modes
use Words.events
use Words.notes
use Words.outputs
use Words.serving
use Words.fates
use Words.Disks as disks
use Words.Client as cl
use Words.ClientState.{ClientState}
use Words.Locks as locks
use Words.Locks.{Locks}
use Words.Server as server
use Words.Server.{ServerNode, turn, thefts}
use Words.World as world
use Words.World.{World, WorldClient, numbered, with_numbered, site_of, node_of, issued_of, clock_of}
use Words.Events as ev
use Words.Events.{WorldTurn}
use Words.History.{is_exclusive_row}
use Words.Safety.{cuts_under}
use Words.Lists.{Has}
use Words.Lookups.{some_is}
use Words.Numbers.{numbered_own, numbered_other, numbered_below}
use Words.Tables.{same_or_not, and_both, and_true, found_at, some_passes}
use Words.Tests.{all_last}
use Rattle.st_rules.specs.declared.node.StepRefusal.TheVariants.{Crashed}
use Rattle.st_lemmas.proofs.Steps.{step_happens}
use Rattle.st_laws_pages.specs.LockedCuts.CutLocks.{is_cut_locked, TableHolds, IsHeld, CutHeld, CutsHeld, WaitsHold, AtReassertion, AtReceiver, AtMessage}
use Rattle.st_laws_pages.specs.LockedCuts.CutLocks.{WaitsOwed, StepsLockCuts}
use Rattle.st_laws_pages.proofs.LockedCuts.RowWalk.{Behind, InputAlone, step_rows}
use Rattle.st_laws_pages.proofs.Lives.Lasting.{flush_parts}

-- Nothing that a client does is a cut.
record Unlocked (ns : List ServerNode) (sc : WorldTurn) : Type 0 where
  pub servers : sc.world.servers ≡ ns
  pub seen : list_all (is_cut_locked ns) sc.seen ≡ true

client_one : (ns : List ServerNode) (c : ClientId) (before : ClientState) (o : Output) (sc : WorldTurn) → Unlocked ns sc → Unlocked ns (ev.client_says sc c before o)
unfolding ev.client_says ev.sends ev.submits ev.answers_with ev.client_notes ev.accepts ev.patches ev.loses
client_one ns c before (outputs.Send m) sc h = record { servers = h.servers; seen = all_last (is_cut_locked ns) sc.seen _ h.seen refl }
client_one ns c before (outputs.Answer op a) sc h = record { servers = h.servers; seen = all_last (is_cut_locked ns) sc.seen _ h.seen refl }
client_one ns c before (outputs.Submit number at what) sc h = go (site_of sc.world c)
  where
    go : (o : Option WorldClient) → Unlocked ns (ev.submits sc c o number at what)
    go None = h
    go (Some site) = record { servers = h.servers; seen = all_last (is_cut_locked ns) sc.seen _ h.seen refl }
client_one ns c before (outputs.Note n) sc h = note n
  where
    note : (n : Note) → Unlocked ns (ev.client_notes sc c before n)
    note (notes.Leased s end) = record { servers = h.servers; seen = all_last (is_cut_locked ns) sc.seen _ h.seen refl }
    note (notes.Lost s life) = record { servers = h.servers; seen = all_last (is_cut_locked ns) sc.seen _ h.seen refl }
    note (notes.Accepted f p bytes) = record { servers = h.servers; seen = all_last (is_cut_locked ns) sc.seen _ h.seen refl }
    note (notes.Patched f p at bytes) = record { servers = h.servers; seen = all_last (is_cut_locked ns) sc.seen _ h.seen refl }
    note n = h

client_all : (ns : List ServerNode) (c : ClientId) (before : ClientState) (os : List Output) (sc : WorldTurn) → Unlocked ns sc → Unlocked ns (ev.client_says_all c before os sc)
unfolding ev.client_says_all
client_all ns c before [] sc h = h
client_all ns c before (o ∷ os) sc h = client_all ns c before os (ev.client_says sc c before o) (client_one ns c before o sc h)

-- marks of the log
marks_seen : (ns : List ServerNode) (n : ℕ) (es fs : List LogEntry) → list_all (is_cut_locked ns) (ev.fates_from n es fs) ≡ true
unfolding ev.fates_from
marks_seen ns n [] fs = refl
marks_seen ns n (e ∷ es) [] = refl
marks_seen ns n (e ∷ es) (f ∷ fs) = go e.fate f.fate (marks_seen ns (n + 1) es fs)
  where
    go : (x y : Fate) → list_all (is_cut_locked ns) (ev.fates_from (n + 1) es fs) ≡ true → list_all (is_cut_locked ns) (ev.fate_seen n x y ++ ev.fates_from (n + 1) es fs) ≡ true
    go fates.Pending fates.Hard r = r
    go fates.Pending (fates.Gone cause) r = r
    go fates.Pending fates.Pending r = r
    go fates.Hard y r = r
    go (fates.Gone cause) y r = r

-- What a step leaves.
record LockedAfter (sc : WorldTurn) : Type 0 where
  pub locked : list_all (is_cut_locked sc.world.servers) sc.seen ≡ true
  pub holds : WaitsHold sc.world

-- if the servers are as they were
same_servers : (w v : World) → v.servers ≡ w.servers → WaitsHold w → WaitsHold v
same_servers w v e h = λ s n q. h s n (ap (λ ns. numbered ns s.0) (sym e) ∙ q)

unlocked_after : (w : World) (sc : WorldTurn) → Unlocked w.servers sc → WaitsHold w → LockedAfter sc
unlocked_after w sc u h = record { locked = subst (λ ns. list_all (is_cut_locked ns) sc.seen ≡ true) (sym u.servers) u.seen; holds = same_servers w sc.world u.servers h }

quiet_after : (w v : World) → v.servers ≡ w.servers → WaitsHold w → LockedAfter (ev.quiet v)
quiet_after w v e h = record { locked = refl; holds = same_servers w v e h }

-- a client's step
flush_servers : (c : ClientId) (s : ClientState) (ss : List ServerId) (w : World) → (ev.flushes c s ss w).servers ≡ w.servers
flush_servers c s ss w = (flush_parts c s ss w).servers

client_after : (w : World) (c : ClientId) (input : ClientInput) (site : WorldClient) → WaitsHold w → LockedAfter (ev.client_takes w c input site)
unfolding ev.client_takes ev.client_took
client_after w c input site h = go (cl.node_step site.node (clock_of w (nodes.Client c)) input)
  where
    go : (r : Result cl.NodeTurn StepRefusal) → LockedAfter (ev.client_took w c site r)
    go (Err r) = quiet_after w w refl h
    go (Ok t) =
        let u = client_all w.servers c site.node.state t.out (ev.quiet (ev.with_site c (ev.at_node t.node site) w)) (record { servers = refl; seen = refl }) in
        let sc = ev.client_says_all c site.node.state t.out (ev.quiet (ev.with_site c (ev.at_node t.node site) w)) in
        unlocked_after w (ev.with_flushes c t.node.state sc) (record { servers = flush_servers c t.node.state (world.all_servers sc.world) sc.world ∙ u.servers; seen = u.seen }) h

at_client_after : (w : World) (c : ClientId) (input : ClientInput) (o : Option WorldClient) → WaitsHold w → LockedAfter (ev.at_client w c input o)
unfolding ev.at_client
at_client_after w c input None h = quiet_after w w refl h
at_client_after w c input (Some site) h = client_after w c input site h

-- A server's step.

-- an exclusive row is listed
held_listed : (ino : ℕ) (l : Locks) → IsHeld ino l → list_any (is_exclusive_row ino) l.rows ≡ true
held_listed ino l h = go (found_at (locks.is_row_of h.client ino) l.rows h.row h.is)
  where
    go : (locks.is_row_of h.client ino h.row ≡ true) × Has h.row l.rows → list_any (is_exclusive_row ino) l.rows ≡ true
    go (e, i) = some_passes (is_exclusive_row ino) l.rows h.row i (and_both (h.row.ino == ino) _ (and_true (Rattle.st_rules.specs.Keys.same_client h.row.client h.client) (h.row.ino == ino) e).1 (ap (λ m. Rattle.st_base.specs.Mode.covers m modes.X) h.exclusive))

record ServerSaw (ns : List ServerNode) (sc : WorldTurn) : Type 0 where
  pub servers : sc.world.servers ≡ ns
  pub seen : list_all (is_cut_locked ns) sc.seen ≡ true

server_one : (ns : List ServerNode) (s : ServerId) (n : ServerNode) → numbered ns s.0 ≡ Some n → n.running ≡ true → (o : Output) (sc : WorldTurn) → CutHeld s n.state.locks o → ServerSaw ns sc → ServerSaw ns (ev.server_says sc s o)
unfolding ev.server_says ev.server_notes ev.cuts ev.sends
server_one ns s n there r (outputs.Send m) sc c h = record { servers = h.servers; seen = all_last (is_cut_locked ns) sc.seen _ h.seen refl }
server_one ns s n there r (outputs.Note x) sc c h = note x c
  where
    note : (x : Note) → CutHeld s n.state.locks (outputs.Note x) → ServerSaw ns (ev.server_notes sc s x)
    note (notes.Suspected d start) c = record { servers = h.servers; seen = all_last (is_cut_locked ns) sc.seen _ h.seen refl }
    note (notes.Stolen d life) c = record { servers = h.servers; seen = all_last (is_cut_locked ns) sc.seen _ h.seen refl }
    note (notes.CutDone f p) c =
        record {
          servers = h.servers;
          seen =
              all_last (is_cut_locked ns) sc.seen _ h.seen
              (ap (λ (z : ServerId). cuts_under f.ino (numbered ns z.0)) c.0 ∙ ap (cuts_under f.ino) there ∙ and_both n.running (list_any (is_exclusive_row f.ino) n.state.locks.rows) r (held_listed f.ino n.state.locks c.1));
        }
    note x c = h
server_one ns s n there r o sc c h = h

server_all : (ns : List ServerNode) (s : ServerId) (n : ServerNode) → numbered ns s.0 ≡ Some n → n.running ≡ true → (os : List Output) (sc : WorldTurn) → CutsHeld s n.state.locks os → ServerSaw ns sc → ServerSaw ns (ev.server_says_all s os sc)
unfolding ev.server_says_all
server_all ns s n there r [] sc c h = h
server_all ns s n there r (o ∷ os) sc c h = server_all ns s n there r os (ev.server_says sc s o) c.rest (server_one ns s n there r o sc c.one h)

-- with this server, all tables hold
with_node_holds : (w : World) (s : ServerId) (old new : ServerNode) → node_of w s ≡ Some old → TableHolds s new → WaitsHold w → WaitsHold (ev.with_node s new w)
with_node_holds w s old new there a h = λ d n e. go d n e (same_or_not d.0 s.0)
  where
    go : (d : ServerId) (n : ServerNode) → numbered (with_numbered s.0 new w.servers) d.0 ≡ Some n → (d.0 ≡ s.0) ⊎ (d.0 ≢ s.0) → TableHolds d n
    go d n e (inl q) =
        subst (λ x. TableHolds x n) (ap (λ m. record { 0 = m }) (sym q))
        (subst (TableHolds s) (some_is (sym (numbered_own w.servers s.0 new old there) ∙ ap (numbered (with_numbered s.0 new w.servers)) (sym q) ∙ e)) a)
    go d n e (inr q) = h d n (sym (numbered_other w.servers s.0 d.0 new (numbered_below w.servers s.0 old there).0 q) ∙ e)

at_server_after : (w : World) (s : ServerId) (input : ServerInput) (o : Option ServerNode) → node_of w s ≡ o → ((n : ServerNode) → o ≡ Some n → InputAlone (thefts (turn n.state []) (clock_of w (nodes.Server s))) (clock_of w (nodes.Server s)) input) → WaitsHold w →
    LockedAfter (ev.at_server w s input o)
unfolding ev.at_server ev.server_takes ev.server_took server.node_step
at_server_after w s input None e n h = quiet_after w w refl h
at_server_after w s input (Some node) e n h = go node.running refl
  where
    t : server.ServerTurn
    t = server.server_step node.state (clock_of w (nodes.Server s)) input

    new : ServerNode
    new = (server.node_turn node t).node

    b : Behind s t
    b = step_rows s node.state (clock_of w (nodes.Server s)) input (h s node e).id (h s node e).waits (n node refl)

    go : (x : Bool) → node.running ≡ x → LockedAfter (ev.server_took w s (if x then Ok (server.node_turn node t) else Err Crashed))
    go false r = quiet_after w w refl h
    go true r =
        let ns = with_numbered s.0 new w.servers in
        let a = server_all ns s new (numbered_own w.servers s.0 new node e) r t.out (ev.quiet (ev.with_node s new w)) b.cuts (record { servers = refl; seen = refl }) in
        record {
          locked = subst (λ z. list_all (is_cut_locked z) (ev.server_says_all s t.out (ev.quiet (ev.with_node s new w))).seen ≡ true) (sym a.servers) a.seen;
          holds = same_servers (ev.with_node s new w) (ev.server_says_all s t.out (ev.quiet (ev.with_node s new w))).world a.servers (with_node_holds w s node new e (record { id = b.id; waits = b.waits }) h);
        }

-- A server that crashed, and one that starts: without waits.
crashed : (s : ServerId) (n : ServerNode) → TableHolds s n → TableHolds s (server.crash_node n)
unfolding server.crash
crashed s n h = record { id = h.id; waits = λ w i. absurd i }

started : (s : ServerId) (n : ServerNode) (now : Stamp) → TableHolds s n → TableHolds s (server.start_node n now)
unfolding server.start server.begin_epoch
started s n now h = record { id = h.id; waits = λ w i. absurd i }

-- Every event.
happens_cuts : (w : World) (e : Event) → WaitsOwed w e → WaitsHold w → LockedAfter (ev.happens w e)
unfolding ev.happens ev.ticks ev.asks_at ev.delivers ev.delivers_to ev.loses_message ev.advances ev.marks ev.effects ev.reports_of ev.tells ev.tells_client ev.tells_site ev.crashes ev.crashes_client ev.crashes_server ev.starts ev.starts_client ev.starts_server
happens_cuts w (events.Tick (nodes.Client c)) o h = at_client_after w c _ (site_of w c) h
happens_cuts w (events.Tick (nodes.Server s)) o h = at_server_after w s serving.Tick (node_of w s) refl (λ n e. tt) h
happens_cuts w (events.App c ask) o h = go (site_of w c)
  where
    go : (x : Option WorldClient) → LockedAfter (ev.asks_at w c ask x)
    go None = quiet_after w w refl h
    go (Some site) = client_after w c _ (ev.asked_once_more site) h
happens_cuts w (events.Deliver k) o h = go (world.message_of w k) o
  where
    at : (m : Message) (s : ServerId) (x : Option ServerNode) → AtReassertion w m s x → (n : ServerNode) → x ≡ Some n → InputAlone (thefts (turn n.state []) (clock_of w (nodes.Server s))) (clock_of w (nodes.Server s)) (serving.Control m)
    at m s None o n e = cc
    at m s (Some y) o n e = subst (λ (z : ServerNode). InputAlone (thefts (turn z.state []) (clock_of w (nodes.Server s))) (clock_of w (nodes.Server s)) (serving.Control m)) (some_is e) o

    to : (m : Message) (n : NodeId) → AtReceiver w m n → LockedAfter (ev.delivers_to w m n)
    to m (nodes.Client c) o = at_client_after w c _ (site_of w c) h
    to m (nodes.Server s) o = at_server_after w s (serving.Control m) (node_of w s) refl (at m s (node_of w s) o) h

    go : (m : Option SentMessage) → AtMessage w m → LockedAfter (ev.delivers w m)
    go None o = quiet_after w w refl h
    go (Some m) o = to m.message (world.receiver_of m) o
happens_cuts w (events.Lose k) o h = go (world.message_of w k)
  where
    go : (m : Option SentMessage) → LockedAfter (ev.quiet (ev.loses_message w k m))
    go None = quiet_after w w refl h
    go (Some m) = quiet_after w (ev.loses_message w k (Some m)) refl h
happens_cuts w (events.Cut from to) o h = quiet_after w (ev.with_cut from to w) refl h
happens_cuts w (events.Heal from to) o h = quiet_after w (ev.without_cut from to w) refl h
happens_cuts w (events.Advance steps) o h = record { locked = marks_seen w.servers 1 w.log _; holds = same_servers w (ev.advances w steps).world refl h }
happens_cuts w (events.Effect k) o h = record { locked = marks_seen w.servers 1 w.log _; holds = same_servers w (ev.effects w k).world refl h }
happens_cuts w (events.Report k ok) o h = go (issued_of w k)
  where
    v : World
    v = ev.with_disks (ev.disks_after w.disks (disks.done w.disks k ok)) w

    g : WaitsHold v
    g = same_servers w v refl h

    same : (x : IssuedCommand) (site : WorldClient) (b : Bool) → LockedAfter (if b then ev.client_takes v x.client (ev.end_told v k ok x) site else ev.quiet v)
    same x site true = client_after v x.client (ev.end_told v k ok x) site g
    same x site false = quiet_after w v refl h

    told : (x : IssuedCommand) (s : Option WorldClient) → LockedAfter (ev.tells_client v k ok x s)
    told x None = quiet_after w v refl h
    told x (Some site) = same x site (ev.is_same_instance x site)

    go : (x : Option IssuedCommand) → LockedAfter (ev.tells v k ok x)
    go None = quiet_after w v refl h
    go (Some x) = told x (site_of v x.client)
happens_cuts w (events.Crash (nodes.Client c)) o h = go (site_of w c)
  where
    go : (x : Option WorldClient) → LockedAfter (ev.crashes_client w c x)
    go None = quiet_after w w refl h
    go (Some site) = record { locked = marks_seen w.servers 1 w.log (ev.log_crashed w c); holds = same_servers w (ev.crashes_client w c (Some site)).world refl h }
happens_cuts w (events.Crash (nodes.Server s)) o h = go (node_of w s) refl
  where
    go : (x : Option ServerNode) → node_of w s ≡ x → LockedAfter (ev.quiet (ev.crashes_server w s x))
    go None e = quiet_after w w refl h
    go (Some node) e = record { locked = refl; holds = with_node_holds w s node (server.crash_node node) e (crashed s node (h s node e)) h }
happens_cuts w (events.Start (nodes.Client c)) o h = go (site_of w c)
  where
    go : (x : Option WorldClient) → LockedAfter (ev.quiet (ev.starts_client w c x))
    go None = quiet_after w w refl h
    go (Some site) = quiet_after w (ev.starts_client w c (Some site)) refl h
happens_cuts w (events.Start (nodes.Server s)) o h = go (node_of w s) refl
  where
    go : (x : Option ServerNode) → node_of w s ≡ x → LockedAfter (ev.quiet (ev.starts_server w s x))
    go None e = quiet_after w w refl h
    go (Some node) e = record { locked = refl; holds = with_node_holds w s node (server.start_node node (clock_of w (nodes.Server s))) e (started s node (clock_of w (nodes.Server s)) (h s node e)) h }

-- The law.
pub steps_lock_cuts : StepsLockCuts
steps_lock_cuts w e sc q o h =
    let z = step_happens w e sc q in
    let a = happens_cuts (ev.counted w) e o (same_servers w (ev.counted w) refl h) in
    subst (λ (s : WorldTurn). record { locked : list_all (is_cut_locked s.world.servers) s.seen ≡ true; holds : WaitsHold s.world }) (sym z.1) (record { locked = a.locked; holds = a.holds })
