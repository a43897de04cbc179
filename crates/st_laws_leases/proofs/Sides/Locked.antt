-- Changes are locked at every event, from what holds of every server and client and of the lock tables.
use Rattle.st_lemmas.proofs.Words
use Words.{◌≡◌, ℕ, ◌+◌, Bool, true, false, List, [], ◌∷◌, ◌++◌, Option, Some, None, Ok, Err, refl, sym, ap, ◌∙◌, subst, if◌then◌else◌, Result, length, pred}
use Words.{list_all, ClientId, NodeId, ServerId, Event, Message, Note, Output, ClientInput, ServerInput, Fate, LogEntry, StepRefusal, Observation}
use Words.{IssuedCommand, SentMessage}
use Words.nodes
use Words.events
use Words.notes
use Words.outputs
use Words.fates
use Words.seen
use Words.Client as cl
use Words.Disks as disks
use Words.Events as ev
use Words.Events.{WorldTurn, happens}
use Words.Safety.{is_change_locked}
use Words.Server as sv
use Words.Server.{ServerNode}
use Words.World as world
use Words.World.{World, WorldClient, clock_of, issued_of, node_of, site_of}
use Words.Tables.{and_both, and_true}
use Words.Numbers.{set_length}
use Rattle.st_rules.specs.declared.node.StepRefusal.TheVariants.{Crashed}
use Rattle.st_protocol.specs.Assoc.{Config}
use Rattle.st_laws_refine.specs.Client.World.{stepped, world_left}
use Rattle.st_laws_refine.proofs.Client.Sim.{world_is}
use Rattle.st_laws_steps.specs.Lives.Lives.{LivesHold}
use Rattle.st_laws_pages.specs.LockedCuts.CutLocks.{is_cut_locked}
use Rattle.st_laws_leases.specs.Sides.World.{AllStand}
use Rattle.st_laws_leases.proofs.Sides.Changes.{is_write_locked, took}
use Rattle.st_laws_leases.proofs.Sides.Known.{Known, crash_known, start_known, step_known}

-- the servers of a world's clients are the world's
abbrev pub ServersKnown : World → Type 0
ServersKnown w = Known (length w.servers) w.clients

-- no line is of a write or a patch
abbrev Unwritten : List Observation → Type 0
Unwritten os = (w : World) → list_all (is_write_locked w) os ≡ true

unwritten_more : (os : List Observation) (o : Observation) → Unwritten os → ((w : World) → is_write_locked w o ≡ true) → Unwritten (os ++ o ∷ [])
unwritten_more os o h e w = go os (h w)
  where
    go : (os : List Observation) → list_all (is_write_locked w) os ≡ true → list_all (is_write_locked w) (os ++ o ∷ []) ≡ true
    go [] h = and_both (is_write_locked w o) true (e w) refl
    go (x ∷ os) h = let z = and_true (is_write_locked w x) (list_all (is_write_locked w) os) h in and_both (is_write_locked w x) _ z.0 (go os z.1)

-- marks of the log
marks_seen : (n : ℕ) (es fs : List LogEntry) → Unwritten (ev.fates_from n es fs)
unfolding ev.fates_from
marks_seen n [] fs w = refl
marks_seen n (e ∷ es) [] w = refl
marks_seen n (e ∷ es) (f ∷ fs) w = go e.fate f.fate (marks_seen (n + 1) es fs w)
  where
    go : (x y : Fate) → list_all (is_write_locked w) (ev.fates_from (n + 1) es fs) ≡ true → list_all (is_write_locked w) (ev.fate_seen n x y ++ ev.fates_from (n + 1) es fs) ≡ true
    go fates.Pending fates.Hard r = r
    go fates.Pending (fates.Gone cause) r = r
    go fates.Pending fates.Pending r = r
    go fates.Hard y r = r
    go (fates.Gone cause) y r = r

-- what a server says
record SaidBy (w : World) (sc : WorldTurn) : Type 0 where
  clients : sc.world.clients ≡ w.clients
  servers : sc.world.servers ≡ w.servers
  unwritten : Unwritten sc.seen

server_one : (w : World) (s : ServerId) (o : Output) (sc : WorldTurn) → SaidBy w sc → SaidBy w (ev.server_says sc s o)
unfolding ev.server_says ev.server_notes ev.cuts ev.sends
server_one w s (outputs.Send m) sc h = record { clients = h.clients; servers = h.servers; unwritten = unwritten_more sc.seen _ h.unwritten (λ v. refl) }
server_one w s (outputs.Note n) sc h = note n
  where
    note : (n : Note) → SaidBy w (ev.server_notes sc s n)
    note (notes.Suspected c start) = record { clients = h.clients; servers = h.servers; unwritten = unwritten_more sc.seen _ h.unwritten (λ v. refl) }
    note (notes.Stolen c life) = record { clients = h.clients; servers = h.servers; unwritten = unwritten_more sc.seen _ h.unwritten (λ v. refl) }
    note (notes.CutDone f p) = record { clients = h.clients; servers = h.servers; unwritten = unwritten_more sc.seen _ h.unwritten (λ v. refl) }
    note n = h
server_one w s o sc h = h

server_all : (w : World) (s : ServerId) (os : List Output) (sc : WorldTurn) → SaidBy w sc → SaidBy w (ev.server_says_all s os sc)
unfolding ev.server_says_all
server_all w s [] sc h = h
server_all w s (o ∷ os) sc h = server_all w s os (ev.server_says sc s o) (server_one w s o sc h)

module _ (k : Config) (count : ℕ) where
  -- What an event leaves: its changes are locked, if everything holds after it.
  pub record Written (sc : WorldTurn) : Type 0 where
    pub locked : AllStand k count sc.world → list_all (is_write_locked sc.world) sc.seen ≡ true
    pub known : ServersKnown sc.world

  -- nothing is written, and there are as many servers
  quietly : (w : World) (sc : WorldTurn) → Unwritten sc.seen → sc.world.clients ≡ w.clients → length sc.world.servers ≡ length w.servers → ServersKnown w → Written sc
  quietly w sc u c s h = record { locked = λ a. u sc.world; known = subst (λ n. Known n sc.world.clients) (sym s) (subst (Known (length w.servers)) (sym c) h) }

  still : (w v : World) → v.clients ≡ w.clients → length v.servers ≡ length w.servers → ServersKnown w → Written (ev.quiet v)
  still w v c s h = quietly w (ev.quiet v) (λ x. refl) c s h

  takes : (w : World) (c : ClientId) (input : ClientInput) (old site : WorldClient) → site_of w c ≡ Some old → old.node ≡ site.node → LivesHold w → ServersKnown w → Written (ev.client_takes w c input site)
  unfolding cl.node_step ev.client_takes ev.client_took
  takes w c input old site there same l h = go site.node.running refl
    where
      left : ServersKnown (world_left w c site input)
      left = subst (λ ss. Known (length ss) (world_left w c site input).clients) (sym (world_is w c site input).servers) (step_known (length w.servers) w c old site input there same l h)

      go : (b : Bool) → site.node.running ≡ b → Written (ev.client_took w c site (if b then Ok (cl.node_turn site.node (stepped w c site input)) else Err Crashed))
      go true r = record { locked = took k count w c old site input there same r l h; known = left }
      go false r = still w w refl refl h

  at_client : (w : World) (c : ClientId) (input : ClientInput) (o : Option WorldClient) → site_of w c ≡ o → LivesHold w → ServersKnown w → Written (ev.at_client w c input o)
  unfolding ev.at_client
  at_client w c input None e l h = still w w refl refl h
  at_client w c input (Some site) e l h = takes w c input site site e refl l h

  at_server : (w : World) (s : ServerId) (input : ServerInput) (o : Option ServerNode) → ServersKnown w → Written (ev.at_server w s input o)
  unfolding ev.at_server ev.server_takes ev.server_took
  at_server w s input None h = still w w refl refl h
  at_server w s input (Some node) h = go (sv.node_step node (clock_of w (nodes.Server s)) input)
    where
      go : (r : Result sv.NodeTurn StepRefusal) → Written (ev.server_took w s r)
      go (Err e) = still w w refl refl h
      go (Ok t) =
          let v = ev.with_node s t.node w in
          let z = server_all v s t.out (ev.quiet v) (record { clients = refl; servers = refl; unwritten = λ x. refl }) in
          quietly w (ev.server_says_all s t.out (ev.quiet v)) z.unwritten z.clients (ap length z.servers ∙ set_length w.servers (pred s.0) t.node) h

  pub happens_written : (w : World) (e : Event) → LivesHold w → ServersKnown w → Written (happens w e)
  unfolding ev.happens ev.ticks ev.asks_at ev.delivers ev.delivers_to ev.loses_message ev.advances ev.marks ev.effects ev.reports_of ev.tells ev.tells_client ev.tells_site ev.crashes ev.crashes_client ev.crashes_server ev.starts ev.starts_client ev.starts_server
  happens_written w (events.Tick (nodes.Client c)) l h = at_client w c _ (site_of w c) refl l h
  happens_written w (events.Tick (nodes.Server s)) l h = at_server w s _ (node_of w s) h
  happens_written w (events.App c ask) l h = go (site_of w c) refl
    where
      go : (o : Option WorldClient) → site_of w c ≡ o → Written (ev.asks_at w c ask o)
      go None e = still w w refl refl h
      go (Some site) e = takes w c _ site (ev.asked_once_more site) e refl l h
  happens_written w (events.Deliver n) l h = go (world.message_of w n)
    where
      to : (m : Message) (x : NodeId) → Written (ev.delivers_to w m x)
      to m (nodes.Client c) = at_client w c _ (site_of w c) refl l h
      to m (nodes.Server s) = at_server w s _ (node_of w s) h

      go : (m : Option SentMessage) → Written (ev.delivers w m)
      go None = still w w refl refl h
      go (Some m) = to m.message (world.receiver_of m)
  happens_written w (events.Lose n) l h = go (world.message_of w n)
    where
      go : (m : Option SentMessage) → Written (ev.quiet (ev.loses_message w n m))
      go None = still w w refl refl h
      go (Some m) = still w (ev.loses_message w n (Some m)) refl refl h
  happens_written w (events.Cut from to) l h = still w (ev.with_cut from to w) refl refl h
  happens_written w (events.Heal from to) l h = still w (ev.without_cut from to w) refl refl h
  happens_written w (events.Advance steps) l h = quietly w (ev.advances w steps) (marks_seen 1 w.log _) refl refl h
  happens_written w (events.Effect n) l h = quietly w (ev.effects w n) (marks_seen 1 w.log _) refl refl h
  happens_written w (events.Report n ok) l h = go (issued_of w n)
    where
      v : World
      v = ev.with_disks (ev.disks_after w.disks (disks.done w.disks n ok)) w

      lives : LivesHold v
      lives = record { lives = l.lives; known = l.known }

      same : (x : IssuedCommand) (site : WorldClient) → site_of v x.client ≡ Some site → (b : Bool) → Written (if b then ev.client_takes v x.client (ev.end_told v n ok x) site else ev.quiet v)
      same x site e true = takes v x.client (ev.end_told v n ok x) site site e refl lives h
      same x site e false = still w v refl refl h

      told : (x : IssuedCommand) (o : Option WorldClient) → site_of v x.client ≡ o → Written (ev.tells_client v n ok x o)
      told x None e = still w v refl refl h
      told x (Some site) e = same x site e (ev.is_same_instance x site)

      go : (o : Option IssuedCommand) → Written (ev.tells v n ok o)
      go None = still w v refl refl h
      go (Some x) = told x (site_of v x.client) refl
  happens_written w (events.Crash (nodes.Client c)) l h = go (site_of w c) refl
    where
      go : (o : Option WorldClient) → site_of w c ≡ o → Written (ev.crashes_client w c o)
      go None e = still w w refl refl h
      go (Some site) e = record { locked = λ a. marks_seen 1 w.log (ev.log_crashed w c) (ev.crashes_client w c (Some site)).world; known = crash_known (length w.servers) w c site (ev.stopped_site site) e refl h }
  happens_written w (events.Crash (nodes.Server s)) l h = go (node_of w s)
    where
      go : (o : Option ServerNode) → Written (ev.quiet (ev.crashes_server w s o))
      go None = still w w refl refl h
      go (Some node) = still w (ev.crashes_server w s (Some node)) refl (set_length w.servers (pred s.0) _) h
  happens_written w (events.Start (nodes.Client c)) l h = go (site_of w c) refl
    where
      go : (o : Option WorldClient) → site_of w c ≡ o → Written (ev.quiet (ev.starts_client w c o))
      go None e = still w w refl refl h
      go (Some site) e = record { locked = λ a. refl; known = start_known (length w.servers) w c site (ev.started_site site) e refl h }
  happens_written w (events.Start (nodes.Server s)) l h = go (node_of w s)
    where
      go : (o : Option ServerNode) → Written (ev.quiet (ev.starts_server w s o))
      go None = still w w refl refl h
      go (Some node) = still w (ev.starts_server w s (Some node)) refl (set_length w.servers (pred s.0) _) h

-- a line whose change is locked
locked_one : (w : World) (o : Observation) → is_cut_locked w.servers o ≡ true → is_write_locked w o ≡ true → is_change_locked w o ≡ true
locked_one w (seen.Wrote index c f p bytes) a b = b
locked_one w (seen.Patched index c f p at bytes) a b = b
locked_one w (seen.CutAt index f p) a b = a
locked_one w o a b = refl

-- cuts, and writes and patches
pub both_locked : (w : World) (os : List Observation) → list_all (is_cut_locked w.servers) os ≡ true → list_all (is_write_locked w) os ≡ true → list_all (is_change_locked w) os ≡ true
both_locked w [] a b = refl
both_locked w (o ∷ os) a b =
    let x = and_true (is_cut_locked w.servers o) _ a in
    let y = and_true (is_write_locked w o) _ b in
    and_both (is_change_locked w o) _ (locked_one w o x.0 y.0) (both_locked w os x.1 y.1)
