-- A server's refusals: what the open asks that they may answer have noticed before.
use Rattle.std.specs.Prelude.{◌≡◌, ◌≤◌, ◌<◌, ℕ, Bool, true, false, ◌&&◌, not, ◌==◌, nat_lt, if◌then◌else◌, List, [], ◌∷◌, ◌++◌, Option, Some, None, Ok, ⊤}
use Rattle.st_base.specs.declared.ids.ClientId.{ClientId}
use Rattle.st_base.specs.declared.ids.GrantNo.{GrantNo}
use Rattle.st_base.specs.declared.ids.NodeId.{NodeId}
use Rattle.st_base.specs.declared.ids.NodeId.TheVariants as nodes
use Rattle.st_base.specs.declared.ids.ServerId.{ServerId}
use Rattle.st_base.specs.declared.names.NameAsk.TheVariants as names
use Rattle.st_messages.specs.declared.ask.Ask.{Ask}
use Rattle.st_messages.specs.declared.ask.Ask.TheVariants as asks
use Rattle.st_messages.specs.declared.event.Event.{Event}
use Rattle.st_messages.specs.declared.event.Event.TheVariants as events
use Rattle.st_messages.specs.declared.message.Body.{Body}
use Rattle.st_messages.specs.declared.message.Body.TheVariants as bodies
use Rattle.st_messages.specs.declared.message.Message.{Message}
use Rattle.st_messages.specs.declared.message.NameOp.TheVariants as ops
use Rattle.st_messages.specs.declared.message.Why.TheVariants as why
use Rattle.st_rules.specs.declared.world.SentMessage.{SentMessage}
use Rattle.st_rules.specs.Names.{is_file, lookup}
use Rattle.st_rules.specs.Safety.{Promise, Step}
use Rattle.st_rules.specs.Server.{ServerNode, rule}
use Rattle.st_rules.specs.World.{World, message_of, node_of, receiver_of, site_of}
use Rattle.st_lemmas.specs.Lists.{Has}
use Rattle.st_laws_names.specs.Keys.{ServedAt}
use Rattle.st_laws_volume.specs.Asks.{at_site}
use Rattle.st_laws_volume.specs.Options.{OnSome}
use Rattle.st_laws_volume.specs.Witness.{led_by, led_to, now_at, same_text, turn_of}
use Rattle.st_volume.specs.Pages.{same_file}
use Rattle.st_volume.specs.Volume.{Pending, Volume, file_of}

-- what a server that runs replies by the rule of the request
abbrev pub reply_at : World → ServerId → Option ServerNode → Message → Option Body
reply_at w s None m = None
reply_at w s (Some node) m =
    if node.running then (rule (turn_of node (now_at w s)) (now_at w s) m.header m.body).reply else None

-- an ask to remove under this name of a server another file than the one that is there
abbrev pub removes_other : ServerId → ℕ → List ℕ → ℕ → Ask → Bool
removes_other s dir name there (asks.Name r (names.Remove d n ino)) = (r.0 == s.0) && (same_text dir name d n && not (there == ino))
removes_other s dir name there ask = false

-- Each open ask of a file that the server refuses, since it doesn't exist, has noticed so. If the server refuses a remove, since its client doesn't hold the
-- file under that name, each open ask to remove another file under that name has noticed this file.
pub record IsNoticed (v : Volume) (s : ServerId) (asked : Body) (reply : Option Body) : Type 0 where
  pub missed :
      (ino n : ℕ)
      → reply ≡ Some (bodies.Nack why.NoFile ino n)
      → nat_lt 0 ino ≡ true
      → (a : Pending)
      → Has a v.pending
      → same_file (file_of a.ask) (record { server = s; ino = ino }) ≡ true
      → a.missed ≡ true
  pub other :
      (dir : ℕ) (name : List ℕ) (g : GrantNo) (ino n : ℕ)
      → asked ≡ bodies.Name (ops.Remove dir name g)
      → reply ≡ Some (bodies.Nack why.NotHolder ino n)
      → (a : Pending)
      → Has a v.pending
      → removes_other s dir name ino a.ask ≡ true
      → a.other ≡ true

-- at the delivery of a request
abbrev pub AtReceiver : Volume → World → Message → NodeId → Type 0
AtReceiver v w m (nodes.Server s) = IsNoticed v s m.body (reply_at w s (node_of w s) m)
AtReceiver v w m (nodes.Client c) = ⊤

abbrev pub OfRefused : Volume → World → Option SentMessage → Type 0
OfRefused v w None = ⊤
OfRefused v w (Some m) = AtReceiver v w m.message (receiver_of m)

abbrev pub IsNoticedAt : Volume → World → Event → Type 0
IsNoticedAt v w (events.Deliver k) = OfRefused v w (message_of w k)
IsNoticedAt v w e = ⊤

-- Refusals are noticed: at each event, if the volume has taken the steps of all events before it.
abbrev pub RefusalsAreNoticed : Promise
RefusalsAreNoticed past x = OnSome (λ v. IsNoticedAt v x.before.world x.event) (led_to past x).volume

-- How many asks a client had had as a step began
abbrev pub asks_before : Step → ClientId → ℕ
asks_before y c = (at_site (site_of y.before.world c)).count

-- Each open ask that had come before a step has noticed what there was to notice of names as the step began: that its file didn't exist, and that another file
-- had the name to be removed.
pub record HaveNoticedAt (y : Step) (v : Volume) : Type 0 where
  pub missed :
      (s : ServerId) (node : ServerNode) (ino : ℕ)
      → node_of y.before.world s ≡ Some node
      → is_file node.state.stable.names ino ≡ false
      → nat_lt 0 ino ≡ true
      → (a : Pending)
      → Has a v.pending
      → a.op ≤ asks_before y a.client
      → same_file (file_of a.ask) (record { server = s; ino = ino }) ≡ true
      → a.missed ≡ true
  pub other :
      (s : ServerId) (node : ServerNode) (dir : ℕ) (name : List ℕ) (ino : ℕ)
      → node_of y.before.world s ≡ Some node
      → lookup node.state.stable.names dir name ≡ Ok ino
      → is_file node.state.stable.names ino ≡ true
      → (a : Pending)
      → Has a v.pending
      → a.op ≤ asks_before y a.client
      → removes_other s dir name ino a.ask ≡ true
      → a.other ≡ true

-- Notices stay: after every event, of each step so far, if the volume has taken the steps of all events so far.
abbrev pub NoticesStay : Promise
NoticesStay past x = OnSome (λ v. (y : Step) → Has y (past ++ x ∷ []) → HaveNoticedAt y v) (led_by (led_to past x) x).volume

-- So as a server served a request and refused it, for each open ask that had come before: if it replied that the file doesn't exist, an ask of this file has
-- noticed so. If it replied that the client doesn't hold the file that it should remove, an ask to remove another file under that name has noticed this file.
pub record HaveNoticedReply (y : Step) (v : Volume) : Type 0 where
  pub missed :
      (c : ClientId) (s : ServerId) (life epoch number ino n : ℕ)
      → ServedAt y c s life epoch number (bodies.Nack why.NoFile ino n)
      → nat_lt 0 ino ≡ true
      → (a : Pending)
      → Has a v.pending
      → a.op ≤ asks_before y a.client
      → same_file (file_of a.ask) (record { server = s; ino = ino }) ≡ true
      → a.missed ≡ true
  pub other :
      (c : ClientId) (s : ServerId) (life epoch number : ℕ) (dir : ℕ) (name : List ℕ) (g : GrantNo) (ino n : ℕ)
      → (z : ServedAt y c s life epoch number (bodies.Nack why.NotHolder ino n))
      → z.sent.message.body ≡ bodies.Name (ops.Remove dir name g)
      → (a : Pending)
      → Has a v.pending
      → a.op ≤ asks_before y a.client
      → removes_other s dir name ino a.ask ≡ true
      → a.other ≡ true

-- Replies stay noticed: after every event, those of each step so far, if the volume has taken the steps of all events so far.
abbrev pub RepliesStayNoticed : Promise
RepliesStayNoticed past x = OnSome (λ v. (y : Step) → Has y (past ++ x ∷ []) → HaveNoticedReply y v) (led_by (led_to past x) x).volume

-- A file that a server lacked as a step began, although it had given its inode, doesn't exist after any later event.
abbrev pub GoneFilesStayGone : Promise
GoneFilesStayGone past x =
    (y : Step)
    → Has y (past ++ x ∷ [])
    → (s : ServerId) (before after : ServerNode) (ino : ℕ)
    → node_of y.before.world s ≡ Some before
    → is_file before.state.stable.names ino ≡ false
    → ino < before.state.stable.names.next
    → node_of x.after.world s ≡ Some after
    → is_file after.state.stable.names ino ≡ false
