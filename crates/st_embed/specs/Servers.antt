-- A server inside another program: what it holds, and what its calls make of it.
use Rattle.std.specs.Prelude.{◌≡◌, ◌≢◌, ◌⊎◌, ◌≤◌, ◌<◌, ◌+◌, ◌^◌, ℕ, zero, suc, Bool, true, false, if◌then◌else◌, List, [], ◌∷◌, ◌++◌, length, Option, Some, None, IfSome, is_some, Ok, Err, IsOk}
use Rattle.st_base.specs.declared.config.Config.{Config}
use Rattle.st_base.specs.Config.{check}
use Rattle.st_base.specs.declared.ids.ServerId.{ServerId}
use Rattle.st_base.specs.declared.ids.Stamp.{Stamp}
use Rattle.st_durable.specs.Durable.{DurableServer, Tells, asked_of}
use Rattle.st_extents.specs.Layout.{IsWithinLimits}
use Rattle.st_journal.specs.Changes.{fits}
use Rattle.st_journal.specs.Journal.{IsDamaged, StandsFor, all_opened, framed}
use Rattle.st_journal.specs.OpenedJournal.{fresh_of, room_behind, room_for}
use Rattle.st_journal.specs.declared.change.Change.{Change}
use Rattle.st_journal.specs.declared.change.Change.TheVariants.{Epoch}
use Rattle.st_messages.specs.declared.message.Body.{Body}
use Rattle.st_messages.specs.declared.message.Message.{Message}
use Rattle.st_messages.specs.declared.output.Output.{Output}
use Rattle.st_node.specs.Runs.{handle}
use Rattle.st_node.specs.declared.node.Node.TheVariants.{Server}
use Rattle.st_rules.specs.Server.{ServerNode, Stable, crash_node, fresh_node, start_node}
use Rattle.st_server.specs.Restart.{crashed_node}
use Rattle.st_server.specs.Room.{HasRoom}
use Rattle.st_server.specs.Invariants.{AreMapped, AreNamed}
use Rattle.st_embed.specs.Checks.{is_in_time}
use Rattle.st_embed.specs.StepOutputs.{server_outputs}
use Rattle.st_host_frames.specs.Frame.{received}
use Rattle.st_embed.specs.declared.fault.ServerFault.{ServerFault}
use Rattle.st_embed.specs.declared.fault.ServerFault.TheVariants as opening
use Rattle.st_embed.specs.declared.fault.ServerRefusal.{ServerRefusal}
use Rattle.st_embed.specs.declared.fault.ServerRefusal.TheVariants as journal
use Rattle.st_embed.specs.declared.fault.StepRefusal.{StepRefusal}
use Rattle.st_embed.specs.declared.fault.StepRefusal.TheVariants as refusals
use Rattle.st_embed.specs.declared.server.Shape.{Shape}

-- A server with the change of its last step or start; where the gate is after the changes that are kept in its journal, and how many bytes the journal has;
-- whether the change must still be kept; the bytes of its frames that must be taken out; the outputs of its last step; and the moment of that.
pub record EmbeddedServer : Type 0 where
  pub server : DurableServer
  pub gate : ℕ
  pub size : ℕ
  pub unkept : Bool
  pub left : List ℕ
  pub outputs : List Output
  pub last : Stamp

-- The gate lies in the journal, and a change that must be kept has room after it.
pub record IsPlaced (gate size : ℕ) (unkept : Bool) (changed : Option Change) : Type 0 where
  pub within : gate < size
  pub small : size < 4294967296
  pub room : unkept ≡ true → IfSome changed (λ x. (fits x ≡ true) × (room_for x ≤ room_behind size gate))

-- the node, and its stable part
abbrev pub node_of : EmbeddedServer → ServerNode
node_of e = e.server.node

abbrev pub stable_now : EmbeddedServer → Stable
stable_now e = e.server.node.state.stable

-- the change that must be kept
abbrev pub to_keep : EmbeddedServer → Option Change
to_keep e = if e.unkept then e.server.changed else None

-- Opening.

-- the stable part of a server that never began an epoch
abbrev pub start_of : ServerId → Shape → Stable
start_of id w = fresh_of id w.servers w.disks w.blocks

-- A stable part of this server: its names and extents can be told, and the extents are its own.
pub record IsOfServer (id : ServerId) (t : Stable) : Type 0 where
  pub named : AreNamed t.names
  pub mapped : AreMapped t.extents
  pub own : t.extents.server ≡ id

-- the server that this many changes lead to: a fresh one if there is none, and otherwise the one that crashed with this stable part and is started
abbrev pub begun : ServerId → Config → Shape → Stamp → ℕ → Stable → ServerNode
begun id k w now zero stable = fresh_node id k w.servers w.disks w.blocks
begun id k w now (suc n) stable = start_node (crashed_node id k stable) now

-- a server that may be opened on that many bytes, as far as the bytes themselves are not looked at
pub record MayOpen (id : ServerId) (k : Config) (w : Shape) (now : Stamp) (size : ℕ) : Type 0 where
  pub checked : IsOk (check k)
  pub limits : IsWithinLimits id.0 w.servers w.disks w.blocks
  pub in_time : now.0 ≤ 2 ^ 62
  pub some : 1 ≤ size
  pub small : size < 4294967296

-- a server that this many changes lead to may be started: it was never started before, or an epoch was begun and another one is left
abbrev pub MayStart : ℕ → Stable → Type 0
MayStart n s = (n ≡ 0) ⊎ ((1 ≤ s.epoch.0) × (s.epoch.0 < 4294967295))

-- An opened server: the journal stands for its stable part before the change that begins the epoch, which must be kept.
pub record Opens (id : ServerId) (k : Config) (w : Shape) (now : Stamp) (bytes : List ℕ) (e : EmbeddedServer) : Type 0 where
  pub changes : List Change
  pub stable : Stable
  pub stands : StandsFor (start_of id w) bytes changes stable
  pub may_start : MayStart (length changes) stable
  pub node : node_of e ≡ begun id k w now (length changes) stable
  pub changed : e.server.changed ≡ Some Epoch
  pub told : Tells stable (stable_now e) (Some Epoch)
  pub gate : e.gate ≡ length (all_opened changes)
  pub size : e.size ≡ length bytes
  pub room : room_for Epoch ≤ room_behind e.size e.gate
  pub unkept : e.unkept ≡ true
  pub left : e.left ≡ []
  pub outputs : e.outputs ≡ []
  pub last : e.last ≡ now

-- why a server that crashed with this stable part is not started
abbrev pub NotStarted : Stable → ServerFault → Type 0
NotStarted s opening.NoEpoch = s.epoch.0 ≡ 0
NotStarted s opening.Epochs = 4294967295 ≤ s.epoch.0
NotStarted s opening.Memory = Unit {0}
NotStarted s f = ⊥

-- the same, of a server whose journal has this many changes
abbrev pub NotStartedAfter : ℕ → Stable → ServerFault → Type 0
NotStartedAfter n s opening.Memory = Unit {0}
NotStartedAfter n s f = (1 ≤ n) × NotStarted s f

-- the number of changes of a journal leaves too little room after its gate for a record
pub record IsFull (start : Stable) (bytes : List ℕ) : Type 0 where
  pub changes : List Change
  pub stable : Stable
  pub stands : StandsFor start bytes changes stable
  pub few : room_behind (length bytes) (length (all_opened changes)) < 526

-- the journal has changes, and the stable part that it stands for has begun no epoch, or the last one
pub record IsNotStarted (start : Stable) (bytes : List ℕ) (f : ServerFault) : Type 0 where
  pub changes : List Change
  pub some : 1 ≤ length changes
  pub stable : Stable
  pub stands : StandsFor start bytes changes stable
  pub why : NotStarted stable f

-- why a server is not opened, in the order of the checks; memory may run out for any server that may be opened
abbrev pub NotOpened : ServerId → Config → Shape → Stamp → List ℕ → ServerFault → Type 0
NotOpened id k w now bytes (opening.Settings r) = check k ≡ Err r
NotOpened id k w now bytes opening.Shape = IsOk (check k) × (IsWithinLimits id.0 w.servers w.disks w.blocks → ⊥)
NotOpened id k w now bytes opening.Time = IsOk (check k) × IsWithinLimits id.0 w.servers w.disks w.blocks × (2 ^ 62 < now.0)
NotOpened id k w now bytes opening.Size = IsOk (check k) × IsWithinLimits id.0 w.servers w.disks w.blocks × (now.0 ≤ 2 ^ 62) × ((bytes ≡ []) ⊎ (4294967295 < length bytes))
NotOpened id k w now bytes (opening.Damaged at) = MayOpen id k w now (length bytes) × IsDamaged (start_of id w) bytes at
NotOpened id k w now bytes opening.Full = MayOpen id k w now (length bytes) × IsFull (start_of id w) bytes
NotOpened id k w now bytes opening.NoEpoch = MayOpen id k w now (length bytes) × IsNotStarted (start_of id w) bytes opening.NoEpoch
NotOpened id k w now bytes opening.Epochs = MayOpen id k w now (length bytes) × IsNotStarted (start_of id w) bytes opening.Epochs
NotOpened id k w now bytes opening.Memory = MayOpen id k w now (length bytes)

-- Steps.

-- a step with this message may be taken
pub record MayStep (old : EmbeddedServer) (now : Stamp) (frame : List ℕ) (message : Message) : Type 0 where
  pub received_so : received frame ≡ Ok message
  pub runs : (node_of old).running ≡ true
  pub taken : old.left ≡ []
  pub in_time : is_in_time old.last now ≡ true
  pub room : HasRoom (node_of old).state

-- the change is the one that the message asks for
abbrev pub IsAskedBy : Body → Option Change → Type 0
IsAskedBy body None = Unit {0}
IsAskedBy body (Some x) = asked_of body ≡ Some x

-- a step: as of a client; also, if the stable part changed, the change must be kept, and the journal has room for it
pub record Steps (old new : EmbeddedServer) (now : Stamp) (frame : List ℕ) : Type 0 where
  pub message : Message
  pub received_so : received frame ≡ Ok message
  pub kept : old.unkept ≡ false
  pub runs : (node_of old).running ≡ true
  pub taken : old.left ≡ []
  pub in_time : is_in_time old.last now ≡ true
  pub node : Server (node_of new) ≡ (handle (Server (node_of old)) now message).node
  pub left : new.left ≡ (handle (Server (node_of old)) now message).out
  pub outputs : new.outputs ≡ server_outputs (node_of old) now message
  pub told : Tells (stable_now old) (stable_now new) (to_keep new)
  pub gate : new.gate ≡ old.gate
  pub size : new.size ≡ old.size
  pub room : (x : Change) → to_keep new ≡ Some x → room_for x ≤ room_behind new.size new.gate
  pub last : new.last ≡ now

-- the node is crashed, as from before a message or as from after it
abbrev pub IsStarved : ServerNode → ServerNode → Stamp → Message → Type 0
IsStarved old new now m = (new ≡ crash_node old) ⊎ ((n : ServerNode) × (Server n ≡ (handle (Server old) now m).node) × (new ≡ crash_node n))

-- Memory ran out in a step that may be taken: the node is crashed, and nothing must be kept or taken out.
pub record Starves (old new : EmbeddedServer) (now : Stamp) (frame : List ℕ) : Type 0 where
  pub message : Message
  pub may : MayStep old now frame message
  pub node : IsStarved (node_of old) (node_of new) now message
  pub unkept : new.unkept ≡ false
  pub left : new.left ≡ []
  pub outputs : new.outputs ≡ []

-- why a step as of any node is refused, in the order of the checks
abbrev pub RefusesStep : EmbeddedServer → EmbeddedServer → Stamp → List ℕ → StepRefusal → Type 0
RefusesStep old new now frame refusals.Crashed = ((node_of old).running ≡ false) × (new ≡ old)
RefusesStep old new now frame refusals.Untaken = ((node_of old).running ≡ true) × (old.left ≢ []) × (new ≡ old)
RefusesStep old new now frame refusals.Time = ((node_of old).running ≡ true) × (old.left ≡ []) × (is_in_time old.last now ≡ false) × (new ≡ old)
RefusesStep old new now frame (refusals.Frame f) = ((node_of old).running ≡ true) × (old.left ≡ []) × (is_in_time old.last now ≡ true) × (received frame ≡ Err f) × (new ≡ old)
RefusesStep old new now frame refusals.Full =
    ((node_of old).running ≡ true) × (old.left ≡ []) × (is_in_time old.last now ≡ true) × IsOk (received frame) × (HasRoom (node_of old).state → ⊥) × (new ≡ old)
RefusesStep old new now frame refusals.Memory = ((node_of old).running ≡ true) × (new ≡ old)
RefusesStep old new now frame refusals.Starved = Starves old new now frame

-- a step that may be taken asks for a change, and the journal may have too little room for it
pub record IsJournalFull (old : EmbeddedServer) (now : Stamp) (frame : List ℕ) : Type 0 where
  pub message : Message
  pub may : MayStep old now frame message
  pub asks : is_some (asked_of message.body) ≡ true
  pub few : room_behind old.size old.gate < 526

-- why a step is refused, in the order of the checks
abbrev pub Refuses : EmbeddedServer → EmbeddedServer → Stamp → List ℕ → ServerRefusal → Type 0
Refuses old new now frame journal.Unkept = (old.unkept ≡ true) × (new ≡ old)
Refuses old new now frame (journal.Step r) = (old.unkept ≡ false) × RefusesStep old new now frame r
Refuses old new now frame journal.JournalFull = (old.unkept ≡ false) × IsJournalFull old now frame × (new ≡ old)

-- why no bytes are taken out: a change must still be kept, or lack of memory
abbrev pub NotTaken : EmbeddedServer → ServerRefusal → Type 0
NotTaken e journal.Unkept = e.unkept ≡ true
NotTaken e (journal.Step refusals.Memory) = e.unkept ≡ false
NotTaken e r = ⊥

-- Keeping a change: its record is the bytes after the gate, with the next gate, which isn't open.
abbrev pub record_by : Option Change → List ℕ
record_by None = []
record_by (Some x) = framed x ++ 0 ∷ []

-- how many bytes the gate moves past it, and where it is then
abbrev pub len_by : Option Change → ℕ
len_by None = 0
len_by (Some x) = room_for x

abbrev pub gate_by : Option Change → ℕ → ℕ
gate_by o gate = gate + len_by o

-- nothing need be kept from then on
abbrev pub kept : EmbeddedServer → EmbeddedServer
kept e = record e { gate = gate_by (to_keep e) e.gate; unkept = false }
