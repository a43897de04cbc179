-- What the calls at a server do to a server that may be absent: what the library's calls do to the one that is there.
use Rattle.std.specs.Prelude.{◌≡◌, ◌⊎◌, ◌<◌, ℕ, false, List, length, take, drop, is_some, Option, Some, None}
use Rattle.st_embed.specs.Servers.{EmbeddedServer, MayOpen, NotOpened, NotTaken, Opens, Refuses, Steps, kept, record_by, to_keep}
use Rattle.st_embed.specs.FramePieces.{Takes}
use Rattle.st_embed.specs.declared.fault.ServerFault.{ServerFault}
use Rattle.st_embed.specs.declared.fault.ServerRefusal.{ServerRefusal}
use Rattle.st_embed.specs.declared.server.Shape.{Shape}
use Rattle.tank_c.specs.Calls.{server_id, settings_of, stamp}
use Rattle.tank_c.specs.Codes as codes
use Rattle.tank_c.specs.declared.client_calls.TankSettings.{TankSettings}
use Rattle.tank_c.specs.declared.server_calls.TankRecord.{TankRecord}
use Rattle.tank_c.specs.declared.server_calls.TankServerStepped.{TankServerStepped}
use Rattle.tank_c.specs.declared.server_calls.TankShape.{TankShape}

abbrev pub shape_of : TankShape → Shape
shape_of w = record { servers = w.servers; disks = w.disks; blocks = w.blocks }

-- a server that may be opened is opened
abbrev pub ServerOpens : Option EmbeddedServer → Option EmbeddedServer → TankSettings → TankShape → ℕ → List ℕ → ℕ → Type 0
ServerOpens None (Some e) s w now bytes at =
    MayOpen (server_id w.id) (settings_of s) (shape_of w) (stamp now) (length bytes) × Opens (server_id w.id) (settings_of s) (shape_of w) (stamp now) bytes e × (at ≡ 0)
ServerOpens old new s w now bytes at = ⊥

-- why a server is not opened: the handle is open, and stays as it is; or as the library says
pub record NotOpenedFor (s : TankSettings) (w : TankShape) (now : ℕ) (bytes : List ℕ) (code at : ℕ) : Type 0 where
  pub fault : ServerFault
  pub told : code ≡ codes.of_server_open fault
  pub place : at ≡ codes.place_of_server_open fault
  pub why : NotOpened (server_id w.id) (settings_of s) (shape_of w) (stamp now) bytes fault

abbrev pub NoServerOpened : Option EmbeddedServer → Option EmbeddedServer → TankSettings → TankShape → ℕ → List ℕ → ℕ → ℕ → Type 0
NoServerOpened None new s w now bytes code at = (new ≡ None) × NotOpenedFor s w now bytes code at
NoServerOpened (Some e) new s w now bytes code at = (new ≡ Some e) × (code ≡ codes.BUSY) × (at ≡ 0)

-- what a step returns: a place, and whether a record must be kept
abbrev pub server_told : ℕ → ℕ → TankServerStepped
server_told at to_keep = record { at = at; «record» = to_keep }

-- a step is taken
abbrev pub ServerSteps : Option EmbeddedServer → Option EmbeddedServer → ℕ → List ℕ → TankServerStepped → Type 0
ServerSteps (Some c) (Some d) now frame o = Steps c d (stamp now) frame × (o ≡ server_told 0 (codes.flag (is_some (to_keep d))))
ServerSteps c d now frame o = ⊥

-- no step is taken, for a reason that the library tells
pub record RefusesFor (old new : EmbeddedServer) (now : ℕ) (frame : List ℕ) (code : ℕ) (o : TankServerStepped) : Type 0 where
  pub refusal : ServerRefusal
  pub told : code ≡ codes.of_server_step refusal
  pub place : o ≡ server_told (codes.place_of_server_step refusal) 0
  pub why : Refuses old new (stamp now) frame refusal

abbrev pub NoServerStep : Option EmbeddedServer → Option EmbeddedServer → ℕ → List ℕ → ℕ → TankServerStepped → Type 0
NoServerStep (Some c) (Some d) now frame code o = RefusesFor c d now frame code o
NoServerStep None None now frame code o = (code ≡ codes.ABSENT) × (o ≡ server_told 0 0)
NoServerStep c d now frame code o = ⊥

-- the record that must be kept comes first if it was written, and its gate is reported
pub record IsRecord (e : EmbeddedServer) (before after : List ℕ) (r : TankRecord) : Type 0 where
  pub gate : r.gate ≡ e.gate
  pub size : r.size ≡ length (record_by (to_keep e))
  pub bytes : take r.size after ≡ record_by (to_keep e)
  pub behind : drop r.size after ≡ drop r.size before

abbrev pub TellsRecord : Option EmbeddedServer → List ℕ → List ℕ → TankRecord → Type 0
TellsRecord None before after r = ⊥
TellsRecord (Some e) before after r = IsRecord e before after r

-- nothing is returned about a record
abbrev pub untold : TankRecord
untold = record { gate = 0; size = 0 }

-- the buffer is too short for the record; its gate and size are returned
pub record IsShort (e : EmbeddedServer) (before : List ℕ) (r : TankRecord) : Type 0 where
  pub gate : r.gate ≡ e.gate
  pub size : r.size ≡ length (record_by (to_keep e))
  pub few : length before < r.size

-- why it isn't written, and what is reported: lack of memory, or a buffer that is too short
abbrev pub NotRecorded : EmbeddedServer → List ℕ → TankRecord → ℕ → Type 0
NotRecorded e before r code = ((code ≡ codes.NO_MEMORY) × (r ≡ untold)) ⊎ ((code ≡ codes.SHORT_ROOM) × IsShort e before r)

-- the buffer stays as it was; there is no server, or its record is not written
abbrev pub NoServerRecord : Option EmbeddedServer → List ℕ → List ℕ → TankRecord → ℕ → Type 0
NoServerRecord None before after r code = (after ≡ before) × (code ≡ codes.ABSENT) × (r ≡ untold)
NoServerRecord (Some e) before after r code = (after ≡ before) × NotRecorded e before r code

-- bytes are taken out, and nothing else changes; nothing had to be kept
pub record TakesFrom (old new : EmbeddedServer) (before after : List ℕ) (count : ℕ) : Type 0 where
  pub kept : old.unkept ≡ false
  pub takes : Takes old.left new.left before after count
  pub others : new ≡ record old { left = new.left }

abbrev pub ServerTakes : Option EmbeddedServer → Option EmbeddedServer → List ℕ → List ℕ → ℕ → Type 0
ServerTakes (Some c) (Some d) before after count = TakesFrom c d before after count
ServerTakes c d before after count = ⊥

-- why no bytes are taken out: there is no server; or as the library says
pub record NotTakenFor (e : EmbeddedServer) (code : ℕ) : Type 0 where
  pub refusal : ServerRefusal
  pub told : code ≡ codes.of_server_step refusal
  pub why : NotTaken e refusal

abbrev pub NoServerTake : Option EmbeddedServer → ℕ → Type 0
NoServerTake None code = code ≡ codes.ABSENT
NoServerTake (Some e) code = NotTakenFor e code

-- the record was kept, if there is a server
abbrev pub ServerKept : Option EmbeddedServer → Option EmbeddedServer → ℕ → Type 0
ServerKept None new code = (new ≡ None) × (code ≡ codes.ABSENT)
ServerKept (Some e) new code = (new ≡ Some (kept e)) × (code ≡ codes.DONE)

-- the epoch, or 0 if there is no server
abbrev pub epoch_of : Option EmbeddedServer → ℕ
epoch_of None = 0
epoch_of (Some e) = e.server.node.state.stable.epoch.0
