-- A server that is opened on the bytes of its journal's file, and why it is not opened.
use Rattle.std.specs.Prelude.{◌≡◌, ◌≢◌, ◌≤◌, ◌^◌, ◌==◌, if◌then◌else◌, ℕ, true, List, [], Some, ⊤}
use Rattle.st_base.specs.declared.ids.Stamp.{Stamp}
use Rattle.st_durable.specs.Durable.{DurableServer, Tells}
use Rattle.st_held_steps.specs.Held as held
use Rattle.st_journal.specs.Parts.{stable_of}
use Rattle.st_journal.specs.Stable.{fresh}
use Rattle.st_journal.specs.declared.change.Change.TheVariants.{Epoch}
use Rattle.st_journal_bytes.specs.Files.{IsUnmade}
use Rattle.st_journal_bytes.specs.declared.header.Identity.{Identity}
use Rattle.st_kept_journal.specs.Keeping.{IsFullFor, Keeping}
use Rattle.st_kept_journal.specs.declared.task.Task.TheVariants as tasks
use Rattle.st_rules.specs.Server as server
use Rattle.st_rules.specs.Server.{Stable}
use Rattle.st_server.specs.Invariants.{AreMapped, AreNamed}
use Rattle.st_server.specs.Restart.{crashed_node}
use Rattle.st_stable_file.specs.OpenedFile.{NotOpens, OpensFile, shape_of}
use Rattle.st_stable_file.specs.declared.file.OpenedFile.{OpenedFile}
use Rattle.st_kept_histories.specs.Kept.{KeptServer, with_change}
use Rattle.st_kept_histories.specs.declared.fault.KeptFault.{KeptFault}
use Rattle.st_kept_histories.specs.declared.fault.KeptFault.TheVariants as faults
use Rattle.st_kept_histories.specs.declared.stage.Stage.TheVariants.{Rest}

-- names and pages that can be told in messages
pub record AreTold (t : Stable) : Type 0 where
  pub named : AreNamed t.names
  pub mapped : AreMapped t.extents

-- the node of a server in its next epoch: a fresh one if no epoch was begun, and otherwise the one that crashed with this stable part and is started
abbrev pub begun : Identity → Stamp → Stable → server.ServerNode
begun i now t =
    if t.epoch.0 == 0 then server.fresh_node i.server i.settings i.servers i.disks i.blocks
    else server.start_node (crashed_node i.server i.settings t) now

-- the stable part that a file stands for, and the keeper of the area that counts

abbrev pub stable_in : OpenedFile → Stable
stable_in o = stable_of o.area.stable

abbrev pub keeper_of : OpenedFile → Keeping
keeper_of o = record { area = o.current.header.area; second = o.current.second; gate = o.area.end.gate; waiting = []; task = tasks.Rest }

-- The file is opened, and its server is in its next epoch, with the change that begins it; the keeper is at the file's closed gate.
pub record OpensServer (bytes : List ℕ) (i : Identity) (now : Stamp) (d : DurableServer) (j : Keeping) : Type 0 where
  pub file : OpenedFile
  pub opens : OpensFile bytes i now.0 file
  pub node : d.node ≡ begun i now (stable_in file)
  pub changed : d.changed ≡ Some Epoch
  pub told : Tells (stable_in file) d.node.state.stable (Some Epoch)
  pub journal : j ≡ keeper_of file

-- The change that begins the epoch waits, and nothing is given before it is kept.
pub record Opens (bytes : List ℕ) (i : Identity) (now : Stamp) (limit : ℕ) (e : KeptServer) : Type 0 where
  pub in_time : now.0 ≤ 2 ^ 62
  pub start : Keeping
  pub opens : OpensServer bytes i now e.server start
  pub journal : e.journal ≡ with_change start now.0 (Some Epoch)
  pub steps : e.steps ≡ held.stepped (record { steps = []; made = 0; kept = 0; limit = limit }) [] true
  pub stage : e.stage ≡ Rest
  pub moment : e.moment ≡ now.0
  pub last : e.last ≡ now.0

-- a file is opened, and this holds of the stable part that it stands for, or of its keeper
pub record HasStable (bytes : List ℕ) (i : Identity) (now : Stamp) (P : Stable → Type 0) : Type 0 where
  pub file : OpenedFile
  pub opens : OpensFile bytes i now.0 file
  pub why : P (stable_in file)

pub record HasKeeper (bytes : List ℕ) (i : Identity) (now : Stamp) (P : Keeping → Type 0) : Type 0 where
  pub file : OpenedFile
  pub opens : OpensFile bytes i now.0 file
  pub why : P (keeper_of file)

-- why a server doesn't begin its next epoch on this stable part
abbrev pub NotBegun : Identity → Stable → KeptFault → Type 0
NotBegun i t faults.NoEpoch = (t.epoch.0 ≡ 0) × (t ≢ fresh (shape_of i))
NotBegun i t faults.Epochs = 4294967295 ≤ t.epoch.0
NotBegun i t faults.NotTold = AreTold t → ⊥
NotBegun i t faults.Memory = ⊤
NotBegun i t f = ⊥

-- why the change that begins the epoch doesn't wait
abbrev pub NotAdded : Keeping → KeptFault → Type 0
NotAdded j faults.Full = IsFullFor j 9
NotAdded j faults.Memory = ⊤
NotAdded j f = ⊥

-- why a server is not opened
abbrev pub NotOpened : List ℕ → Identity → Stamp → KeptFault → Type 0
NotOpened bytes i now faults.Unmade = IsUnmade bytes
NotOpened bytes i now (faults.File f) = NotOpens bytes i now.0 f
NotOpened bytes i now faults.NoEpoch = HasStable bytes i now (λ t. NotBegun i t faults.NoEpoch)
NotOpened bytes i now faults.Epochs = HasStable bytes i now (λ t. NotBegun i t faults.Epochs)
NotOpened bytes i now faults.NotTold = HasStable bytes i now (λ t. NotBegun i t faults.NotTold)
NotOpened bytes i now faults.Full = HasKeeper bytes i now (λ j. IsFullFor j 9)
NotOpened bytes i now faults.Memory = ⊤
