-- The commands of a world: what the disks know about them, and who issued them.
use Rattle.std.specs.Prelude.{◌≡◌, ◌≤◌, ◌-◌, ◌==◌, ℕ, Bool, not, filter, List, [], ◌∷◌, ◌++◌, length}
use Rattle.std.specs.List.{list_any, zip}
use Rattle.indexmap.specs.IndexMap.{IndexMap}
use Rattle.st_base.specs.declared.disk.Command.{Command}
use Rattle.st_world_parts.specs.declared.owners.OwnerKey.{OwnerKey}
use Rattle.st_model.specs.declared.marking.Spare.{Spare}
use Rattle.st_model.specs.Walks as walks
use Rattle.st_rules.specs.declared.log.LogOwner.{LogOwner}
use Rattle.st_rules.specs.Events as events
use Rattle.st_rules.specs.declared.world.IssuedCommand.{IssuedCommand}
use Rattle.st_rules.specs.Disks as disks
use Rattle.st_rules.specs.Disks.{Disks, fresh_disks}
use Rattle.st_rules.specs.Events.{disks_after}
use Rattle.st_world_parts.specs.OutstandingCommands.{open_from}
use Rattle.st_world_parts.specs.Owners.{AreLast}

-- the disks with their commands, and who issued each of these
pub record Commands : Type 0 where
  pub disks : Disks
  pub commands : List IssuedCommand

-- nothing was issued
abbrev pub fresh : ℕ → ℕ → Commands
fresh d blocks = record { disks = fresh_disks d blocks; commands = [] }

-- with one more command
abbrev pub submit : IssuedCommand → Command → Commands → Commands
submit c what s = record { disks = disks.submit s.disks what; commands = s.commands ++ c ∷ [] }

-- the command of this number has its effect, if it may
abbrev pub effect : ℕ → Commands → Commands
effect k s = record s { disks = disks_after s.disks (disks.effect s.disks k) }

-- the command of this number is reported, if it may
abbrev pub done : ℕ → Bool → Commands → Commands
done k ok s = record s { disks = disks_after s.disks (disks.done s.disks k ok) }

-- what is kept beside the disks and the commands: the places of those that were not reported, and the last writes
pub record IsKept {S : Type 0} (ds : Disks) (cs : List IssuedCommand) (open_places : List ℕ) (m : IndexMap OwnerKey ℕ S) : Type 0 where
  pub each : length cs ≡ length ds.commands
  pub unreported : open_places ≡ open_from 0 ds.commands
  pub last : AreLast cs m

-- these are what the commands that were not reported spare
abbrev pub Spares : List Spare → Commands → Type 0
Spares found s = (number : ℕ) (o : LogOwner) → list_any (walks.spares number o) found ≡ list_any (events.spares number o) (zip s.commands s.disks.commands)

-- the same commands were not reported
pub record SameOpen (old new : Disks) : Type 0 where
  pub each : length new.commands ≡ length old.commands
  pub unreported : open_from 0 new.commands ≡ open_from 0 old.commands

-- the command of this number was reported
pub record IsClosed (old : Disks) (k : ℕ) (new : Disks) : Type 0 where
  pub some : 1 ≤ k
  pub each : length new.commands ≡ length old.commands
  pub unreported : open_from 0 new.commands ≡ filter (λ x. not (x == k - 1)) (open_from 0 old.commands)
