-- The commands that were not reported, by their places, and what they carry.
use Rattle.std.specs.Prelude.{ℕ, ◌+◌, Bool, ◌&&◌, nat_lt, if◌then◌else◌, List, [], ◌∷◌, ◌++◌, get_or, Option, Some, None, is_some}
use Rattle.st_base.specs.declared.ids.ClientId.{ClientId}
use Rattle.st_base.specs.declared.ids.Life.{Life}
use Rattle.st_base.specs.declared.ids.ServerId.{ServerId}
use Rattle.st_model.specs.declared.marking.Spare.{Spare}
use Rattle.st_rules.specs.declared.disks.DiskCommand.{DiskCommand}
use Rattle.st_rules.specs.declared.world.Carried.{Carried}
use Rattle.st_rules.specs.declared.world.IssuedCommand.{IssuedCommand}
use Rattle.st_rules.specs.Admissible.{is_command_of, is_open}
use Rattle.st_rules.specs.World.{owner_carried}

-- the places of the commands that were not reported, rising, the first of these commands at this place
abbrev pub open_from : ℕ → List DiskCommand → List ℕ
open_from k [] = []
open_from k (d ∷ ds) = if is_open d.report then k ∷ open_from (k + 1) ds else open_from (k + 1) ds

-- what a command spares at a crash of its client, if it carries something
abbrev pub spare_of : IssuedCommand → Option Carried → List Spare
spare_of c None = []
spare_of c (Some x) = record { index = x.index; owner = owner_carried c x } ∷ []

-- no command
abbrev pub no_command : IssuedCommand
no_command = record { client = record { 0 = 0 }; number = 0; starts = 0; server = record { 0 = 0 }; life = record { 0 = 0 }; carries = None }

-- the command of a place
abbrev pub nth : List IssuedCommand → ℕ → IssuedCommand
nth cs k = get_or cs k no_command

-- what the commands of these places spare
abbrev pub spares_at : List IssuedCommand → List ℕ → List Spare
spares_at cs [] = []
spares_at cs (k ∷ ks) = spare_of (nth cs k) (nth cs k).carries ++ spares_at cs ks

-- a place below a number
abbrev pub is_below : ℕ → ℕ → Bool
is_below n k = nat_lt k n

-- the command of a place is a write of this instance of the client, in this life at the server
abbrev pub is_write_of : ClientId → ServerId → ℕ → Life → List IssuedCommand → ℕ → Bool
is_write_of c s starts life cs k = is_command_of c s starts life (nth cs k) && is_some (nth cs k).carries
