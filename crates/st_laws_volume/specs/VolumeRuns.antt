-- Every run of the world is a run of the volume.
use Rattle.std.specs.Prelude.{◌≡◌, ℕ, ◌+◌, ◌*◌, Bool, true, List, [], ◌∷◌, filter, length, map, Some, ⊤}
use Rattle.std.specs.List.{list_all}
use Rattle.st_base.specs.declared.config.Config.{Config}
use Rattle.st_base.specs.declared.ids.ServerId.{ServerId}
use Rattle.st_messages.specs.declared.event.Event.{Event}
use Rattle.st_rules.specs.Extents.{numbers}
use Rattle.st_rules.specs.History.{traced}
use Rattle.st_rules.specs.Keys.{same_server}
use Rattle.st_rules.specs.Safety.{IsHead, Step, is_event, steps}
use Rattle.st_rules.specs.World.{World, all_servers, fresh_world, server_of_disk}
use Rattle.st_laws_volume.specs.Seen.{is_seen, seen_of}
use Rattle.st_volume.specs.declared.step.VolumeStep.{VolumeStep}
use Rattle.st_volume.specs.Volume.{Volume, fresh_volume, run}

-- The volume of a world that begins: each server has room for as many pages as its disks have blocks.
abbrev pub is_disk_of : World → ServerId → ℕ → Bool
is_disk_of w s d =
    same_server (server_of_disk w (record { disk = record { 0 = d }; block = 0 })) s

abbrev pub size_of : World → ServerId → ℕ
size_of w s = w.disks.blocks * length (filter (is_disk_of w s) (numbers 1 w.disks.disks))

abbrev pub volume_of : World → Volume
volume_of w = fresh_volume (map (size_of w) (all_servers w))

-- An event is these steps of the volume. What is seen of them is what is seen of the event, in its
-- order; the volume takes them, one after another; and each entry that has joined its log by then
-- has had its line.
pub record IsShown (x : Step) (v after : Volume) (ys : List VolumeStep) : Type 0 where
  pub seen : filter is_seen ys ≡ seen_of x
  pub taken : run ys v ≡ Some after
  pub told : after.lines ≡ length after.log

-- A run of the volume: each event is some of its steps, and so is each later one, from the volume
-- that the first ones left.
unfoldable pub IsRunOf : Volume → List Step → Type 0
IsRunOf v [] = ⊤
IsRunOf v (x ∷ xs) = (ys : List VolumeStep) × (after : Volume) × IsShown x v after ys × IsRunOf after xs

-- The run of a world over these events, up to the first that is refused
abbrev pub IsRunOfTheVolume : World → List Event → Type 0
IsRunOfTheVolume w es = IsRunOf (volume_of w) (steps es (traced w))

-- Every run, from the world of a head and over events in their ranges
abbrev pub EveryRunIsARunOfTheVolume : Type 0
EveryRunIsARunOfTheVolume =
    (k : Config) (clients servers disks blocks form : ℕ) (es : List Event)
    → IsHead k clients servers disks blocks form
    → list_all (is_event (clients + servers)) es ≡ true
    → IsRunOfTheVolume (fresh_world k clients servers disks blocks form) es
