-- What other laws still owe at a step, for what is on the disks.
use Rattle.std.specs.Prelude.{◌≡◌, ℕ, true, List, [], Option, Some, None}
use Rattle.st_base.specs.declared.disk.BlockAt.{BlockAt}
use Rattle.st_base.specs.declared.disk.Tag.{Tag}
use Rattle.st_base.specs.declared.ids.FileId.{FileId}
use Rattle.st_base.specs.declared.ids.PageNo.{PageNo}
use Rattle.st_rules.specs.declared.observation.Observation.TheVariants as seen
use Rattle.st_rules.specs.declared.world.IssuedCommand.{IssuedCommand}
use Rattle.st_rules.specs.declared.world.LeaseLife.{LeaseLife}
use Rattle.st_rules.specs.Events.{counted}
use Rattle.st_rules.specs.Safety.{Promise, Step}
use Rattle.st_rules.specs.World.{World, ended_of}
use Rattle.st_lemmas.specs.Lists.{Has}
use Rattle.st_laws_pages.specs.Disks.World.{Living, Timely}
use Rattle.st_laws_reads.specs.Copies.World.{Taking, taken}
use Rattle.st_laws_extents.specs.CutRequests.Cut.{CutIn}
use Rattle.st_laws_extents.specs.Submits.WritePlaces.{SubmitsLie}

-- no write of a life that a crash ended, which may have its effect, is on this file
abbrev pub NoFrozenWrites : World → FileId → Type 0
NoFrozenWrites w f =
    (n : ℕ) (y : IssuedCommand) (at : BlockAt) (tag : Tag) (bytes : List ℕ) → Living (Timely w) w.commands w.disks.commands n y at tag bytes →
    tag.file ≡ f → (row : LeaseLife) → ended_of w y.client y.server y.life ≡ Some row → row.crashed ≡ true → ⊥

-- and none of this life of this client
abbrev pub NoOwnWrites : World → FileId → ℕ → ℕ → Type 0
NoOwnWrites w f d life =
    (n : ℕ) (y : IssuedCommand) (at : BlockAt) (tag : Tag) (bytes : List ℕ) → Living (Timely w) w.commands w.disks.commands n y at tag bytes →
    tag.file ≡ f → y.client.0 ≡ d → y.life.0 ≡ life → (row : LeaseLife) → ended_of w y.client y.server y.life ≡ Some row → row.crashed ≡ true → ⊥

-- none of the life that asks for it is on a file that a step cuts
abbrev pub FrozenUncut : Step → Type 0
FrozenUncut x =
    (index : ℕ) (f : FileId) (p : PageNo) → Has (seen.CutAt index f p) x.seen → (c : CutIn (counted x.before.world) f p) →
    NoOwnWrites x.before.world f c.message.header.from c.message.header.life

-- of what is taken
abbrev pub SubmitsLeft : Option Taking → Type 0
SubmitsLeft None = Unit {0}
SubmitsLeft (Some x) = SubmitsLie x

-- What is left at a step: of the writes that it submits, and of its cuts.
abbrev pub PagesLeft : Promise
PagesLeft past x = record { submits : SubmitsLeft (taken (counted x.before.world) x.event); cuts : FrozenUncut x }
