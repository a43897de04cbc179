-- Full servers: a server that has no free block for a page has no room in the volume either, and its open asks notice that before an answer `nospace`.
use Rattle.std.specs.Prelude.{◌≡◌, ℕ, false, true, List, Some, find, ⊤}
use Rattle.st_base.specs.declared.ids.FileId.{FileId}
use Rattle.st_base.specs.declared.ids.PageNo.{PageNo}
use Rattle.st_base.specs.declared.ids.ServerId.{ServerId}
use Rattle.st_messages.specs.declared.answer.AppAnswer.TheVariants as answers
use Rattle.st_rules.specs.Extents.{free, is_mapped}
use Rattle.st_rules.specs.Safety.{Promise, Step}
use Rattle.st_rules.specs.Server.{ServerNode}
use Rattle.st_rules.specs.World.{World, node_of}
use Rattle.st_lemmas.specs.Lists.{Has}
use Rattle.st_laws_volume.specs.NoSpaceAnswers.{IsRefusedBlock}
use Rattle.st_laws_volume.specs.Options.{OnSome}
use Rattle.st_laws_volume.specs.StepKinds.{AtEachStepOf}
use Rattle.st_laws_volume.specs.Witness.{led_to}
use Rattle.st_volume.specs.declared.step.VolumeStep.{VolumeStep}
use Rattle.st_volume.specs.declared.step.VolumeStep.TheVariants as kinds
use Rattle.st_volume.specs.Volume.{Pending, Volume, is_ask, is_full}

-- a server that has no free block, and a page of it for which room is wanted and which it hasn't mapped
pub record LacksRoom (w : World) (v : Volume) (s : ServerId) : Type 0 where
  pub node : ServerNode
  pub there : node_of w s ≡ Some node
  pub full : free node.state.stable.extents ≡ 0
  pub file : FileId
  pub page : PageNo
  pub own : file.server ≡ s
  pub wanted : Has (file, page) v.claims
  pub unmapped : is_mapped node.state.stable.extents file page ≡ false

-- each such server is full in the volume
abbrev pub AreFull : World → Volume → Type 0
AreFull w v = (s : ServerId) → LacksRoom w v s → is_full v s ≡ true

-- Full servers have no room: as each event begins, if the volume has taken the steps of all events before it.
abbrev pub FullServersHaveNoRoom : Promise
FullServersHaveNoRoom past x = OnSome (AreFull x.before.world) (led_to past x).volume

-- The ask that is answered so has noticed that its server was full, as the server refused the request for its page.
pub record IsOfFull (past : List Step) (a : Pending) (left wanted : ℕ) : Type 0 where
  pub refused : IsRefusedBlock past a left wanted
  pub noticed : a.full ≡ true

abbrev pub IsFullNoticed : List Step → VolumeStep → Volume → Type 0
IsFullNoticed past (kinds.Answered c op (answers.NoSpace left wanted)) v =
    (a : Pending) → find (is_ask c op) v.pending ≡ Some a → IsOfFull past a left wanted
IsFullNoticed past it v = ⊤

-- Full servers are noticed: at each answer `nospace`, if the volume has taken all steps before it.
abbrev pub FullServersAreNoticed : Promise
FullServersAreNoticed past x = AtEachStepOf (IsFullNoticed past) past x
