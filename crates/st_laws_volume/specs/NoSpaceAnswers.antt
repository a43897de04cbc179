-- Answers `nospace`: a server had no free block for a page.
use Rattle.std.specs.Prelude.{◌≡◌, ℕ, List, None, Some, find, ⊤}
use Rattle.st_base.specs.declared.ids.ClientId.{ClientId}
use Rattle.st_base.specs.declared.ids.FileId.{FileId}
use Rattle.st_base.specs.declared.ids.GrantNo.{GrantNo}
use Rattle.st_base.specs.declared.ids.PageNo.{PageNo}
use Rattle.st_messages.specs.declared.answer.AppAnswer.TheVariants as answers
use Rattle.st_messages.specs.declared.message.Body.TheVariants as bodies
use Rattle.st_messages.specs.declared.message.Why.TheVariants as why
use Rattle.st_rules.specs.Extents.{free}
use Rattle.st_rules.specs.Safety.{Promise, Step}
use Rattle.st_lemmas.specs.Lists.{Has}
use Rattle.st_laws_names.specs.Keys.{ServedAt}
use Rattle.st_laws_volume.specs.StepKinds.{AtEachStepOf}
use Rattle.st_volume.specs.declared.step.VolumeStep.{VolumeStep}
use Rattle.st_volume.specs.declared.step.VolumeStep.TheVariants as kinds
use Rattle.st_volume.specs.Pages.{place_of}
use Rattle.st_volume.specs.Volume.{Pending, Volume, is_ask}

-- In one of these steps, a server refused a request of this client to map this page, since it had no free block.
pub record WasFull (past : List Step) (c : ClientId) (f : FileId) (p : PageNo) (left wanted : ℕ) : Type 0 where
  pub refused : Step
  pub among : Has refused past
  pub life_ : ℕ
  pub epoch_ : ℕ
  pub number_ : ℕ
  pub g : GrantNo
  pub served : ServedAt refused c f.server life_ epoch_ number_ (bodies.Nack why.NoSpace left wanted)
  pub asks : served.sent.message.body ≡ bodies.Allocate f.ino g p 1
  pub full : free served.serves.old.state.stable.extents ≡ 0

-- The ask that is answered so is a write or a patch without a result. Its page was refused so, and one block was wanted.
pub record IsRefusedBlock (past : List Step) (a : Pending) (left wanted : ℕ) : Type 0 where
  pub undone : a.result ≡ None
  pub none : left ≡ 0
  pub one : wanted ≡ 1
  pub file : FileId
  pub page : PageNo
  pub place : place_of a.ask ≡ Some (file, page)
  pub full : WasFull past a.client file page left wanted

abbrev pub IsNoSpace : List Step → VolumeStep → Volume → Type 0
IsNoSpace past (kinds.Answered c op (answers.NoSpace left wanted)) v =
    (a : Pending) → find (is_ask c op) v.pending ≡ Some a → IsRefusedBlock past a left wanted
IsNoSpace past it v = ⊤

-- Servers were full: at each answer `nospace`, if the volume has taken all steps before it.
abbrev pub ServersWereFull : Promise
ServersWereFull past x = AtEachStepOf (IsNoSpace past) past x
