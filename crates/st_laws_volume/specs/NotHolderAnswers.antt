-- Answers `notholder`: a server refused a cut or a remove, since its client didn't hold the file under the grant that it named.
use Rattle.std.specs.Prelude.{◌≡◌, ℕ, false, List, Some, None, Ok, find, ⊤}
use Rattle.st_base.specs.declared.ids.ClientId.{ClientId}
use Rattle.st_base.specs.declared.ids.ServerId.{ServerId}
use Rattle.st_base.specs.declared.mode.Mode.TheVariants as modes
use Rattle.st_messages.specs.declared.answer.AppAnswer.TheVariants as answers
use Rattle.st_messages.specs.declared.message.Body.{Body}
use Rattle.st_messages.specs.declared.message.Body.TheVariants as bodies
use Rattle.st_messages.specs.declared.message.Header.{Header}
use Rattle.st_messages.specs.declared.message.NameOp.TheVariants as ops
use Rattle.st_messages.specs.declared.message.Why.TheVariants as why
use Rattle.st_rules.specs.Names.{lookup}
use Rattle.st_rules.specs.Safety.{Promise, Step}
use Rattle.st_rules.specs.Server.{ServerTurn, holds}
use Rattle.st_lemmas.specs.Lists.{Has}
use Rattle.st_laws_names.specs.Keys.{ServedAt, behind_thefts}
use Rattle.st_laws_volume.specs.StepKinds.{AtEachStepOf}
use Rattle.st_volume.specs.declared.step.VolumeStep.{VolumeStep}
use Rattle.st_volume.specs.declared.step.VolumeStep.TheVariants as kinds
use Rattle.st_volume.specs.Volume.{Pending, Volume, is_ask, server_of}

-- Under the grant that a request names, its client doesn't hold the file to cut, or the one that has the name to remove.
abbrev pub IsUnheld : ServerTurn → Header → Body → Type 0
IsUnheld t h (bodies.Cut ino g p) = holds t h ino g modes.X ≡ false
IsUnheld t h (bodies.Name (ops.Remove dir name g)) =
    (ino : ℕ) × (lookup t.state.stable.names dir name ≡ Ok ino) × (holds t h ino g modes.X ≡ false)
IsUnheld t h body = ⊥

-- In one of these steps, this server refused such a request of this client.
pub record WasUnheld (past : List Step) (c : ClientId) (s : ServerId) : Type 0 where
  pub refused : Step
  pub among : Has refused past
  pub life_ : ℕ
  pub epoch_ : ℕ
  pub number_ : ℕ
  pub file : ℕ
  pub n : ℕ
  pub served : ServedAt refused c s life_ epoch_ number_ (bodies.Nack why.NotHolder file n)
  pub unheld :
      IsUnheld (behind_thefts refused.before.world s served.serves.old.state) served.sent.message.header served.sent.message.body

-- The ask that is answered so has no result, and its server refused such a request.
pub record IsOfUnheld (past : List Step) (a : Pending) : Type 0 where
  pub undone : a.result ≡ None
  pub unheld : WasUnheld past a.client (server_of a.ask)

abbrev pub IsNotHolder : List Step → VolumeStep → Volume → Type 0
IsNotHolder past (kinds.Answered c op answers.NotHolder) v = (a : Pending) → find (is_ask c op) v.pending ≡ Some a → IsOfUnheld past a
IsNotHolder past it v = ⊤

-- Locks were missing: at each answer `notholder`, if the volume has taken all steps before it.
abbrev pub LocksWereMissing : Promise
LocksWereMissing past x = AtEachStepOf (IsNotHolder past) past x
