-- Answers `nofile`: the server isn't there, or the file didn't exist at a moment since the ask came.
use Rattle.std.specs.Prelude.{◌≡◌, ◌⊎◌, ◌≤◌, ◌<◌, ℕ, true, false, List, None, Some, find, ⊤}
use Rattle.st_base.specs.declared.ids.ClientId.{ClientId}
use Rattle.st_base.specs.declared.ids.FileId.{FileId}
use Rattle.st_messages.specs.declared.answer.AppAnswer.TheVariants as answers
use Rattle.st_messages.specs.declared.message.Body.TheVariants as bodies
use Rattle.st_messages.specs.declared.message.Why.TheVariants as why
use Rattle.st_rules.specs.Names.{is_file}
use Rattle.st_rules.specs.Safety.{Promise, Step}
use Rattle.st_rules.specs.Server.{ServerNode}
use Rattle.st_rules.specs.World.{World, node_of}
use Rattle.st_lemmas.specs.Lists.{Has}
use Rattle.st_laws_names.specs.Keys.{ServedAt}
use Rattle.st_laws_volume.specs.Refusals.{asks_before}
use Rattle.st_laws_volume.specs.StepKinds.{AtEachStepOf}
use Rattle.st_volume.specs.declared.step.VolumeStep.{VolumeStep}
use Rattle.st_volume.specs.declared.step.VolumeStep.TheVariants as kinds
use Rattle.st_volume.specs.Volume.{Pending, Volume, file_of, is_ask, is_sync, server_of, tree_of}

-- An ask of a file that exists now came after its server refused a request of its client for the file, and had not given its inode yet.
pub record CameLater (past : List Step) (w : World) (f : FileId) (c : ClientId) (op : ℕ) : Type 0 where
  pub refused : Step
  pub among : Has refused past
  pub life_ : ℕ
  pub epoch_ : ℕ
  pub number_ : ℕ
  pub n : ℕ
  pub served : ServedAt refused c f.server life_ epoch_ number_ (bodies.Nack why.NoFile f.ino n)
  pub ungiven : served.serves.old.state.stable.names.next ≤ f.ino
  pub later : asks_before refused c < op
  pub node : ServerNode
  pub at : node_of w f.server ≡ Some node
  pub there : is_file node.state.stable.names f.ino ≡ true

-- The ask that is answered so has no result. If its server is there, it isn't a sync, and has noticed that its file didn't exist, or came so late.
pub record IsMissing (past : List Step) (w : World) (v : Volume) (a : Pending) : Type 0 where
  pub undone : a.result ≡ None
  pub missing :
      (tree_of v (server_of a.ask) ≡ None)
      ⊎ ((is_sync a.ask ≡ false) × ((a.missed ≡ true) ⊎ CameLater past w (file_of a.ask) a.client a.op))

abbrev pub IsNoFile : List Step → World → VolumeStep → Volume → Type 0
IsNoFile past w (kinds.Answered c op answers.NoFile) v = (a : Pending) → find (is_ask c op) v.pending ≡ Some a → IsMissing past w v a
IsNoFile past w it v = ⊤

-- Files are missing: at each answer `nofile`, if the volume has taken all steps before it.
abbrev pub FilesAreMissing : Promise
FilesAreMissing past x = AtEachStepOf (IsNoFile past x.before.world) past x
