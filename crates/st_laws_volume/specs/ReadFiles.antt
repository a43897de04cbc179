-- What a client finds as it answers a read: the file exists, and what is pending of the file is its own. So it is in the volume.
use Rattle.std.specs.Prelude.{◌≡◌, Bool, true, false, ◌==◌, List, Some, find, ⊤}
use Rattle.std.specs.List.{list_all}
use Rattle.st_base.specs.declared.ids.ClientId.{ClientId}
use Rattle.st_base.specs.declared.ids.FileId.{FileId}
use Rattle.st_base.specs.declared.ids.PageNo.{PageNo}
use Rattle.st_messages.specs.declared.answer.AppAnswer.TheVariants as answers
use Rattle.st_messages.specs.declared.ask.Ask.TheVariants as asks
use Rattle.st_rules.specs.declared.observation.Observation.{Observation}
use Rattle.st_rules.specs.declared.observation.Observation.TheVariants as seen
use Rattle.st_rules.specs.Safety.{Promise, Step, ask_of}
use Rattle.st_lemmas.specs.Lists.{Has}
use Rattle.st_laws_volume.specs.Effects.{FindsFile}
use Rattle.st_laws_volume.specs.StepKinds.{AtEachStepOf}
use Rattle.st_volume.specs.declared.step.VolumeStep.{VolumeStep}
use Rattle.st_volume.specs.declared.step.VolumeStep.TheVariants as kinds
use Rattle.st_volume.specs.Volume.{Pending, Volume, is_ask, is_free}

-- a line that changes nothing of the log but for writes and patches of this client
abbrev pub is_line_of : ClientId → Observation → Bool
is_line_of c (seen.Wrote i d f p bytes) = d.0 == c.0
is_line_of c (seen.Patched i d f p at bytes) = d.0 == c.0
is_line_of c (seen.CutAt i f p) = false
is_line_of c (seen.Hardened i) = false
is_line_of c (seen.Dropped i cause) = false
is_line_of c o = true

-- The client finds the file in the world before the event; and in the event it alone changes the log.
pub record FindsRead (x : Step) (c : ClientId) (f : FileId) : Type 0 where
  pub finds : FindsFile x.before.world c f
  pub alone : list_all (is_line_of c) x.seen ≡ true

abbrev pub ReadFinds : List Step → Step → Observation → Type 0
ReadFinds past x (seen.Answered c op (answers.Read bytes)) = (f : FileId) (p : PageNo) → ask_of past x c op ≡ Some (asks.Read f p) → FindsRead x c f
ReadFinds past x o = ⊤

-- Reads are of files: each read that an event answers.
abbrev pub ReadsAreOfFiles : Promise
ReadsAreOfFiles past x = (o : Observation) → Has o x.seen → ReadFinds past x o

-- The file of a page that is answered exists in the volume, and no other client has open entries of it.
abbrev pub IsOfFree : VolumeStep → Volume → Type 0
IsOfFree (kinds.Answered c op (answers.Read bytes)) v =
    (a : Pending) → find (is_ask c op) v.pending ≡ Some a → (f : FileId) (p : PageNo) → a.ask ≡ asks.Read f p → is_free v a.client f ≡ true
IsOfFree it v = ⊤

-- Reads find their files: at each such answer, if the volume has taken all steps before it.
abbrev pub ReadsFindTheirFiles : Promise
ReadsFindTheirFiles = AtEachStepOf IsOfFree
