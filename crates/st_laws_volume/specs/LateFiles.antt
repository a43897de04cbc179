-- Answers `nofile` to asks that came after a server had refused a request for their file.
use Rattle.std.specs.Prelude.{◌≡◌, true, List, Some, find, ⊤}
use Rattle.st_messages.specs.declared.answer.AppAnswer.TheVariants as answers
use Rattle.st_rules.specs.Safety.{Promise, Step}
use Rattle.st_rules.specs.World.{World}
use Rattle.st_laws_volume.specs.NoFileAnswers.{CameLater}
use Rattle.st_laws_volume.specs.StepKinds.{AtEachStepOf}
use Rattle.st_volume.specs.declared.step.VolumeStep.{VolumeStep}
use Rattle.st_volume.specs.declared.step.VolumeStep.TheVariants as kinds
use Rattle.st_volume.specs.Volume.{Pending, Volume, file_of, is_ask}

-- An ask that came after a server had refused a request for its file has noticed that its file didn't exist, as it is answered `nofile`.
abbrev pub IsOfLateFile : List Step → World → VolumeStep → Volume → Type 0
IsOfLateFile past w (kinds.Answered c op answers.NoFile) v =
    (a : Pending) → find (is_ask c op) v.pending ≡ Some a → CameLater past w (file_of a.ask) a.client a.op → a.missed ≡ true
IsOfLateFile past w it v = ⊤

-- Late files are missed: at each answer `nofile`, if the volume has taken all steps before it.
abbrev pub LateFilesAreMissed : Promise
LateFilesAreMissed past x = AtEachStepOf (IsOfLateFile past x.before.world) past x
