-- Kinds of answers: the steps of the volume that give them.
use Rattle.std.specs.Prelude.{◌≡◌, Bool, true, false, ◌&&◌, ◌||◌, not, nat_le, nat_lt, List, None, Some, find, is_some, length, ⊤}
use Rattle.std.specs.List.{list_any}
use Rattle.st_base.specs.declared.rows.LostRow.{LostRow}
use Rattle.st_messages.specs.declared.answer.AppAnswer.TheVariants as answers
use Rattle.st_rules.specs.Safety.{Promise}
use Rattle.st_laws_volume.specs.ResultAnswers.{tells_result}
use Rattle.st_laws_volume.specs.Results.{may_have_result}
use Rattle.st_laws_volume.specs.StepKinds.{AtEachStepOf}
use Rattle.st_volume.specs.declared.step.VolumeStep.{VolumeStep}
use Rattle.st_volume.specs.declared.step.VolumeStep.TheVariants as kinds
use Rattle.st_volume.specs.Volume.{Pending, Volume, are_rising, file_of, is_ask, is_left, is_sync}

-- more asks of the client are open than may be
abbrev pub is_opsfull : VolumeStep → Bool
is_opsfull (kinds.Answered c op answers.OpsFull) = true
is_opsfull it = false

-- it is not known whether the ask takes effect
abbrev pub is_uncertain : VolumeStep → Bool
is_uncertain (kinds.Answered c op (answers.Uncertain old new)) = true
is_uncertain it = false

-- nothing more is done for the ask before the lease is over
abbrev pub is_quiesced : VolumeStep → Bool
is_quiesced (kinds.Answered c op answers.Quiesced) = true
is_quiesced it = false

-- a command of the client failed
abbrev pub is_disk_fault : VolumeStep → Bool
is_disk_fault (kinds.Answered c op (answers.DiskFault number)) = true
is_disk_fault it = false

-- the client is told which of its pages were lost
abbrev pub is_lost_answer : VolumeStep → Bool
is_lost_answer (kinds.Answered c op (answers.Lost rows)) = true
is_lost_answer it = false

-- a page is read
abbrev pub is_read_answer : VolumeStep → Bool
is_read_answer (kinds.Answered c op (answers.Read bytes)) = true
is_read_answer it = false

-- the file isn't there, or its server isn't
abbrev pub is_no_file : VolumeStep → Bool
is_no_file (kinds.Answered c op answers.NoFile) = true
is_no_file it = false

-- the server has no room for the page
abbrev pub is_no_space : VolumeStep → Bool
is_no_space (kinds.Answered c op (answers.NoSpace free wanted)) = true
is_no_space it = false

-- the client may have no more dirty pages
abbrev pub is_dirty_full_answer : VolumeStep → Bool
is_dirty_full_answer (kinds.Answered c op answers.DirtyFull) = true
is_dirty_full_answer it = false

-- the client doesn't hold the file
abbrev pub is_not_holder : VolumeStep → Bool
is_not_holder (kinds.Answered c op answers.NotHolder) = true
is_not_holder it = false

-- the client may have no more locks
abbrev pub is_too_many_locks : VolumeStep → Bool
is_too_many_locks (kinds.Answered c op answers.TooManyLocks) = true
is_too_many_locks it = false

-- Answers follow lines: at each answer each entry has had its line, if the volume has taken all steps before it.
abbrev pub IsAfterLines : VolumeStep → Volume → Type 0
IsAfterLines (kinds.Answered c op answer) v = v.lines ≡ length v.log
IsAfterLines it v = ⊤

abbrev pub AnswersFollowLines : Promise
AnswersFollowLines = AtEachStepOf IsAfterLines

-- An answer other than `written` goes to a cut, to an ask for a name, or to an ask that has no result.
abbrev pub ResultFits : VolumeStep → Volume → Type 0
ResultFits (kinds.Answered c op answers.Written) v = ⊤
ResultFits (kinds.Answered c op answer) v = (a : Pending) → find (is_ask c op) v.pending ≡ Some a → may_have_result a ≡ true
ResultFits it v = ⊤

-- Files are answered without results: at each answer, if the volume has taken all steps before it.
abbrev pub FilesAreAnsweredWithoutResults : Promise
FilesAreAnsweredWithoutResults = AtEachStepOf ResultFits

-- An answer that tells no result goes to an ask that has none, unless it is `uncertain`; `written` is told just after the effect.
abbrev pub IsOfUndone : VolumeStep → Volume → Type 0
IsOfUndone (kinds.Answered c op answers.Written) v = ⊤
IsOfUndone (kinds.Answered c op (answers.Uncertain old new)) v = ⊤
IsOfUndone (kinds.Answered c op answer) v = tells_result answer ≡ false → (a : Pending) → find (is_ask c op) v.pending ≡ Some a → a.result ≡ None
IsOfUndone it v = ⊤

-- Results are answered: at each answer, if the volume has taken all steps before it.
abbrev pub ResultsAreAnswered : Promise
ResultsAreAnswered = AtEachStepOf IsOfUndone

-- A sync that has no result is answered `lost` with at least one row; the rows rise by page; and unless they are 1,024, no dropped entry of the file is left of
-- which the client was not told.
abbrev pub is_told_whole : Volume → Pending → List LostRow → Bool
is_told_whole v a rows =
    (is_sync a.ask && not (is_some a.result))
    && ((nat_lt 0 (length rows) && are_rising rows) && (nat_le 1024 (length rows) || not (list_any (is_left a.client (file_of a.ask) rows) v.log)))

abbrev pub LossIsToldWhole : VolumeStep → Volume → Type 0
LossIsToldWhole (kinds.Answered c op (answers.Lost rows)) v = (a : Pending) → find (is_ask c op) v.pending ≡ Some a → is_told_whole v a rows ≡ true
LossIsToldWhole it v = ⊤

-- Losses are told whole: at each answer, if the volume has taken all steps before it.
abbrev pub LossesAreToldWhole : Promise
LossesAreToldWhole = AtEachStepOf LossIsToldWhole
