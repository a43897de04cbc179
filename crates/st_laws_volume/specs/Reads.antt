-- What pages contain in the volume is what they contain in the world, and what reads are answered.
use Rattle.std.specs.Prelude.{◌≡◌, ℕ, List, find, length, ⊤}
use Rattle.st_base.specs.declared.ids.FileId.{FileId}
use Rattle.st_base.specs.declared.ids.PageNo.{PageNo}
use Rattle.st_messages.specs.declared.answer.AppAnswer.TheVariants as answers
use Rattle.st_messages.specs.declared.ask.Ask.{Ask}
use Rattle.st_messages.specs.declared.ask.Ask.TheVariants as asks
use Rattle.st_rules.specs.declared.log.LogEntry.{LogEntry}
use Rattle.st_rules.specs.FlatLog as log
use Rattle.st_rules.specs.Safety.{Promise}
use Rattle.st_laws_volume.specs.Options.{OnSome}
use Rattle.st_laws_volume.specs.StepKinds.{AtEachStepOf}
use Rattle.st_laws_volume.specs.Witness.{led_by, led_to}
use Rattle.st_volume.specs.declared.step.VolumeStep.{VolumeStep}
use Rattle.st_volume.specs.declared.step.VolumeStep.TheVariants as kinds
use Rattle.st_volume.specs.Pages.{content}
use Rattle.st_volume.specs.Volume.{Volume, is_ask}

-- each page of each file has the same bytes
abbrev pub HasPagesOf : List LogEntry → Volume → Type 0
HasPagesOf os v = (f : FileId) (p : PageNo) → content v.log (f, p) ≡ log.content os f p

-- The pages agree: after every event, if the volume has taken the steps of all events so far.
abbrev pub PagesAgree : Promise
PagesAgree past x = OnSome (HasPagesOf x.after.world.log) (led_by (led_to past x) x).volume

-- the bytes of an ask's page
abbrev pub HasBytes : List ℕ → Volume → Ask → Type 0
HasBytes bytes v (asks.Read f p) = bytes ≡ content v.log (f, p)
HasBytes bytes v ask = ⊥

-- a read is answered with the bytes of its page, if each entry has had its line
abbrev pub IsRightRead : VolumeStep → Volume → Type 0
IsRightRead (kinds.Answered c op (answers.Read bytes)) v =
    v.lines ≡ length v.log → OnSome (λ a. HasBytes bytes v a.ask) (find (is_ask c op) v.pending)
IsRightRead it v = ⊤

-- Reads give the bytes that their pages contain in the volume.
abbrev pub ReadsGiveThePages : Promise
ReadsGiveThePages = AtEachStepOf IsRightRead
