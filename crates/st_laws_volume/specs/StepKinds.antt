-- The law that every run is a run of the volume, in parts: one for each kind of step.
use Rattle.std.specs.Prelude.{◌≡◌, Bool, true, false, List, [], ◌∷◌, Some, length, find, is_some, ⊤}
use Rattle.st_messages.specs.declared.answer.AppAnswer.TheVariants as answers
use Rattle.st_messages.specs.declared.event.Event.{Event}
use Rattle.st_rules.specs.History.{traced}
use Rattle.st_rules.specs.Safety.{Promise, Throughout, steps}
use Rattle.st_rules.specs.World.{World}
use Rattle.st_laws_volume.specs.Options.{OnSome}
use Rattle.st_laws_volume.specs.Witness.{Accepted, led_to, steps_of}
use Rattle.st_volume.specs.declared.step.VolumeStep.{VolumeStep}
use Rattle.st_volume.specs.declared.step.VolumeStep.TheVariants as kinds
use Rattle.st_volume.specs.Volume as volume
use Rattle.st_volume.specs.Volume.{Volume, run, step}

-- the volume takes those steps that pass a test, if it has taken all before them
unfoldable pub AreTaken : (VolumeStep → Bool) → List VolumeStep → Volume → Type 0
AreTaken which [] v = ⊤
AreTaken which (it ∷ rest) v =
    (which it ≡ true → is_some (step v it) ≡ true) × OnSome (AreTaken which rest) (step v it)

-- at each event, if the volume has taken the steps of all events before it
abbrev pub StepsAreTaken : (VolumeStep → Bool) → Promise
StepsAreTaken which past x =
    OnSome (λ v. AreTaken which (steps_of (led_to past x) v x) v) (led_to past x).volume

-- each entry that joins the log has its line in that event
abbrev pub EntriesAreTold : Promise
EntriesAreTold past x =
    OnSome (λ v. OnSome (λ u. u.lines ≡ length u.log) (run (steps_of (led_to past x) v x) v))
    (led_to past x).volume

-- a fact of each of these steps and the volume before it, if the volume has taken those before it
unfoldable pub AtEachStep : (VolumeStep → Volume → Type 0) → List VolumeStep → Volume → Type 0
AtEachStep fact [] v = ⊤
AtEachStep fact (it ∷ rest) v = fact it v × OnSome (AtEachStep fact rest) (step v it)

-- at each event, if the volume has taken the steps of all events before it
abbrev pub AtEachStepOf : (VolumeStep → Volume → Type 0) → Promise
AtEachStepOf fact past x =
    OnSome (λ v. AtEachStep fact (steps_of (led_to past x) v x) v) (led_to past x).volume

-- Answers are to open asks.
abbrev pub IsOpenAt : VolumeStep → Volume → Type 0
IsOpenAt (kinds.Answered c op answer) v = is_some (find (volume.is_ask c op) v.pending) ≡ true
IsOpenAt it v = ⊤

abbrev pub AnswersAreToOpenAsks : Promise
AnswersAreToOpenAsks = AtEachStepOf IsOpenAt

-- Kinds of steps.
abbrev pub is_ask : VolumeStep → Bool
is_ask (kinds.Asked c ask) = true
is_ask it = false

abbrev pub is_effect : VolumeStep → Bool
is_effect (kinds.TakesEffect c op) = true
is_effect it = false

abbrev pub is_line : VolumeStep → Bool
is_line (kinds.Joined i c what) = true
is_line it = false

-- the line of a write or a patch; and that of a cut, which tells no client
abbrev pub is_change_line : VolumeStep → Bool
is_change_line (kinds.Joined i (Some c) what) = true
is_change_line it = false

abbrev pub is_answer : VolumeStep → Bool
is_answer (kinds.Answered c op answer) = true
is_answer it = false

-- the answer that a write or a patch took effect
abbrev pub is_written : VolumeStep → Bool
is_written (kinds.Answered c op answers.Written) = true
is_written it = false

-- the answer that a sync's file is hard
abbrev pub is_hard_answer : VolumeStep → Bool
is_hard_answer (kinds.Answered c op answers.Hard) = true
is_hard_answer it = false

-- what becomes of an entry
abbrev pub is_fate : VolumeStep → Bool
is_fate (kinds.Hardened i) = true
is_fate (kinds.Dropped i cause) = true
is_fate it = false

abbrev pub is_failed_write : VolumeStep → Bool
is_failed_write (kinds.WriteFailed c number i) = true
is_failed_write it = false

-- a crash, a start, and a failed read are taken at any time
abbrev pub is_free : VolumeStep → Bool
is_free (kinds.Crashed c) = true
is_free (kinds.Restarted s) = true
is_free (kinds.ReadFailed c s number) = true
is_free it = false

pub record AllKindsAre (promise : (VolumeStep → Bool) → Type 0) : Type 0 where
  pub asks : promise is_ask
  pub effects : promise is_effect
  pub lines : promise is_line
  pub answers : promise is_answer
  pub fates : promise is_fate
  pub failures : promise is_failed_write
  pub free : promise is_free

-- Enough: a run is accepted if the steps of each kind are taken, and entries have their lines.
abbrev pub IsEnough : World → List Event → Type 0
IsEnough w es =
    AllKindsAre (λ which. Throughout (StepsAreTaken which) [] (steps es (traced w)))
    → Throughout EntriesAreTold [] (steps es (traced w))
    → Throughout Accepted [] (steps es (traced w))

abbrev pub KindsAreEnough : Type 0
KindsAreEnough = (w : World) (es : List Event) → IsEnough w es
