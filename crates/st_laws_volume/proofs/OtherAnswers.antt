-- Every run is a run of the volume, if the volume takes the answers of six kinds: those of all others are proved.
use Rattle.std.proofs.Common.{◌≡◌, Bool, true, false, ◌||◌, List, [], ◌∷◌, ◌⊎◌, refl, inl, inr}
use Rattle.std.specs.Prelude.{is_some}
use Rattle.st_messages.specs.declared.answer.AppAnswer.TheVariants as answers
use Rattle.st_rules.specs.History.{Traced, traced}
use Rattle.st_rules.specs.Safety.{steps}
use Rattle.st_rules.specs.World.{fresh_world}
use Rattle.st_lemmas.proofs.Lookups.{or_cases}
use Rattle.st_promises.specs.Safe.{EveryRunIsSafe}
use Rattle.st_laws_pages.specs.Disks.Runs.{PagesAfter}
use Rattle.st_laws_volume.specs.AnswerKinds.{is_dirty_full_answer, is_disk_fault, is_lost_answer, is_no_file, is_no_space, is_not_holder, is_opsfull, is_quiesced, is_read_answer, is_too_many_locks, is_uncertain}
use Rattle.st_laws_volume.specs.Logs.{InEveryRun}
use Rattle.st_laws_volume.specs.OtherAnswers.{OtherAnswersAre, OtherAnswersAreEnough}
use Rattle.st_laws_volume.specs.ResultAnswers.{gives_result}
use Rattle.st_laws_volume.specs.StepKinds.{AreTaken, StepsAreTaken, is_answer, is_hard_answer, is_written}
use Rattle.st_laws_volume.specs.Witness.{led_to, steps_of}
use Rattle.st_laws_volume.proofs.AsksTaken.{asks_are_taken}
use Rattle.st_laws_volume.proofs.ChangeLines.{on_both}
use Rattle.st_laws_volume.proofs.CutLines.{lines_are_taken}
use Rattle.st_laws_volume.proofs.DiskFaults.{disk_faults_are_taken}
use Rattle.st_laws_volume.proofs.EffectsTaken.{effects_are_taken}
use Rattle.st_laws_volume.proofs.EntriesTold.{entries_are_told}
use Rattle.st_laws_volume.proofs.FailedWrites.{failed_writes_are_taken}
use Rattle.st_laws_volume.proofs.FatesTaken.{fates_are_taken}
use Rattle.st_laws_volume.proofs.FullAnswers.{opsfull_answers_are_taken}
use Rattle.st_laws_volume.proofs.HardAnswers.{hard_answers_are_taken}
use Rattle.st_laws_volume.proofs.Options.{on_more}
use Rattle.st_laws_volume.proofs.OwedHolds.{lost_answers_are_taken}
use Rattle.st_laws_volume.proofs.QuietAnswers.{quiesced_answers_are_taken}
use Rattle.st_laws_volume.proofs.ReadPages.{throughout_both, throughout_more}
use Rattle.st_laws_volume.proofs.StepKinds.{free_steps_are_taken, kinds_enough}
use Rattle.st_laws_volume.proofs.ToldResults.{results_are_told}
use Rattle.st_laws_volume.proofs.UncertainAnswers.{uncertain_answers_are_taken}
use Rattle.st_laws_volume.proofs.WrittenAnswers.{written_answers_are_taken}
use Rattle.st_volume.specs.declared.step.VolumeStep.{VolumeStep}
use Rattle.st_volume.specs.declared.step.VolumeStep.TheVariants as kinds
use Rattle.st_volume.specs.Volume as volume
use Rattle.st_volume.specs.Volume.{Volume}

-- Steps of one kind or another are taken, if those of each are.
abbrev either : (VolumeStep → Bool) → (VolumeStep → Bool) → VolumeStep → Bool
either p q it = p it || q it

both_taken : (p q : VolumeStep → Bool) (its : List VolumeStep) (v : Volume) → AreTaken p its v → AreTaken q its v → AreTaken (either p q) its v
unfolding AreTaken
both_taken p q [] v h k = tt
both_taken p q (it ∷ its) v h k = (
  λ e. one (or_cases (p it) (q it) e),
  on_more (λ u. AreTaken p its u × AreTaken q its u) (AreTaken (either p q) its) (λ u z. both_taken p q its u z.0 z.1) (volume.step v it)
      (on_both (AreTaken p its) (AreTaken q its) (volume.step v it) h.1 k.1),
)
  where
    one : (p it ≡ true) ⊎ (q it ≡ true) → is_some (volume.step v it) ≡ true
    one (inl e) = h.0 e
    one (inr e) = k.0 e

either_taken : (p q : VolumeStep → Bool) → InEveryRun (StepsAreTaken p) → InEveryRun (StepsAreTaken q) → InEveryRun (StepsAreTaken (either p q))
either_taken p q h k c clients servers disks blocks form es head events =
    let t : Traced = traced (fresh_world c clients servers disks blocks form) in
    throughout_more (λ past x. StepsAreTaken p past x × StepsAreTaken q past x) (StepsAreTaken (either p q))
    (λ past x z.
    on_more (λ v. AreTaken p (steps_of (led_to past x) v x) v × AreTaken q (steps_of (led_to past x) v x) v)
    (λ v. AreTaken (either p q) (steps_of (led_to past x) v x) v) (λ v y. both_taken p q (steps_of (led_to past x) v x) v y.0 y.1) (led_to past x).volume
    (on_both (λ v. AreTaken p (steps_of (led_to past x) v x) v) (λ v. AreTaken q (steps_of (led_to past x) v x) v) (led_to past x).volume z.0 z.1)) []
    (steps es t)
    (throughout_both (StepsAreTaken p) (StepsAreTaken q) [] (steps es t) (h c clients servers disks blocks form es head events)
    (k c clients servers disks blocks form es head events))

-- and so are those of a kind that is among them
fewer_taken : (p q : VolumeStep → Bool) → ((it : VolumeStep) → q it ≡ true → p it ≡ true) → (its : List VolumeStep) (v : Volume) → AreTaken p its v →
    AreTaken q its v
unfolding AreTaken
fewer_taken p q less [] v h = tt
fewer_taken p q less (it ∷ its) v h = (
  λ e. h.0 (less it e),
  on_more (AreTaken p its) (AreTaken q its) (λ u z. fewer_taken p q less its u z) (volume.step v it) h.1,
)

among_taken : (p q : VolumeStep → Bool) → ((it : VolumeStep) → q it ≡ true → p it ≡ true) → InEveryRun (StepsAreTaken p) → InEveryRun (StepsAreTaken q)
among_taken p q less h c clients servers disks blocks form es head events =
    throughout_more (StepsAreTaken p) (StepsAreTaken q)
    (λ past x z.
    on_more (λ v. AreTaken p (steps_of (led_to past x) v x) v) (λ v. AreTaken q (steps_of (led_to past x) v x) v)
    (λ v y. fewer_taken p q less (steps_of (led_to past x) v x) v y) (led_to past x).volume z) []
    (steps es (traced (fresh_world c clients servers disks blocks form))) (h c clients servers disks blocks form es head events)

-- All kinds of answers: those that are proved, and the others.
abbrev is_proved : VolumeStep → Bool
is_proved =
    either is_written (either gives_result (either is_hard_answer (either is_lost_answer
    (either is_quiesced (either is_disk_fault (either is_opsfull is_uncertain))))))

abbrev is_other : VolumeStep → Bool
is_other =
    either is_read_answer (either is_no_file (either is_no_space (either is_dirty_full_answer (either is_not_holder is_too_many_locks))))

either_kind : (it : VolumeStep) → is_answer it ≡ true → either is_proved is_other it ≡ true
either_kind (kinds.Answered c op answers.Written) e = refl
either_kind (kinds.Answered c op (answers.Read bytes)) e = refl
either_kind (kinds.Answered c op answers.Hard) e = refl
either_kind (kinds.Answered c op answers.Cut) e = refl
either_kind (kinds.Answered c op (answers.Named ino)) e = refl
either_kind (kinds.Answered c op (answers.Listed rows)) e = refl
either_kind (kinds.Answered c op (answers.Refused code)) e = refl
either_kind (kinds.Answered c op answers.Quiesced) e = refl
either_kind (kinds.Answered c op answers.NoFile) e = refl
either_kind (kinds.Answered c op (answers.NoSpace free wanted)) e = refl
either_kind (kinds.Answered c op (answers.DiskFault number)) e = refl
either_kind (kinds.Answered c op answers.OpsFull) e = refl
either_kind (kinds.Answered c op (answers.Uncertain old new)) e = refl
either_kind (kinds.Answered c op (answers.Lost rows)) e = refl
either_kind (kinds.Answered c op answers.DirtyFull) e = refl
either_kind (kinds.Answered c op answers.NotHolder) e = refl
either_kind (kinds.Answered c op answers.TooManyLocks) e = refl
either_kind (kinds.Asked c ask) e = cc e
either_kind (kinds.TakesEffect c op) e = cc e
either_kind (kinds.Joined i c what) e = cc e
either_kind (kinds.Hardened i) e = cc e
either_kind (kinds.Dropped i cause) e = cc e
either_kind (kinds.Crashed c) e = cc e
either_kind (kinds.Restarted s) e = cc e
either_kind (kinds.WriteFailed c number i) e = cc e
either_kind (kinds.ReadFailed c s number) e = cc e

proved_are_taken : EveryRunIsSafe → InEveryRun PagesAfter → InEveryRun (StepsAreTaken is_proved)
proved_are_taken safe pages =
    either_taken is_written _ (written_answers_are_taken safe)
    (either_taken gives_result _ results_are_told
    (either_taken is_hard_answer _ (hard_answers_are_taken safe pages)
    (either_taken is_lost_answer _ (lost_answers_are_taken safe pages)
    (either_taken is_quiesced _ (quiesced_answers_are_taken safe pages)
    (either_taken is_disk_fault _ (disk_faults_are_taken safe pages)
    (either_taken is_opsfull is_uncertain (opsfull_answers_are_taken safe) (uncertain_answers_are_taken safe)))))))

others_are_taken : OtherAnswersAre (λ which. InEveryRun (StepsAreTaken which)) → InEveryRun (StepsAreTaken is_other)
others_are_taken h =
    either_taken is_read_answer _ h.reads
    (either_taken is_no_file _ h.missing
    (either_taken is_no_space _ h.roomless
    (either_taken is_dirty_full_answer _ h.full (either_taken is_not_holder is_too_many_locks h.unheld h.locked))))

-- In every run.
pub other_answers_are_enough : EveryRunIsSafe → InEveryRun PagesAfter → OtherAnswersAreEnough
other_answers_are_enough safe pages h k clients servers disks blocks form es head events =
    kinds_enough (fresh_world k clients servers disks blocks form) es
    (record {
      asks = asks_are_taken safe k clients servers disks blocks form es head events;
      effects = effects_are_taken safe k clients servers disks blocks form es head events;
      lines = lines_are_taken safe pages k clients servers disks blocks form es head events;
      answers =
          among_taken (either is_proved is_other) is_answer either_kind
          (either_taken is_proved is_other (proved_are_taken safe pages) (others_are_taken h)) k clients servers disks blocks form es head events;
      fates = fates_are_taken safe pages k clients servers disks blocks form es head events;
      failures = failed_writes_are_taken safe pages k clients servers disks blocks form es head events;
      free = free_steps_are_taken safe k clients servers disks blocks form es head events;
    })
    (entries_are_told safe k clients servers disks blocks form es head events)
