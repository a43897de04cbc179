-- Every run of the world is a run of the volume, since the volume takes the answers of all kinds.
use Rattle.st_laws_extents.proofs.EveryRun.Law.{pages}
use Rattle.st_laws_safe.proofs.Gathered as safe
use Rattle.st_laws_volume.specs.VolumeRuns.{EveryRunIsARunOfTheVolume}
use Rattle.st_laws_volume.proofs.DirtyFullAnswers.{dirty_full_answers_are_taken}
use Rattle.st_laws_volume.proofs.LeftAnswers.{no_file_is_taken, no_space_is_taken, reads_are_taken}
use Rattle.st_laws_volume.proofs.OtherAnswers.{other_answers_are_enough}
use Rattle.st_laws_volume.proofs.TooManyLocks.{too_many_answers_are_taken}
use Rattle.st_laws_volume.proofs.UnheldAnswers.{not_holder_answers_are_taken}
use Rattle.st_laws_volume.proofs.VolumeRuns.{runs_are_of_the_volume}

pub every_run : EveryRunIsARunOfTheVolume
every_run =
    runs_are_of_the_volume
    (other_answers_are_enough safe.every_run pages
    (record {
      reads = reads_are_taken safe.every_run;
      missing = no_file_is_taken safe.every_run;
      roomless = no_space_is_taken safe.every_run pages;
      full = dirty_full_answers_are_taken safe.every_run pages;
      unheld = not_holder_answers_are_taken safe.every_run;
      locked = too_many_answers_are_taken safe.every_run;
    }))
