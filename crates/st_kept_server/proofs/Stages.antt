-- What is under way at each stage.
use Rattle.st_lemmas.proofs.Words
use Words.{◌≡◌}
use Rattle.st_kept_histories.specs.Kept.{IsStaged}
use Rattle.st_kept_histories.specs.declared.stage.Stage.TheVariants.{Rest}
use Rattle.st_kept_journal.specs.declared.task.Task.{Task}
use Rattle.st_kept_journal.specs.declared.task.Task.TheVariants as tasks

pub at_rest : (t : Task) → t ≡ tasks.Rest → IsStaged Rest t
at_rest tasks.Rest e = tt
at_rest (tasks.Group count) e = absurd cc
at_rest (tasks.Switch count gate) e = absurd cc
