-- What always holds of a server whose changes are kept in groups.
use Rattle.std.specs.Prelude.{◌≡◌, true, List}
use Rattle.std.specs.List.{AllByRecursion, list_all}
use Rattle.st_held_steps.specs.declared.held.Marked.{Marked}
use Rattle.st_kept_histories.specs.Kept.{IsStaged}
use Rattle.st_kept_histories.specs.declared.stage.Stage.{Stage}
use Rattle.st_kept_journal.specs.declared.task.Task.{Task}
use Rattle.st_messages.specs.declared.output.Output.{Output}
use Rattle.st_server.specs.Invariants.{is_sent}

-- the messages that a step gave can be spelled
abbrev pub IsSent : Marked (List Output) → Type 0
IsSent m = list_all is_sent m.what ≡ true

-- Something is under way exactly while a write or a sync is due; and all messages that steps gave can be spelled.
pub record IsWhole (stage : Stage) (task : Task) (steps : List (Marked (List Output))) : Type 0 where
  pub staged : IsStaged stage task
  pub sent : AllByRecursion IsSent steps
