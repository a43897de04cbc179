-- A server that was opened, before the change that begins its epoch waits.
use Rattle.std.specs.Prelude.{ℕ, List, []}
use Rattle.st_base.specs.declared.ids.Stamp.{Stamp}
use Rattle.st_durable.specs.Durable.{DurableServer}
use Rattle.st_held_steps.specs.Held.{Held}
use Rattle.st_kept_histories.specs.Kept.{KeptServer}
use Rattle.st_kept_histories.specs.declared.stage.Stage.TheVariants.{Rest}
use Rattle.st_kept_journal.specs.Keeping.{Keeping}
use Rattle.st_messages.specs.declared.output.Output.{Output}

-- no step was taken
abbrev pub no_steps : ℕ → Held (List Output)
no_steps limit = record { steps = []; made = 0; kept = 0; limit = limit }

-- nothing waits, and nothing is under way
abbrev pub begun_with : DurableServer → Keeping → Stamp → ℕ → KeptServer
begun_with d j now limit =
    record { server = d; journal = j; steps = no_steps limit; stage = Rest; covered = 0; moment = now.0; last = now.0 }
