-- One name that opens every definition of this crate, for rows that are computed.
use Rattle.std.specs.Prelude.{⊤}
use Rattle.st_third.specs.Messages.{messages_open}
use Rattle.st_third.specs.Run.{third_run_open}
use Rattle.st_third.specs.Steps.{third_steps_open}
use Rattle.st_third.specs.Promises.{third_promises_open}

-- opens every definition
unfoldable pub third_open : ⊤
unfolding messages_open third_run_open third_steps_open third_promises_open
third_open = tt
