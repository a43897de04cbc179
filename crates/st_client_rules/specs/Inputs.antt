-- A session of which only the epoch is known; the file of a sync.
use Rattle.std.specs.Prelude.{Option, Some, None}
use Rattle.st_base.specs.declared.ids.Epoch.{Epoch}
use Rattle.st_base.specs.declared.ids.FileId.{FileId}
use Rattle.st_messages.specs.declared.ask.Ask.{Ask}
use Rattle.st_messages.specs.declared.ask.Ask.TheVariants as asks
use Rattle.st_rules.specs.ClientReplies.{new_session}
use Rattle.st_rules.specs.ClientState.{ClientSession}

-- a session in this epoch
abbrev pub session_in : Epoch → ClientSession
session_in epoch = new_session epoch (record { 0 = 0 })

-- the file of a sync
abbrev pub synced : Ask → Option FileId
synced (asks.Sync f) = Some f
synced ask = None
