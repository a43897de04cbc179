-- Syncs of files that are hard: without a dirty page, and without an outstanding write.
use Rattle.std.specs.Prelude.{Bool, false, ◌&&◌}
use Rattle.st_base.specs.declared.ids.ServerId.{ServerId}
use Rattle.st_messages.specs.declared.ask.Ask.{Ask}
use Rattle.st_messages.specs.declared.ask.Ask.TheVariants as asks
use Rattle.st_rules.specs.declared.client.Operation.{Operation}
use Rattle.st_rules.specs.ClientPages.{Store, is_hard}
use Rattle.st_rules.specs.ClientState.{is_of}

-- the ask is a sync, and its file is hard
abbrev pub is_hard_sync : Store → Ask → Bool
is_hard_sync st (asks.Sync f) = is_hard st f.ino
is_hard_sync st ask = false

-- an operation of this server that is such a sync
abbrev pub is_hard_sync_of : ServerId → Store → Operation → Bool
is_hard_sync_of s st o = is_of s o && is_hard_sync st o.ask
