-- One name that opens every definition of this crate, for rows that are computed.
use Rattle.std.specs.Prelude.{⊤}
use Rattle.st_rules.specs.Disks.{disks_open}
use Rattle.st_rules.specs.FlatLog.{flat_log_open}
use Rattle.st_rules.specs.Server.{server_open}
use Rattle.st_rules.specs.Client.{client_open}

-- opens every definition but the bytes of pages and patches
unfoldable pub rules_open : ⊤
unfolding disks_open flat_log_open server_open client_open
rules_open = tt
