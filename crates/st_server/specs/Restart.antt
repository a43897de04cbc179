-- A server from what outlived its crash.
use Rattle.std.specs.Prelude.{◌≡◌, ◌≤◌, ◌<◌, ◌^◌, false}
use Rattle.st_base.specs.declared.config.Config.{Config}
use Rattle.st_base.specs.declared.ids.ServerId.{ServerId}
use Rattle.st_rules.specs.Authority as authority
use Rattle.st_rules.specs.Grace as grace
use Rattle.st_rules.specs.Locks as locks
use Rattle.st_rules.specs.Server.{ServerNode, ServerState, Stable}
use Rattle.st_rules.specs.Sessions as sessions
use Rattle.st_server.specs.Invariants.{AreMapped, AreNamed}

-- a server of which a crash left this stable part
abbrev pub crashed_server : ServerId → Config → Stable → ServerState
crashed_server id k stable =
    record {
      id = id;
      config = k;
      stable = stable;
      grace = grace.no_grace;
      sessions = sessions.no_sessions stable.epoch;
      locks = locks.no_locks stable.epoch;
      authority = authority.no_suspects k;
    }

-- it does not run
abbrev pub crashed_node : ServerId → Config → Stable → ServerNode
crashed_node id k stable = record { state = crashed_server id k stable; running = false }

-- A stable part that a server may have: an epoch began, and its names and extents can be told.
pub record IsStable (stable : Stable) : Type 0 where
  pub least : 1 ≤ stable.epoch.0
  pub most : stable.epoch.0 < 2 ^ 32
  pub named : AreNamed stable.names
  pub mapped : AreMapped stable.extents
