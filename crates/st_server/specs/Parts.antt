-- The parts of a server, and what always holds of them.
use Rattle.std.specs.Prelude.{◌≡◌, ◌≤◌, ◌<◌, ◌^◌, Ok}
use Rattle.st_base.specs.declared.ids.Epoch.{Epoch}
use Rattle.st_base.specs.declared.ids.ServerId.{ServerId}
use Rattle.st_base.specs.declared.config.Config.{Config}
use Rattle.st_base.specs.Config.{check}
use Rattle.st_rules.specs.Server.{Stable}
use Rattle.st_server.specs.declared.stable.ServerStable.{ServerStable}

-- a stable part's epoch, names and extents
abbrev pub stable_of : ServerStable → Stable
stable_of s = record { epoch = s.epoch; names = s.names; extents = s.extents }

-- the number is one of a world's server, the settings are checked, and the epoch is below 2^32
pub record IsSettled (id : ServerId) (config : Config) (epoch : Epoch) : Type 0 where
  pub some : 1 ≤ id.0
  pub known : id.0 ≤ 4
  pub checked : check config ≡ Ok tt
  pub epochs : epoch.0 < 2 ^ 32
