-- The epochs of the volume are those of the world's servers.
use Rattle.std.specs.Prelude.{◌≡◌, Option, Some}
use Rattle.st_base.specs.declared.ids.ServerId.{ServerId}
use Rattle.st_rules.specs.Safety.{Promise}
use Rattle.st_rules.specs.Server.{ServerNode}
use Rattle.st_rules.specs.World.{World, node_of}
use Rattle.st_laws_volume.specs.Options.{OnSome}
use Rattle.st_laws_volume.specs.Witness.{led_by, led_to}
use Rattle.st_volume.specs.Volume.{Volume, epoch}

-- each existing server
abbrev pub HasEpochsOf : World → Volume → Type 0
HasEpochsOf w v =
    (s : ServerId) (node : ServerNode)
    → node_of w s ≡ Some node
    → epoch v s ≡ node.state.stable.epoch.0

-- The epochs agree: after every event, if the volume has taken the steps of all events so far.
abbrev pub EpochsAgree : Promise
EpochsAgree past x = OnSome (HasEpochsOf x.after.world) (led_by (led_to past x) x).volume
