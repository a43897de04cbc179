-- The trees of the volume are the names of the world's servers.
use Rattle.std.specs.Prelude.{◌≡◌, List, map}
use Rattle.st_rules.specs.Safety.{Promise}
use Rattle.st_rules.specs.Server.{ServerNode}
use Rattle.st_rules.specs.World.{World}
use Rattle.st_laws_volume.specs.Options.{OnSome}
use Rattle.st_laws_volume.specs.TreeNames.{tree_of}
use Rattle.st_laws_volume.specs.Witness.{led_by, led_to}
use Rattle.st_volume.specs.Trees.{Tree}
use Rattle.st_volume.specs.Volume.{Volume}

-- the tree of a server, and those of all, by number
abbrev pub tree_at : ServerNode → Tree
tree_at node = tree_of node.state.stable.names

abbrev pub trees_of : World → List Tree
trees_of w = map tree_at w.servers

abbrev pub HasTreesOf : World → Volume → Type 0
HasTreesOf w v = v.trees ≡ trees_of w

-- The trees agree: after every event, if the volume has taken the steps of all events so far.
abbrev pub TreesAgree : Promise
TreesAgree past x = OnSome (HasTreesOf x.after.world) (led_by (led_to past x) x).volume
