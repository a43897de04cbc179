-- No counter of a world is at its end.
use Rattle.std.specs.Prelude.{◌≡◌, ◌-◌, ◌<◌, ◌^◌, Some}
use Rattle.st_base.specs.declared.ids.ClientId.{ClientId}
use Rattle.st_base.specs.declared.ids.ServerId.{ServerId}
use Rattle.st_client.specs.Room as client_room
use Rattle.st_rules.specs.Server.{ServerNode}
use Rattle.st_rules.specs.World.{World, WorldClient, node_of, site_of}
use Rattle.st_server.specs.Room as server_room

-- a client: its asks, its starts, and all that a step or a start of it may raise
pub record SiteHasRoom (site : WorldClient) : Type 0 where
  pub asks : site.asks < 2 ^ 32 - 1
  pub starts : site.starts < 2 ^ 64 - 1
  pub counters : client_room.HasRoom site.node.state

-- a server: its epochs, and all that a step of it may raise
pub record NodeHasRoom (node : ServerNode) : Type 0 where
  pub epochs : node.state.stable.epoch.0 < 2 ^ 32 - 1
  pub counters : server_room.HasRoom node.state

-- reads and thefts may be counted on, and every client and every server has room
pub record CountersHaveRoom (w : World) : Type 0 where
  pub reads : w.tally.reads < 2 ^ 63
  pub stolen : w.tally.stolen < 2 ^ 63
  pub clients : (c : ClientId) (site : WorldClient) → site_of w c ≡ Some site → SiteHasRoom site
  pub servers : (s : ServerId) (node : ServerNode) → node_of w s ≡ Some node → NodeHasRoom node
