-- What holds of the world before and after each event, beside what holds of its nodes.
use Rattle.std.specs.Prelude.{◌≡◌, Bool, true, length, Option, Some, None, All}
use Rattle.std.specs.List.{list_all}
use Rattle.st_base.specs.declared.disk.BlockAt.{BlockAt}
use Rattle.st_base.specs.declared.ids.NodeId.{NodeId}
use Rattle.st_base.specs.declared.ids.NodeId.TheVariants as nodes
use Rattle.st_base.specs.declared.ids.ServerId.{ServerId}
use Rattle.st_base.specs.declared.rows.ExtentRow.{ExtentRow}
use Rattle.st_messages.specs.declared.message.Body.{Body}
use Rattle.st_messages.specs.declared.message.Body.TheVariants as bodies
use Rattle.st_rules.specs.declared.client.KnownExtent.{KnownExtent}
use Rattle.st_rules.specs.declared.client.MappedBlock.{MappedBlock}
use Rattle.st_rules.specs.declared.extents.Extent.{Extent}
use Rattle.st_rules.specs.declared.world.SentMessage.{SentMessage}
use Rattle.st_rules.specs.Keys.{same_server}
use Rattle.st_rules.specs.ClientState.{Association}
use Rattle.st_rules.specs.Server.{ServerNode}
use Rattle.st_rules.specs.World.{World, WorldClient, server_of_disk, sender_of}
use Rattle.st_rules.specs.ServerInvariants.{IsServer}
use Rattle.st_rules.specs.ClientInvariants.{IsClient}

-- Where mapped pages lie: a server maps the pages of its files to its own disks, and tells nothing else.

-- the block is on a disk of this server
abbrev pub is_on_disk_of : World → ServerId → BlockAt → Bool
is_on_disk_of w s at = same_server (server_of_disk w at) s

-- the mapped page is one of this server, on a disk of it
abbrev pub is_own_extent : World → ServerId → Extent → Bool
is_own_extent w s e = is_on_disk_of w s e.at

-- all mapped pages of a server lie on its disks
abbrev pub maps_own : World → ServerNode → Bool
maps_own w node = list_all (is_own_extent w node.state.id) node.state.stable.extents.rows

-- the row that was reported is of a disk of this server
abbrev pub is_own_row : World → ServerId → ExtentRow → Bool
is_own_row w s r = is_on_disk_of w s r.at

-- the places of pages in a message of a server lie on its disks
abbrev pub tells_own_rows : World → NodeId → Body → Bool
tells_own_rows w (nodes.Server s) (bodies.Extents ino rows) = list_all (is_own_row w s) rows
tells_own_rows w sender body = true

-- the places of pages in a message lie on disks of the server that sent it
abbrev pub tells_own : World → SentMessage → Bool
tells_own w m = tells_own_rows w (sender_of m) m.message.body

-- a known mapping lies on a disk of this server
abbrev pub is_own_mapping : World → ServerId → Option MappedBlock → Bool
is_own_mapping w s None = true
is_own_mapping w s (Some m) = is_on_disk_of w s m.at

-- what is known of a page is of a disk of this server
abbrev pub is_own_known : World → ServerId → KnownExtent → Bool
is_own_known w s e = is_own_mapping w s e.mapping

-- what a client knows about a server's pages concerns that server's disks
abbrev pub knows_own_at : World → Association → Bool
knows_own_at w a = list_all (is_own_known w a.server) a.store.extents

-- what a client knows about pages concerns their servers' disks
abbrev pub knows_own : World → WorldClient → Bool
knows_own w site = list_all (knows_own_at w) site.node.state.associations

-- the server is as it must be
abbrev pub IsNode : ServerNode → Type 0
IsNode node = IsServer node.state

-- the client is as it must be
abbrev pub IsSite : WorldClient → Type 0
IsSite site = IsClient site.node.state

-- The world: each node is as it must be; each disk command is an issued one; mapped pages lie, and are reported and known to lie, on disks of their server.
pub record IsWorld (w : World) : Type 0 where
  pub servers : All IsNode w.servers
  pub clients : All IsSite w.clients
  pub issued : length w.commands ≡ length w.disks.commands
  pub maps : list_all (maps_own w) w.servers ≡ true
  pub told : list_all (tells_own w) w.net.messages ≡ true
  pub known : list_all (knows_own w) w.clients ≡ true
