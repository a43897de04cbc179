-- How far the counters of a world and of its nodes may be after that many events.
use Rattle.std.specs.Prelude.{◌≡◌, ◌≤◌, ◌+◌, ◌*◌, ◌^◌, ℕ, length, Option, Some, None}
use Rattle.st_base.specs.declared.ids.ClientId.{ClientId}
use Rattle.st_base.specs.declared.ids.ServerId.{ServerId}
use Rattle.st_rules.specs.ClientState.{Association, ClientSession}
use Rattle.st_rules.specs.Server.{ServerNode}
use Rattle.st_rules.specs.World.{World, WorldClient, node_of, site_of}
use Rattle.st_lemmas.specs.Lists.{Has}

-- the next request of a session has at most this number
abbrev pub AsksLow : ℕ → Option ClientSession → Type 0
AsksLow most None = Unit {0}
AsksLow most (Some s) = s.requests.next ≤ most

-- What a client has of a server: its versions are as many as log entries, its lives as those that ended and the client's starts, and its
-- requests as messages.
pub record FewAt (w : World) (starts : ℕ) (a : Association) : Type 0 where
  pub versions : a.store.pages.next_version ≤ 1 + length w.log
  pub lives : a.life.0 ≤ 1 + length w.ended + starts
  pub requests : AsksLow (1 + length w.net.messages) a.session

-- A client: its asks and starts are no more than events, and its commands no more than the world's.
pub record FewOf (w : World) (site : WorldClient) : Type 0 where
  pub asks : site.asks ≤ w.tally.events
  pub starts : site.starts ≤ w.tally.events
  pub commands : site.node.state.next_command ≤ 1 + length w.commands
  pub associations : (a : Association) → Has a site.node.state.associations → FewAt w site.starts a

-- each client of a world
abbrev pub ClientsFew : World → Type 0
ClientsFew w = (c : ClientId) (site : WorldClient) → site_of w c ≡ Some site → FewOf w site

-- A server: at most one more epoch and one more inode for each event, and for each event as many births as eight disks have blocks.
pub record FewIn (w : World) (node : ServerNode) : Type 0 where
  pub epochs : node.state.stable.epoch.0 ≤ w.tally.events + 1
  pub inodes : node.state.stable.names.next ≤ w.tally.events + 10
  pub births : node.state.stable.extents.births ≤ 32768 * w.tally.events

-- each server of a world
abbrev pub ServersFew : World → Type 0
ServersFew w = (s : ServerId) (node : ServerNode) → node_of w s ≡ Some node → FewIn w node

-- the grants of a server's epoch, and its waits, are at most 2^29
abbrev pub LocksFew : World → Type 0
LocksFew w = (s : ServerId) (node : ServerNode) → node_of w s ≡ Some node → node.state.locks.grants + length node.state.locks.waiters ≤ 2 ^ 29

-- reads that were answered are no more than events
abbrev pub ReadsFew : World → Type 0
ReadsFew w = w.tally.reads ≤ w.tally.events

-- thefts are no more than sixteen for each event
abbrev pub TheftsFew : World → Type 0
TheftsFew w = w.tally.stolen ≤ 16 * w.tally.events
