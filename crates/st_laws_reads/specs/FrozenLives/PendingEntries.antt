-- What is pending of lives that a crash ended.
use Rattle.std.specs.Prelude.{◌≡◌, ℕ, ◌+◌, true, List, Some, Ok}
use Rattle.st_base.specs.declared.config.Config as base
use Rattle.st_messages.specs.declared.event.Event.{Event}
use Rattle.st_rules.specs.declared.log.LogOwner.{LogOwner}
use Rattle.st_rules.specs.declared.world.LeaseLife.{LeaseLife}
use Rattle.st_rules.specs.Events.{WorldTurn, world_step}
use Rattle.st_rules.specs.Safety.{IsHead, Promise, Step}
use Rattle.st_rules.specs.Server.{ServerNode}
use Rattle.st_rules.specs.World.{World, ended_of, fresh_world, node_of, server}
use Rattle.st_protocol.specs.Assoc.{Client, Config}
use Rattle.st_laws_pages.specs.Fates.Fates.{PendingAll}
use Rattle.st_laws_pages.specs.Flush.Flush.{FlushHold}
use Rattle.st_laws_steps.specs.Lives.Lives.{LivesHold}
use Rattle.st_laws_refine.specs.Server.Pair.{stamp_number, terms_of}
use Rattle.st_laws_refine.specs.Server.Invariants.{pairs}
use Rattle.st_laws_leases.specs.Sides.World.{AllStand, IsFull, ServerStands}
use Rattle.st_laws_reads.specs.AllClients.Events.{FrozenStandAlone}
use Rattle.st_laws_reads.specs.FrozenLives.Frozen.{FrozenLife, LockedHalf}

-- a fact of an owner and of the row of its life, if a crash ended it
abbrev pub OfCrashed : (LeaseLife → LogOwner → Type 0) → World → LogOwner → Type 0
OfCrashed P w o = (row : LeaseLife) → ended_of w o.client o.file.server o.life ≡ Some row → row.crashed ≡ true → P row o

-- each pending entry of a life that a crash ended has the fact
pub record Tracked (P : LeaseLife → LogOwner → Type 0) (w : World) : Type 0 where
  pub lives : LivesHold w
  pub pending : PendingAll (OfCrashed P w) w.log

-- The life of an owner is frozen at its server, with an exclusive lock on the file, up to the lease end that it had.
pub record StoodLife (k : Config) (w : World) (s : ℕ) (node : ServerNode) (z : ServerStands k w s node) (row : LeaseLife) (o : LogOwner) : Type 0 where
  pub half : Client
  pub life : half.life ≡ o.life.0
  pub end : half.date + k.lease ≡ stamp_number row.end
  pub locked : LockedHalf half o.file.ino
  pub frozen : FrozenLife k o.client.0 half.life half (pairs s z.ended w node z.ghosts)

-- so it does if its server is there
abbrev pub StandsStill : (k : Config) (count : ℕ) (w : World) → AllStand k count w → LeaseLife → LogOwner → Type 0
StandsStill k count w all row o =
    (node : ServerNode) (at : node_of w (server o.file.server.0) ≡ Some node) →
    StoodLife k w o.file.server.0 node (all.servers o.file.server.0 node at) row o

-- Everything holds, and the lives of pending entries that a crash ended are frozen.
pub record FrozenHold (k : Config) (count : ℕ) (w : World) : Type 0 where
  pub all : AllStand k count w
  pub frozen_lives : PendingAll (OfCrashed (StandsStill k count w all) w) w.log

-- The lives are frozen in the world of a head, in which nothing is pending.
abbrev pub FrozenBegin : Type 0
FrozenBegin =
    (k : base.Config) (clients servers disks blocks form : ℕ) → IsHead k clients servers disks blocks form →
    FrozenHold (terms_of k) (clients + servers) (fresh_world k clients servers disks blocks form)

-- Every event leaves them standing still, if what is pending of present lives is dirty before it.
abbrev pub EventsKeepFrozen : Type 0
EventsKeepFrozen =
    (past : List Step) (k : Config) (count : ℕ) (w : World) (e : Event) (sc : WorldTurn) → FrozenHold k count w → FlushHold past w →
    IsFull w e → world_step w e ≡ Ok sc → FrozenHold k count sc.world

-- And so what is pending of lives that are over stands alone.
abbrev pub FrozenLivesStandAlone : Type 0
FrozenLivesStandAlone = (past : List Step) (k : Config) (count : ℕ) (w : World) → FrozenHold k count w → FlushHold past w → FrozenStandAlone w

-- It does so at each step of every run.
abbrev pub FrozenAreAlone : Promise
FrozenAreAlone past x = FrozenStandAlone x.before.world
