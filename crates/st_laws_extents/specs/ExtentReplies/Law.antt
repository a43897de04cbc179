-- Replies tell the present extents, over whole runs.
use Rattle.std.specs.Prelude.{◌≡◌, ◌+◌, ℕ, true, List, [], Some}
use Rattle.std.proofs.Common.{◌⊎◌}
use Rattle.std.specs.List.{list_all}
use Rattle.st_base.specs.declared.config.Config.{Config}
use Rattle.st_base.specs.declared.rows.ExtentRow.{ExtentRow}
use Rattle.st_messages.specs.declared.event.Event.{Event}
use Rattle.st_messages.specs.declared.message.Message.{Message}
use Rattle.st_rules.specs.declared.client.Request.{Request}
use Rattle.st_rules.specs.ClientState.{Association, ClientSession}
use Rattle.st_rules.specs.History.{traced}
use Rattle.st_rules.specs.Keys.{client}
use Rattle.st_rules.specs.Safety.{IsHead, Promise, Throughout, is_event, steps}
use Rattle.st_rules.specs.Server.{ServerNode}
use Rattle.st_rules.specs.World.{WorldClient, World, fresh_world, node_of}
use Rattle.st_lemmas.specs.Lists.{Has}
use Rattle.st_laws_leases.specs.Dates.Dates.{messages}
use Rattle.st_laws_extents.specs.ExtentReplies.Steps.{KeptRows}
use Rattle.st_laws_extents.specs.ExtentReplies.ToldExtents.{AskedAt, AskedRight, RepliesTo}

-- a request of this number and body was outstanding before, at the same server in the same life and epoch, under a lock that was held
pub record WasAsked (w : World) (c : ℕ) (a : Association) (x : ClientSession) (q : Request) : Type 0 where
  pub site : WorldClient
  pub by : Association
  pub session : ClientSession
  pub request : Request
  pub at : AskedAt w c site by session request
  pub server : by.server ≡ a.server
  pub life : by.life.0 ≡ a.life.0
  pub epoch : session.epoch.0 ≡ x.epoch.0
  pub number : request.number ≡ q.number
  pub body : request.body ≡ q.body

-- no reply of extents was sent or kept under the number of a request
pub record Untold (w : World) (c : ℕ) (a : Association) (x : ClientSession) (q : Request) : Type 0 where
  pub sent : (m : Message) (ino : ℕ) (rows : List ExtentRow) → Has m (messages w) → RepliesTo c a x q m ino rows → ⊥
  pub kept : (node : ServerNode) → node_of w a.server ≡ Some node → node.running ≡ true → (ino : ℕ) (rows : List ExtentRow) →
      KeptRows node.state.sessions (client c) a.life.0 q.number ino rows → ⊥

-- What is left at a step: a request that is outstanding after it under a lock that is held was so before, or nothing was reported about it.
abbrev pub RequestsGo : World → World → Type 0
RequestsGo w v = (c : ℕ) (site : WorldClient) (a : Association) (x : ClientSession) (q : Request) → AskedAt v c site a x q → WasAsked w c a x q ⊎ Untold w c a x q

-- at a step
abbrev pub IsAsked : Promise
IsAsked past x = RequestsGo x.before.world x.after.world

-- after a step
abbrev pub AskedAfter : Promise
AskedAfter past x = AskedRight x.after.world

-- A promise is kept in every run in which requests go on so.
abbrev pub InRunsAsked : Promise → Type 0
InRunsAsked promise =
    (k : Config) (clients servers disks blocks form : ℕ) (es : List Event) → IsHead k clients servers disks blocks form →
    list_all (is_event (clients + servers)) es ≡ true →
    Throughout IsAsked [] (steps es (traced (fresh_world k clients servers disks blocks form))) →
    Throughout promise [] (steps es (traced (fresh_world k clients servers disks blocks form)))
