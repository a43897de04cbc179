-- Clients of the third form that demands find open: they answer at once.
use Rattle.std.specs.Prelude.{◌≡◌, ◌≤◌, ◌<◌, ◌*◌, ℕ, List, [], map, Some}
use Rattle.st_base.specs.declared.config.Config.{Config}
use Rattle.st_base.specs.declared.ids.ClientId.{ClientId}
use Rattle.st_base.specs.declared.ids.GrantNo.{GrantNo}
use Rattle.st_base.specs.declared.ids.NodeId.TheVariants as nodes
use Rattle.st_base.specs.declared.ids.ServerId.{ServerId}
use Rattle.st_base.specs.declared.ids.Stamp.{Stamp}
use Rattle.st_base.specs.declared.mode.Mode.{Mode}
use Rattle.st_messages.specs.declared.event.Event.TheVariants as events
use Rattle.st_messages.specs.declared.message.Header.{Header}
use Rattle.st_rules.specs.declared.locks.LockRow.{LockRow}
use Rattle.st_rules.specs.declared.world.SentMessage.{SentMessage}
use Rattle.st_rules.specs.ClientState.{Association, ClientSession}
use Rattle.st_rules.specs.Server.{ServerNode}
use Rattle.st_rules.specs.World.{World, WorldClient, clock_of, message_of, node_of, site_of}
use Rattle.st_lemmas.specs.Lists.{Has}
use Rattle.st_laws_healthy.specs.Healthy.{ComeInTime}
use Rattle.st_laws_third.specs.Demands.{IsInTime, Reaches}
use Rattle.st_laws_waits.specs.Causes.{asked_since, demand_on}
use Rattle.st_laws_waits.specs.Waits.{Runs, server_clock}
use Rattle.st_third.specs.declared.event.ThirdEvent.{ThirdEvent}
use Rattle.st_third.specs.declared.limits.Limits.{Limits}
use Rattle.st_third.specs.Limits.{IsHead}
use Rattle.st_third.specs.Promises.{ThirdPromise, Throughout}
use Rattle.st_third.specs.Steps.{ThirdStep, plain_event, plain_step, steps, third_traced}
use Rattle.st_third.specs.World.{third_world}
use Rattle.st_laws_suspicions.specs.Prompt.{OnlySuspectedForGreeting}

-- A demand finds the client open: it reaches a session of its epoch, whose lease isn't over, and no lock of the file has a later grant.
pub record FindsOpen (c : ClientId) (w : World) (h : Header) (ino : ℕ) (g : GrantNo) : Type 0 where
  pub site : WorldClient
  pub there : site_of w c ≡ Some site
  pub association : Association
  pub session : ClientSession
  pub reaches : Reaches site.node.state (clock_of w (nodes.Client c)) h association session
  pub in_time : IsInTime session.locks ino g

-- So does each demand that comes to it while its row waits for the answer.
abbrev pub DemandsFindItOpen : ClientId → ServerId → ThirdPromise
DemandsFindItOpen c s past x =
    (n : ℕ) (sent : SentMessage) (node : ServerNode) (r : LockRow) (at : Stamp) (to : Mode) → plain_event x.event ≡ events.Deliver n →
    message_of x.before.third.world n ≡ Some sent → node_of x.before.third.world s ≡ Some node → Has r node.state.locks.rows → r.client ≡ c →
    asked_since r ≡ Some at → sent.message ≡ demand_on s node.state.stable.epoch r to → FindsOpen c x.before.third.world sent.message.header r.ino r.g

-- After a step the server runs. Messages between it and the client came in time, by the server's clock, and demands found the client open.
pub record IsOpen (c : ClientId) (s : ServerId) (delay : ℕ) (past : List ThirdStep) (x : ThirdStep) : Type 0 where
  pub runs : Runs s x.after.third.world
  pub come : ComeInTime (server_clock s) c s delay (map plain_step past) (plain_step x)
  pub open_to : DemandsFindItOpen c s past x

-- In every run of the third form in which this is so after each step, and a trip to the server and back takes less than the demand time. How many locks are
-- demanded at once doesn't matter.
abbrev pub OpenClientsAreHeard : Type 0
OpenClientsAreHeard =
    (k : Config) (m : Limits) (clients servers disks blocks : ℕ) (es : List ThirdEvent) (c : ClientId) (s : ServerId) (delay : ℕ) →
    IsHead k m clients servers disks blocks 3 → c.0 ≤ 64 → 2 * delay < k.demand →
    Throughout (IsOpen c s delay) [] (steps es (third_traced (third_world k m clients servers disks blocks 3))) →
    Throughout (OnlySuspectedForGreeting c s) [] (steps es (third_traced (third_world k m clients servers disks blocks 3)))
