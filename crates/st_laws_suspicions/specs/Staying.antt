-- Clients of the third form that stay: they run, their lease at a server isn't lost, and they don't leave it.
use Rattle.std.specs.Prelude.{◌≡◌, ◌<◌, ◌*◌, ℕ, true, List, [], map, Some}
use Rattle.st_base.specs.declared.config.Config.{Config}
use Rattle.st_base.specs.declared.ids.ClientId.{ClientId}
use Rattle.st_base.specs.declared.ids.Life.{Life}
use Rattle.st_base.specs.declared.ids.ServerId.{ServerId}
use Rattle.st_rules.specs.declared.observation.Observation.TheVariants as plain_seen
use Rattle.st_rules.specs.Authority.{may_ack}
use Rattle.st_rules.specs.Server.{ServerNode}
use Rattle.st_rules.specs.World.{WorldClient, node_of, site_of}
use Rattle.st_lemmas.specs.Lists.{Has}
use Rattle.st_laws_healthy.specs.Healthy.{ComeInTime}
use Rattle.st_laws_waits.specs.Waits.{Runs, server_clock}
use Rattle.st_third.specs.declared.event.ThirdEvent.{ThirdEvent}
use Rattle.st_third.specs.declared.limits.Limits.{Limits}
use Rattle.st_third.specs.declared.observation.ThirdObservation.TheVariants as seen
use Rattle.st_third.specs.Limits.{IsHead}
use Rattle.st_third.specs.Promises.{ThirdPromise, Throughout}
use Rattle.st_third.specs.Steps.{ThirdStep, plain_step, steps, third_traced}
use Rattle.st_third.specs.World.{third_world}

-- After a step the client and the server run. Messages between them came in time, by the server's clock. In the step the client's lease at the server
-- wasn't lost, and its life there didn't end because it left.
pub record IsStaying (c : ClientId) (s : ServerId) (delay : ℕ) (past : List ThirdStep) (x : ThirdStep) : Type 0 where
  pub site : WorldClient
  pub there : site_of x.after.third.world c ≡ Some site
  pub up : site.node.running ≡ true
  pub runs : Runs s x.after.third.world
  pub come : ComeInTime (server_clock s) c s delay (map plain_step past) (plain_step x)
  pub lasts : (life : Life) → Has (seen.Plain (plain_seen.Lost c s life)) x.seen → ⊥
  pub stays : (life : Life) → Has (seen.Ended c s life) x.seen → ⊥

-- After a step the server doesn't suspect the client.
abbrev pub IsNoSuspect : ClientId → ServerId → ThirdPromise
IsNoSuspect c s past x = (node : ServerNode) → node_of x.after.third.world s ≡ Some node → may_ack node.state.authority c ≡ true

-- In every run of the third form in which a client stays, and a trip to the server and back takes less than the demand time. How many locks are demanded
-- at once, and how many releases wait, doesn't matter.
abbrev pub StayingClientsAreNotSuspected : Type 0
StayingClientsAreNotSuspected =
    (k : Config) (m : Limits) (clients servers disks blocks : ℕ) (es : List ThirdEvent) (c : ClientId) (s : ServerId) (delay : ℕ) →
    IsHead k m clients servers disks blocks 3 → 2 * delay < k.demand →
    Throughout (IsStaying c s delay) [] (steps es (third_traced (third_world k m clients servers disks blocks 3))) →
    Throughout (IsNoSuspect c s) [] (steps es (third_traced (third_world k m clients servers disks blocks 3)))
