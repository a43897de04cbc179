-- Clients of the third form that stay and are in time: they are healthy.
use Rattle.std.specs.Prelude.{◌≡◌, ◌≤◌, ◌<◌, ◌+◌, ◌*◌, ℕ, true, List, [], ◌∷◌, ◌++◌, map, Some}
use Rattle.st_base.specs.declared.config.Config.{Config}
use Rattle.st_base.specs.declared.ids.ClientId.{ClientId}
use Rattle.st_base.specs.declared.ids.Life.{Life}
use Rattle.st_base.specs.declared.ids.ServerId.{ServerId}
use Rattle.st_rules.specs.Server.{ServerNode}
use Rattle.st_rules.specs.World.{WorldClient, node_of, site_of}
use Rattle.st_lemmas.specs.Lists.{Has}
use Rattle.st_laws_healthy.specs.Healthy.{ComeInTime, IsHealthy, longest}
use Rattle.st_laws_lasting.specs.Lasting.{client_clock, client_last_tick}
use Rattle.st_laws_third.specs.FirstPromises.{Plainly}
use Rattle.st_laws_waits.specs.Waits.{server_clock}
use Rattle.st_third.specs.declared.event.ThirdEvent.{ThirdEvent}
use Rattle.st_third.specs.declared.limits.Limits.{Limits}
use Rattle.st_third.specs.declared.observation.ThirdObservation.TheVariants as seen
use Rattle.st_third.specs.Limits.{IsHead}
use Rattle.st_third.specs.Promises.{Throughout}
use Rattle.st_third.specs.Steps.{ThirdStep, plain_step, steps, third_traced}
use Rattle.st_third.specs.World.{third_world}

-- After a step the client and the server run. The client ticked in time, and messages between the two came in time by both clocks. In the step the client's
-- life at the server didn't end because it left. That the server doesn't suspect the client isn't among these, nor that its lease lasts.
pub record StaysInTime (c : ClientId) (s : ServerId) (gap d delay : ℕ) (past : List ThirdStep) (x : ThirdStep) : Type 0 where
  pub site : WorldClient
  pub there : site_of x.after.third.world c ≡ Some site
  pub up : site.node.running ≡ true
  pub node : ServerNode
  pub is : node_of x.after.third.world s ≡ Some node
  pub runs : node.running ≡ true
  pub ticks : client_clock c x.after.third.world ≤ client_last_tick c 0 (map plain_step past ++ plain_step x ∷ []) + gap
  pub come : ComeInTime (client_clock c) c s d (map plain_step past) (plain_step x)
  pub come_by_server : ComeInTime (server_clock s) c s delay (map plain_step past) (plain_step x)
  pub stays : (life : Life) → Has (seen.Ended c s life) x.seen → ⊥

-- In every run of the third form in which a client stays in time, it is healthy. A lease that is younger than the bound must not be over, and a trip to the
-- server and back takes less than the demand time, by the server's clock.
abbrev pub StayingClientsAreHealthy : Type 0
StayingClientsAreHealthy =
    (k : Config) (m : Limits) (clients servers disks blocks : ℕ) (es : List ThirdEvent) (c : ClientId) (s : ServerId) (gap d delay : ℕ) →
    IsHead k m clients servers disks blocks 3 → longest k gap d ≤ k.lease → 2 * delay < k.demand →
    Throughout (StaysInTime c s gap d delay) [] (steps es (third_traced (third_world k m clients servers disks blocks 3))) →
    Throughout (Plainly (IsHealthy c s gap d)) [] (steps es (third_traced (third_world k m clients servers disks blocks 3)))
