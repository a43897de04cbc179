-- A demand that reaches a session of its epoch is answered in the same step, though its release may still wait to be sent.
use Rattle.std.specs.Prelude.{◌≡◌, ◌≤◌, ℕ, false, List, [], Some}
use Rattle.st_base.specs.declared.config.Config.{Config}
use Rattle.st_base.specs.declared.ids.ClientId.{ClientId}
use Rattle.st_base.specs.declared.ids.NodeId.TheVariants as nodes
use Rattle.st_base.specs.declared.ids.GrantNo.{GrantNo}
use Rattle.st_base.specs.declared.ids.Stamp.{Stamp}
use Rattle.st_base.specs.declared.mode.Mode.{Mode}
use Rattle.st_messages.specs.declared.message.Body.TheVariants as bodies
use Rattle.st_messages.specs.declared.message.Header.{Header}
use Rattle.st_messages.specs.declared.message.Message.{Message}
use Rattle.st_messages.specs.declared.event.Event.TheVariants as events
use Rattle.st_rules.specs.declared.observation.Observation.TheVariants as plain_seen
use Rattle.st_rules.specs.declared.world.SentMessage.{SentMessage}
use Rattle.st_rules.specs.World.{WorldClient, clock_of, message_of, site_of}
use Rattle.st_third.specs.declared.event.ThirdEvent.{ThirdEvent}
use Rattle.st_third.specs.declared.event.ThirdEvent.TheVariants as third
use Rattle.st_third.specs.declared.observation.ThirdObservation.TheVariants as seen
use Rattle.st_third.specs.Promises.{ThirdPromise, Throughout}
use Rattle.st_third.specs.Steps.{steps, third_traced}
use Rattle.st_third.specs.World.{receiver_of, third_world}
use Rattle.st_messages.specs.declared.output.Output.TheVariants as outputs
use Rattle.st_rules.specs.declared.client.ClientInput.TheVariants as inputs
use Rattle.st_rules.specs.declared.client.HeldLock.{HeldLock}
use Rattle.st_rules.specs.ClientLocks.{LockCache, lock_of}
use Rattle.st_rules.specs.ClientState.{Association, ClientSession, ClientState}
use Rattle.st_rules.specs.Keys.{server_node}
use Rattle.st_lemmas.specs.Lists.{Has}
use Rattle.st_laws_steps.specs.Client.Losses.{Fit, is_ended}
use Rattle.st_third.specs.declared.event.ThirdInput.{ThirdInput}
use Rattle.st_third.specs.declared.event.ThirdInput.TheVariants as takes
use Rattle.st_third.specs.declared.limits.Limits.{Limits}
use Rattle.st_third.specs.declared.output.ThirdOutput.{ThirdOutput}
use Rattle.st_third.specs.declared.output.ThirdOutput.TheVariants as says
use Rattle.st_third.specs.Client.{client_step}
use Rattle.st_third.specs.State.{ThirdClient}
use Rattle.st_laws_third.specs.Pairs.{IsPaired}

-- A message reaches a session of a client: it is for the client, comes from the session's server in its
-- life and epoch, isn't from the future, and the lease isn't over.
pub record Reaches (c : ClientState) (now : Stamp) (h : Header) (a : Association) (s : ClientSession) : Type 0 where
  pub here : h.to ≡ c.id.0
  pub there : Has a c.associations
  pub from : h.from ≡ server_node a.server
  pub life : h.life ≡ a.life.0
  pub stamp : h.stamp ≤ now.0
  pub session : a.session ≡ Some s
  pub lasts : is_ended c.config now a.session ≡ false
  pub epoch : h.epoch ≡ s.epoch.0

-- the file has no lock, or one whose grant is no later
abbrev pub IsInTime : LockCache → ℕ → GrantNo → Type 0
IsInTime c ino g = (l : HeldLock) → lock_of c ino ≡ Some l → l.g.0 ≤ g.0

-- the answer to a demand
abbrev pub demand_answer : ClientState → Association → ClientSession → ℕ → GrantNo → Message
demand_answer c a s ino g =
    record {
      header = record { from = c.id.0; to = server_node a.server; life = a.life.0; epoch = s.epoch.0; number = 0; stamp = 0 };
      body = bodies.DemandSeen ino g;
    }

-- it is sent
abbrev pub demand_seen : ClientState → Association → ClientSession → ℕ → GrantNo → ThirdOutput
demand_seen c a s ino g = says.Plain (outputs.Send (demand_answer c a s ino g))

-- a demand, as a client takes it
abbrev pub demanding : Header → ℕ → GrantNo → Mode → ThirdInput
demanding h ino g to = takes.Plain (inputs.Control (record { header = h; body = bodies.Demand ino g to }))

-- Every demand that reaches a session and is in time is answered.
abbrev pub EveryDemandIsAnswered : Type 0
EveryDemandIsAnswered =
    (m : Limits) (c : ThirdClient) (now : Stamp) (h : Header) (ino : ℕ) (g : GrantNo) (to : Mode) (a : Association) (s : ClientSession) →
    IsPaired c → ((b : Association) → Has b c.plain.associations → Fit b) → Reaches c.plain now h a s → IsInTime s.locks ino g →
    Has (demand_seen c.plain a s ino g) (client_step m c now (demanding h ino g to)).out

-- In a run: a demand that is delivered, reaches a session and is in time, is answered in the same step.
abbrev pub DemandsAreAnswered : ThirdPromise
DemandsAreAnswered past x =
    (k : ℕ) (sent : SentMessage) (c : ClientId) (site : WorldClient) (ino : ℕ) (g : GrantNo) (to : Mode) (a : Association) (s : ClientSession) →
    x.event ≡ third.Plain (events.Deliver k) → message_of x.before.third.world k ≡ Some sent → sent.message.body ≡ bodies.Demand ino g to →
    receiver_of x.before.third.world sent ≡ nodes.Client c → site_of x.before.third.world c ≡ Some site →
    Reaches site.node.state (clock_of x.before.third.world (nodes.Client c)) sent.message.header a s → IsInTime s.locks ino g →
    (n : ℕ) × Has (seen.Plain (plain_seen.Sent n (demand_answer site.node.state a s ino g))) x.seen

-- In every run of the third form
abbrev pub EveryRunAnswersDemands : Type 0
EveryRunAnswersDemands =
    (k : Config) (m : Limits) (clients servers disks blocks : ℕ) (es : List ThirdEvent) →
    Throughout DemandsAreAnswered [] (steps es (third_traced (third_world k m clients servers disks blocks 3)))
