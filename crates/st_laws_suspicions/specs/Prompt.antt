-- Clients of the third form that answer demands at once, and aren't suspected for silence.
use Rattle.std.specs.Prelude.{◌≡◌, ◌<◌, ◌*◌, ℕ, true, false, List, [], map, Some}
use Rattle.st_base.specs.declared.config.Config.{Config}
use Rattle.st_base.specs.declared.ids.ClientId.{ClientId}
use Rattle.st_base.specs.declared.ids.Epoch.{Epoch}
use Rattle.st_base.specs.declared.ids.ServerId.{ServerId}
use Rattle.st_base.specs.declared.ids.Stamp.{Stamp}
use Rattle.st_base.specs.declared.mode.Mode.{Mode}
use Rattle.st_messages.specs.declared.event.Event.TheVariants as events
use Rattle.st_messages.specs.declared.message.Body.TheVariants as bodies
use Rattle.st_messages.specs.declared.message.Message.{Message}
use Rattle.st_rules.specs.declared.locks.LockRow.{LockRow}
use Rattle.st_rules.specs.declared.observation.Observation.TheVariants as seen
use Rattle.st_rules.specs.declared.world.SentMessage.{SentMessage}
use Rattle.st_rules.specs.Authority.{may_ack}
use Rattle.st_rules.specs.Keys.{server_node}
use Rattle.st_rules.specs.Safety.{Promise, Step}
use Rattle.st_rules.specs.Server.{ServerNode}
use Rattle.st_rules.specs.World.{message_of, node_of}
use Rattle.st_lemmas.specs.Lists.{Has}
use Rattle.st_laws_healthy.specs.Healthy.{ComeInTime}
use Rattle.st_laws_waits.specs.Causes.{asked_since, demand_on}
use Rattle.st_laws_waits.specs.Waits.{Runs, received, server_clock}
use Rattle.st_third.specs.declared.event.ThirdEvent.{ThirdEvent}
use Rattle.st_third.specs.declared.limits.Limits.{Limits}
use Rattle.st_third.specs.Limits.{IsHead}
use Rattle.st_third.specs.Promises.{ThirdPromise, Throughout}
use Rattle.st_third.specs.Steps.{ThirdStep, plain_step, steps, third_traced}
use Rattle.st_third.specs.World.{third_world}

-- what a client says of a demand on its row's lock: that it was seen
abbrev pub seen_on : ServerId → Epoch → LockRow → Message
seen_on s epoch r =
    record {
      header = record { from = r.client.0; to = server_node s; life = r.life.0; epoch = epoch.0; number = 0; stamp = 0 };
      body = bodies.DemandSeen r.ino r.g;
    }

-- A demand that comes to the client while its row waits for the answer is answered in the same step.
abbrev pub AnswersAtOnce : ClientId → ServerId → Promise
AnswersAtOnce c s past x =
    (n : ℕ) (sent : SentMessage) (node : ServerNode) (r : LockRow) (at : Stamp) (to : Mode) → x.event ≡ events.Deliver n →
    message_of x.before.world n ≡ Some sent → node_of x.before.world s ≡ Some node → Has r node.state.locks.rows → r.client ≡ c →
    asked_since r ≡ Some at → sent.message ≡ demand_on s node.state.stable.epoch r to →
    (k : ℕ) × Has (seen.Sent k (seen_on s node.state.stable.epoch r)) x.seen

-- After a step the server runs. Messages between it and the client came in time, by the server's clock, and the client answered at once.
pub record IsPrompt (c : ClientId) (s : ServerId) (delay : ℕ) (past : List ThirdStep) (x : ThirdStep) : Type 0 where
  pub runs : Runs s x.after.third.world
  pub come : ComeInTime (server_clock s) c s delay (map plain_step past) (plain_step x)
  pub answers : AnswersAtOnce c s (map plain_step past) (plain_step x)

-- The client greeted in a later life than that of a row that it has.
pub record GreetsLate (c : ClientId) (s : ServerId) (x : Step) (old : ServerNode) : Type 0 where
  pub message : Message
  pub row : LockRow
  pub is : received s x.before.world x.event ≡ Some message
  pub from : message.header.from ≡ c.0
  pub hello : message.body ≡ bodies.Hello
  pub has : Has row old.state.locks.rows
  pub own : row.client.0 ≡ c.0
  pub lower : row.life.0 < message.header.life

-- If the server comes to suspect the client, the client greeted in a later life while it had rows.
abbrev pub OnlySuspectedForGreeting : ClientId → ServerId → ThirdPromise
OnlySuspectedForGreeting c s past x =
    (old new : ServerNode) → node_of x.before.third.world s ≡ Some old → node_of x.after.third.world s ≡ Some new →
    may_ack old.state.authority c ≡ true → may_ack new.state.authority c ≡ false → GreetsLate c s (plain_step x) old

-- In every run of the third form in which a client is prompt at a server after each step. A trip to the server and back must take less than the demand
-- time, by the server's clock. How many locks are demanded at once doesn't matter.
abbrev pub PromptClientsAreHeard : Type 0
PromptClientsAreHeard =
    (k : Config) (m : Limits) (clients servers disks blocks : ℕ) (es : List ThirdEvent) (c : ClientId) (s : ServerId) (delay : ℕ) →
    IsHead k m clients servers disks blocks 3 → 2 * delay < k.demand →
    Throughout (IsPrompt c s delay) [] (steps es (third_traced (third_world k m clients servers disks blocks 3))) →
    Throughout (OnlySuspectedForGreeting c s) [] (steps es (third_traced (third_world k m clients servers disks blocks 3)))
