-- Replies under a key, which is a client, a server, a life, an epoch and a number from 1 on: each has its event, in which the request of the key was served,
-- and a key is served once.
use Rattle.std.specs.Prelude.{◌≡◌, ℕ, Bool, true, false, List, [], ◌∷◌, ◌++◌, Some}
use Rattle.std.proofs.Common.{◌⊎◌}
use Rattle.st_base.specs.declared.ids.ClientId.{ClientId}
use Rattle.st_base.specs.declared.ids.NodeId.TheVariants as nodes
use Rattle.st_base.specs.declared.ids.ServerId.{ServerId}
use Rattle.st_base.specs.declared.ids.Stamp.{Stamp}
use Rattle.st_messages.specs.declared.event.Event.TheVariants as events
use Rattle.st_messages.specs.declared.message.Body.{Body}
use Rattle.st_messages.specs.declared.message.Body.TheVariants as bodies
use Rattle.st_messages.specs.declared.message.Message.{Message}
use Rattle.st_messages.specs.declared.message.Why.{Why}
use Rattle.st_messages.specs.declared.message.Why.TheVariants as why
use Rattle.st_rules.specs.declared.sessions.Taken.TheVariants as takes
use Rattle.st_rules.specs.declared.world.SentMessage.{SentMessage}
use Rattle.st_rules.specs.ClientReplies.{name_answer}
use Rattle.st_rules.specs.ClientState.{reasserts}
use Rattle.st_rules.specs.Events as ev
use Rattle.st_rules.specs.Keys.{client, server_node}
use Rattle.st_rules.specs.Names.{Names}
use Rattle.st_rules.specs.Safety.{Promise, Step}
use Rattle.st_rules.specs.Server as sv
use Rattle.st_rules.specs.Server.{ServerNode, ServerState}
use Rattle.st_rules.specs.World.{World, clock_of, message_of, node_of}
use Rattle.st_lemmas.specs.Lists.{Has}
use Rattle.st_laws_leases.specs.Dates.Dates.{messages}
use Rattle.st_laws_requests.specs.Cuts.Cuts.{Keyed, does}
use Rattle.st_promises.specs.NameAnswers.{said}
use Rattle.st_laws_cuts.specs.EndedRequests.{AllPast}
use Rattle.st_laws_cuts.specs.ServedRequests.{IsServedBy}

-- Replies.

-- a refusal that is kept: of what was asked, and not of the client
abbrev pub is_kept_why : Why → Bool
is_kept_why why.Suspect = false
is_kept_why why.NoSession = false
is_kept_why why.OtherEpoch = false
is_kept_why why.Grace = false
is_kept_why why.GraceOver = false
is_kept_why why.Conflict = false
is_kept_why w = true

-- a reply that tells an operation its end
abbrev pub is_final : Body → Bool
is_final bodies.Ack = true
is_final (bodies.Named reply) = true
is_final (bodies.Nack w a b) = is_kept_why w
is_final body = false

-- a message of a server to a client under a key
pub record RepliesTo (c : ClientId) (s : ServerId) (life epoch number : ℕ) (m : Message) : Type 0 where
  pub from : m.header.from ≡ server_node s
  pub to : m.header.to ≡ c.0
  pub of_life : m.header.life ≡ life
  pub of_epoch : m.header.epoch ≡ epoch
  pub under : m.header.number ≡ number

-- what names did if a request for a name was served and replied to so: what it asks, as the reply says, or nothing
abbrev pub NamesDid : Names → Names → Body → Body → Type 0
NamesDid n m (bodies.Name op) (bodies.Named reply) = does n op ≡ said m (name_answer reply)
NamesDid n m (bodies.Name op) reply = m ≡ n
NamesDid n m asked reply = Unit {0}

-- the moment of a server's step in a world
abbrev pub now_at : World → ServerId → Stamp
now_at w s = clock_of (ev.counted w) (nodes.Server s)

-- a server's step, after its thefts
abbrev pub behind_thefts : World → ServerId → ServerState → sv.ServerTurn
behind_thefts w s x = sv.thefts (sv.turn x []) (now_at w s)

-- In the event of a step a server that runs served a message, which is of this key, and replied so.
pub record Serves (y : Step) (c : ClientId) (s : ServerId) (life epoch number : ℕ) (reply : Body) (m : Message) : Type 0 where
  pub keyed : Keyed c s life epoch number m
  pub old : ServerNode
  pub was : node_of y.before.world s ≡ Some old
  pub running : old.running ≡ true
  pub served : IsServedBy old.state m
  pub fresh : sv.take (behind_thefts y.before.world s old.state) m.header ≡ takes.Fresh
  pub replied : (sv.rule (behind_thefts y.before.world s old.state) (now_at y.before.world s) m.header m.body).reply ≡ Some reply
  pub new : ServerNode
  pub became : node_of y.after.world s ≡ Some new
  pub gone : AllPast y.after.world c s m
  pub did : NamesDid old.state.stable.names new.state.stable.names m.body reply

-- and the message was delivered in this event
pub record ServedAt (y : Step) (c : ClientId) (s : ServerId) (life epoch number : ℕ) (reply : Body) : Type 0 where
  pub index : ℕ
  pub delivers : y.event ≡ events.Deliver index
  pub sent : SentMessage
  pub is : message_of y.before.world index ≡ Some sent
  pub serves : Serves y c s life epoch number reply sent.message

-- the request of a key is a reassertion
pub record Reasserted (w : World) (c : ClientId) (s : ServerId) (life epoch number : ℕ) : Type 0 where
  pub by : Message
  pub among : Has by (messages w)
  pub keyed : Keyed c s life epoch number by
  pub asks : reasserts by.body ≡ true

-- a final reply under a key has its event, at one of these steps, or answers a reassertion
abbrev pub HasEvent : List Step → World → ClientId → ServerId → ℕ → ℕ → ℕ → Body → Type 0
HasEvent past w c s life epoch number reply = ((y : Step) × Has y past × ServedAt y c s life epoch number reply) ⊎ Reasserted w c s life epoch number

-- Each final reply of a server has its event.
abbrev pub RepliesHaveEvents : List Step → World → Type 0
RepliesHaveEvents past w =
    (m : Message) → Has m (messages w) → (s : ServerId) → m.header.from ≡ server_node s → is_final m.body ≡ true →
    HasEvent past w (client m.header.to) s m.header.life m.header.epoch m.header.number m.body

-- A key is served once, with one reply.
abbrev pub ServedOnce : List Step → Type 0
ServedOnce past =
    (y z : Step) → Has y past → Has z past → (c : ClientId) (s : ServerId) (life epoch number : ℕ) (r q : Body) →
    ServedAt y c s life epoch number r → ServedAt z c s life epoch number q → r ≡ q

-- Both, after each step.
abbrev pub RepliesAreOfTheirEvents : Promise
RepliesAreOfTheirEvents past x = RepliesHaveEvents (past ++ x ∷ []) x.after.world × ServedOnce (past ++ x ∷ [])
