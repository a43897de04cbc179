-- What a reply `queued` says: its client waits at the server.
use Rattle.std.specs.Prelude.{◌≡◌, ◌⊎◌, ℕ, true, Some}
use Rattle.st_base.specs.declared.config.Config.{Config}
use Rattle.st_base.specs.declared.ids.ClientId.{ClientId}
use Rattle.st_base.specs.declared.ids.ServerId.{ServerId}
use Rattle.st_base.specs.declared.mode.Mode.{Mode}
use Rattle.st_base.specs.Mode.{covers}
use Rattle.st_messages.specs.declared.message.Body.TheVariants as bodies
use Rattle.st_messages.specs.declared.message.Message.{Message}
use Rattle.st_rules.specs.declared.locks.Waiter.{Waiter}
use Rattle.st_rules.specs.declared.observation.Observation.TheVariants as seen
use Rattle.st_rules.specs.declared.sessions.Session.{Session}
use Rattle.st_rules.specs.declared.sessions.SessionState.TheVariants.{Live}
use Rattle.st_rules.specs.Keys.{client}
use Rattle.st_rules.specs.Locks.{Locks}
use Rattle.st_rules.specs.Safety.{Promise}
use Rattle.st_rules.specs.Server.{ServerNode, ServerState}
use Rattle.st_rules.specs.Sessions.{session_of}
use Rattle.st_rules.specs.World.{node_of}
use Rattle.st_lemmas.specs.Lists.{Has}
use Rattle.st_laws_waits.specs.Ends.{IsGranted, IsWaiting}
use Rattle.st_laws_waits.specs.Waits.{received}

-- The client waits for the file, in this mode or a higher one; or it was granted what it waited for.
pub record IsQueued (c : ClientId) (ino : ℕ) (mode : Mode) (l : Locks) : Type 0 where
  pub wait : Waiter
  pub client : wait.client.0 ≡ c.0
  pub file : wait.ino ≡ ino
  pub covered : covers wait.mode mode ≡ true
  pub there : IsWaiting wait l ⊎ IsGranted wait l

-- The reply isn't new: it was the last one of its client's session.
pub record WasKept (n : ServerState) (m : Message) : Type 0 where
  pub session : Session
  pub is : session_of n.sessions (client m.header.to) ≡ Some session
  pub life : session.life.0 ≡ m.header.life
  pub state : session.state ≡ Live m.header.number (Some m.body)

-- Queued clients wait: suppose that an event brings a server a message, that the server runs before and after it, and that `queued` is sent in it. Then after
-- the event the client waits there in that mode, or was granted the lock in this very event; or the reply is one that the server had kept, and sends again.
abbrev pub QueuedClientsWait : Config → ServerId → Promise
QueuedClientsWait k s past x =
    (brought : Message) → received s x.before.world x.event ≡ Some brought → (old new : ServerNode) → node_of x.before.world s ≡ Some old → old.running ≡ true →
    node_of x.after.world s ≡ Some new → new.running ≡ true → (number : ℕ) (m : Message) (ino : ℕ) (mode : Mode) → Has (seen.Sent number m) x.seen →
    m.body ≡ bodies.Queued ino mode → IsQueued (client m.header.to) ino mode new.state.locks ⊎ WasKept old.state m
