-- The replies by which leases are dated: each answers a request that was sent, and was sent before every timer that runs for its client.
use Rattle.std.specs.Prelude.{◌≡◌, ℕ, ◌+◌, ◌<◌, ◌≤◌, true, Some, Ok, is_some}
use Rattle.st_base.specs.Nodes.{SERVER_BASE}
use Rattle.st_messages.specs.declared.event.Event.{Event}
use Rattle.st_rules.specs.declared.input.ServerInput.TheVariants.{Control}
use Rattle.st_rules.specs.declared.world.SentMessage.{SentMessage}
use Rattle.st_rules.specs.Authority.{suspect_of}
use Rattle.st_rules.specs.Server.{ServerNode}
use Rattle.st_rules.specs.World.{message_of, node_of, server}
use Rattle.st_rules.specs.Events.{WorldTurn, world_step}
use Rattle.st_rules.specs.History.{Traced, TimerStart, traced_after}
use Rattle.st_rules.specs.Dating.{is_request, may_date, is_reply_to}
use Rattle.st_lemmas.specs.Lists.{Has}
use Rattle.st_laws_refine.specs.Server.Edits.{WishInput}
use Rattle.st_laws_refine.specs.Server.Invariants.{Known, StepsAt}

-- a message of this server by which a lease may be dated
abbrev pub DatesLease : ℕ → SentMessage → Type 0
DatesLease s m = record { from : m.message.header.from ≡ SERVER_BASE + s; dates : may_date m.message.header.number m.message.body ≡ true }

-- The replies of server s: each that may date a lease has its request among the messages, and no timer that runs for its client
-- started before it was sent; the timers of the server in the history are those of clients that it suspects, while it runs.
pub record Dated (s : ℕ) (t : Traced) (node : ServerNode) : Type 0 where
  pub asked : (m : SentMessage) → Has m t.world.net.messages → DatesLease s m →
      (q : SentMessage) × Has q t.world.net.messages × (is_request q.message.body ≡ true) × (is_reply_to q.message m.message ≡ true)
  pub before : (n : ℕ) (m : SentMessage) → message_of t.world n ≡ Some m → DatesLease s m →
      (x : TimerStart) → Has x t.history.timers → x.server.0 ≡ s → x.client.0 ≡ m.message.header.to → n ≤ x.sent
  pub runs : (x : TimerStart) → Has x t.history.timers → x.server.0 ≡ s →
      (node.running ≡ true) × (is_some (suspect_of node.state.authority x.client) ≡ true)

-- After a step of the server its replies are dated again, and each row, wait and timer belongs to a client that has a session.
pub record DatedAfter (s : ℕ) (t : Traced) : Type 0 where
  pub node : ServerNode
  pub found : node_of t.world (server s) ≡ Some node
  pub known : Known node.state
  pub dated : Dated s t node

-- So it is after a tick of the server or a delivery to it, if clients ask for locks in some mode.
abbrev pub RepliesStayDated : Type 0
RepliesStayDated =
    (s : ℕ) (t : Traced) (node : ServerNode) (e : Event) (sc : WorldTurn) →
    1 ≤ s → node_of t.world (server s) ≡ Some node → node.running ≡ true → node.state.id.0 ≡ s → 0 < node.state.authority.wait → Known node.state →
    ((m : SentMessage) → Has m t.world.net.messages → WishInput (Control m.message)) → world_step t.world e ≡ Ok sc → StepsAt s t.world e →
    Dated s t node → DatedAfter s (traced_after e t sc)
