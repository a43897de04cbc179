-- A client's requests to a server, and what each call returns and leaves of them.
use Rattle.std.specs.Prelude.{ℕ, Bool, Option, Some, None, is_some, option_map, if◌then◌else◌}
use denote.Ref.{Bor}
use Rattle.st_base.specs.declared.ids.ClientId.{ClientId}
use Rattle.st_base.specs.declared.ids.ServerId.{ServerId}
use Rattle.st_base.specs.declared.ids.Life.{Life}
use Rattle.st_base.specs.declared.ids.Epoch.{Epoch}
use Rattle.st_base.specs.declared.ids.Stamp.{Stamp}
use Rattle.st_messages.specs.declared.message.Header.{Header}
use Rattle.st_messages.specs.declared.message.Body.{Body}
use Rattle.st_messages.specs.declared.message.Message.{Message}
use Rattle.st_rules.specs.declared.client.Request.{Request}
use Rattle.st_rules.specs.Keys.{server_node}
use Rattle.st_rules.specs.ClientState.{Requests}
use Rattle.st_rules.specs.ClientState as client_state
use Rattle.st_requests.specs.declared.requests.Reply.{Reply}
use Rattle.st_requests.specs.declared.requests.Reply.TheVariants.{Match, Other}

-- the life and the epoch under which a request was asked
pub record Under : Type 0 where
  pub life : Life
  pub epoch : Epoch

-- The client, the server, the time after which an unanswered request is sent again, the life and the epoch of the outstanding
-- request, and the requests.
pub record ServerRequests : Type 0 where
  pub client : ClientId
  pub server : ServerId
  pub retry : ℕ
  pub under : Option Under
  pub requests : Requests

-- nothing was asked yet
abbrev pub no_requests : ClientId → ServerId → ℕ → ServerRequests
no_requests client server retry = record { client = client; server = server; retry = retry; under = None; requests = client_state.no_requests }

-- what precedes a request
abbrev pub header : ClientId → ServerId → Under → ℕ → Stamp → Header
header c s u number now = record { from = c.0; to = server_node s; life = u.life.0; epoch = u.epoch.0; number = number; stamp = now.0 }

-- the message of a request
abbrev pub message : ClientId → ServerId → Under → ℕ → Body → Stamp → Message
message c s u number body now = record { header = header c s u number now; body = body }

-- Asking: the message has the next number.
abbrev pub asked_message : Under → Body → Stamp → ServerRequests → Message
asked_message u body now r = message r.client r.server u r.requests.next body now

-- the requests after that
abbrev pub asking : Under → Body → Stamp → ServerRequests → ServerRequests
asking u body now r = record r { under = Some u; requests = client_state.asking r.requests body now }

-- Asking again: the message, and the requests after that
pub record Again : Type 0 where
  pub message : Option Message
  pub requests : ServerRequests

-- it is too early, or nothing is outstanding
abbrev pub not_again : ServerRequests → Again
not_again r = record { message = None; requests = r }

-- the outstanding request is sent now
unfoldable pub sent_again : ServerRequests → Under → Request → Stamp → Again
sent_again r u q now =
    record {
      message = Some (message r.client r.server u q.number q.body now);
      requests = record r { requests = client_state.asked_again q now r.requests };
    }

-- if it was last sent long ago
unfoldable pub again_if_due : ServerRequests → Under → Request → Stamp → Again
again_if_due r u q now = if client_state.is_again_due r.retry now q then sent_again r u q now else not_again r

-- if something is outstanding
unfoldable pub again_of : ServerRequests → Option Under → Option Request → Stamp → Again
again_of r (Some u) (Some q) now = again_if_due r u q now
again_of r u q now = not_again r

-- Asking again
unfoldable pub again : ServerRequests → Stamp → Again
again r now = again_of r r.under r.requests.asked now

-- what a call of it leaves
abbrev pub leaves_again : Option Message → ServerRequests → Again
leaves_again message r = record { message = message; requests = r }

-- Replying: a reply to the outstanding request ends it, and every other reply changes nothing.
pub record Replied : Type 0 where
  pub reply : Reply
  pub requests : ServerRequests

-- nothing is outstanding from then on
abbrev pub ended : ServerRequests → ServerRequests
ended r = record r { under = None; requests = client_state.request_ended r.requests }

-- the outstanding request is ended
abbrev pub matched : ServerRequests → Body → Replied
matched r body = record { reply = Match body; requests = ended r }

-- another reply
abbrev pub not_matched : ServerRequests → Replied
not_matched r = record { reply = Other; requests = r }

-- what a call of it leaves
abbrev pub leaves_reply : Reply → ServerRequests → Replied
leaves_reply reply r = record { reply = reply; requests = r }

-- by the number of the outstanding request
unfoldable pub reply_to : ServerRequests → ℕ → Option Request → Replied
reply_to r number None = not_matched r
reply_to r number (Some q) = if client_state.is_request_of number q then matched r q.body else not_matched r

-- Replying
unfoldable pub reply : ServerRequests → ℕ → Replied
reply r number = reply_to r number r.requests.asked

-- the number and the body of a request
abbrev pub shown : Request → ℕ × Body
shown q = (q.number, q.body)

-- the number and the body of the outstanding request
abbrev pub asked : ServerRequests → Option (ℕ × Body)
asked r = option_map shown r.requests.asked

-- a number and a body, with the body that the lent reference points to
abbrev pub copied : ℕ × Bor Body → ℕ × Body
copied p = (p.0, p.1.now)

-- when a request was last sent
abbrev pub sent_of : Request → Stamp
sent_of q = q.sent

-- when the outstanding request was last sent
abbrev pub sent : ServerRequests → Option Stamp
sent r = option_map sent_of r.requests.asked

-- something is outstanding
abbrev pub waiting : ServerRequests → Bool
waiting r = is_some r.requests.asked

-- the body of a request
abbrev pub body_of : Request → Body
body_of q = q.body

-- A new epoch gives up the outstanding request, and the next number is 1.
abbrev pub restarted : ServerRequests → ServerRequests
restarted r = record r { under = None; requests = client_state.no_requests }

-- what it gave up
abbrev pub given_up : ServerRequests → Option Body
given_up r = option_map body_of r.requests.asked
