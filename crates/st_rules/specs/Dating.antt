-- Dating: which requests and replies may date a lease.
use Rattle.std.specs.Prelude.{ℕ, ◌+◌, Bool, true, false, ◌&&◌, ◌||◌, not, ◌==◌, nat_le, List, [], ◌∷◌, ⊤}
use Rattle.std.specs.List.{list_all}
use Rattle.st_base.specs.declared.ids.ClientId.{ClientId}
use Rattle.st_base.specs.declared.ids.ServerId.{ServerId}
use Rattle.st_base.specs.declared.ids.Life.{Life}
use Rattle.st_base.specs.declared.ids.Stamp.{Stamp}
use Rattle.st_base.specs.declared.ids.NodeId.TheVariants as nodes
use Rattle.st_messages.specs.declared.message.Message.{Message}
use Rattle.st_messages.specs.declared.message.Header.{Header}
use Rattle.st_messages.specs.declared.message.Body.{Body}
use Rattle.st_messages.specs.declared.message.Body.TheVariants as bodies
use Rattle.st_messages.specs.declared.message.Why.{Why}
use Rattle.st_messages.specs.declared.message.Why.TheVariants as why
use Rattle.st_rules.specs.declared.observation.Observation.{Observation}
use Rattle.st_rules.specs.declared.observation.Observation.TheVariants as seen
use Rattle.st_rules.specs.declared.world.SentMessage.{SentMessage}
use Rattle.st_rules.specs.Keys.{same_client, same_server, server_node}
use Rattle.st_rules.specs.World.{World, clock_of}
use Rattle.st_rules.specs.History.{Traced, History, TimerStart}

-- a request: what a client sends but a seen demand
abbrev pub is_request : Body → Bool
is_request (bodies.DemandSeen ino g) = false
is_request body = true

-- from a client to a server
abbrev pub is_between : ClientId → ServerId → Header → Bool
is_between c s h = (h.from == c.0) && (h.to == server_node s)

-- of a life, and with this stamp
abbrev pub is_stamped : Life → Stamp → Header → Bool
is_stamped life date h = (h.life == life.0) && (h.stamp == date.0)

-- a request of a client's life to a server, with this stamp
abbrev pub is_request_at : ClientId → ServerId → Life → Stamp → Message → Bool
is_request_at c s life date m = is_between c s m.header && (is_request m.body && is_stamped life date m.header)

-- a refusal of the client itself or of its epoch, by which no lease is renewed
abbrev pub refuses_client : Why → Bool
refuses_client why.Suspect = true
refuses_client why.NoSession = true
refuses_client why.OtherEpoch = true
refuses_client why.Grace = true
refuses_client why.GraceOver = true
refuses_client why.Conflict = true
refuses_client w = false

-- a message that may date a lease: neither such a refusal, nor a demand or a grant that answers no request
abbrev pub may_date : ℕ → Body → Bool
may_date number (bodies.Nack w a b) = not (refuses_client w)
may_date number (bodies.Demand ino g to) = false
may_date number (bodies.Granted ino g mode) = not (number == 0)
may_date number body = true

-- it goes back to where the other came from
abbrev pub goes_back : Header → Header → Bool
goes_back q h = (h.from == q.to) && (h.to == q.from)

-- it has the life, the number and the stamp of the other
abbrev pub answers_to : Header → Header → Bool
answers_to q h = (h.life == q.life) && ((h.number == q.number) && (h.stamp == q.stamp))

-- a reply to a request, by which a lease may be dated
abbrev pub is_reply_to : Message → Message → Bool
is_reply_to q m = may_date m.header.number m.body && (goes_back q.header m.header && answers_to q.header m.header)

-- a timer of this client started after that many messages
abbrev pub started_after : ServerId → ClientId → ℕ → TimerStart → Bool
started_after s c k t = not (same_server t.server s && same_client t.client c) || nat_le k t.sent

-- every timer that runs for this client started after that many messages
abbrev pub is_before_timers : History → ServerId → ClientId → ℕ → Bool
is_before_timers h s c k = list_all (started_after s c k) h.timers

-- a message of the network is a reply to this request, sent before the timers
unfoldable pub replied_from : ℕ → Traced → ServerId → ClientId → Message → List SentMessage → Bool
replied_from number t s c q [] = false
replied_from number t s c q (m ∷ ms) = (is_reply_to q m.message && is_before_timers t.history s c number) || replied_from (number + 1) t s c q ms

-- the request was replied to before the timers
abbrev pub is_replied : Traced → ServerId → ClientId → Message → Bool
is_replied t s c q = replied_from 1 t s c q t.world.net.messages

-- a message that dates a lease, sent at its stamp
abbrev pub dates_it : Traced → World → ClientId → ServerId → Life → Stamp → Observation → Bool
dates_it now before c s life date (seen.Sent k q) = is_request_at c s life date q && (((clock_of before (nodes.Client c)).0 == date.0) && is_replied now s c q)
dates_it now before c s life date o = false

-- opens all of this file
unfoldable pub dating_open : ⊤
unfolding replied_from
dating_open = tt
