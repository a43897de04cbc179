-- Faults have a cause: the failed report that led to each `diskfault`, the pending operations that led to each `opsfull`, and what a server refused.
use Rattle.std.specs.Prelude.{◌≡◌, ℕ, Bool, true, false, ◌&&◌, not, ◌==◌, length, nat_le, Option, Some, None}
use Rattle.std.specs.List.{list_all}
use Rattle.st_base.specs.declared.ids.ClientId.{ClientId}
use Rattle.st_messages.specs.declared.answer.AppAnswer.TheVariants as answers
use Rattle.st_messages.specs.declared.event.Event.{Event}
use Rattle.st_messages.specs.declared.event.Event.TheVariants as events
use Rattle.st_messages.specs.declared.message.Body.{Body}
use Rattle.st_messages.specs.declared.message.Body.TheVariants as bodies
use Rattle.st_messages.specs.declared.message.NameReply.{NameReply}
use Rattle.st_messages.specs.declared.message.NameReply.TheVariants as replies
use Rattle.st_rules.specs.declared.observation.Observation.{Observation}
use Rattle.st_rules.specs.declared.observation.Observation.TheVariants as seen
use Rattle.st_rules.specs.declared.world.IssuedCommand.{IssuedCommand}
use Rattle.st_rules.specs.declared.world.SentMessage.{SentMessage}
use Rattle.st_rules.specs.Keys.{same_client}
use Rattle.st_rules.specs.World.{World, WorldClient, issued_of, message_of, site_of}
use Rattle.st_rules.specs.Safety.{Promise, Step}

-- Faults have a cause: `diskfault` is answered in the step in which the command that it names, one of the client, is reported failed; and
-- `opsfull` is answered to a client of which 16 operations were pending before the event. `notholder`, `nospace`, `toomanylocks` and the
-- refusals of names are answered in the step in which a refusal is delivered to the client.
abbrev pub is_own_command : ClientId → ℕ → Option IssuedCommand → Bool
is_own_command c number None = false
is_own_command c number (Some k) = same_client k.client c && (k.number == number)

-- the event reports that command of the client as failed
abbrev pub fails_command : World → ClientId → ℕ → Event → Bool
fails_command w c number (events.Report k ok) = not ok && is_own_command c number (issued_of w k)
fails_command w c number e = false

-- 16 operations of a client are pending
abbrev pub is_full_at : Option WorldClient → Bool
is_full_at None = false
is_full_at (Some site) = nat_le 16 (length site.node.state.operations)

-- a message that refuses what was asked
abbrev pub refuses_name : NameReply → Bool
refuses_name (replies.Refused code) = true
refuses_name reply = false

-- of a name, or of something else
abbrev pub refuses : Body → Bool
refuses (bodies.Nack why a b) = true
refuses (bodies.Named reply) = refuses_name reply
refuses body = false

-- such a message to the client
abbrev pub is_refusal_to : ClientId → Option SentMessage → Bool
is_refusal_to c None = false
is_refusal_to c (Some m) = (m.message.header.to == c.0) && refuses m.message.body

-- the event delivers one
abbrev pub delivers_refusal : World → ClientId → Event → Bool
delivers_refusal w c (events.Deliver k) = is_refusal_to c (message_of w k)
delivers_refusal w c e = false

-- an observation that is no such answer owes nothing
abbrev pub is_fault_caused : Step → Observation → Bool
is_fault_caused x (seen.Answered c op (answers.DiskFault number)) = fails_command x.before.world c number x.event
is_fault_caused x (seen.Answered c op answers.OpsFull) = is_full_at (site_of x.before.world c)
is_fault_caused x (seen.Answered c op answers.NotHolder) = delivers_refusal x.before.world c x.event
is_fault_caused x (seen.Answered c op (answers.NoSpace free wanted)) = delivers_refusal x.before.world c x.event
is_fault_caused x (seen.Answered c op answers.TooManyLocks) = delivers_refusal x.before.world c x.event
is_fault_caused x (seen.Answered c op (answers.Refused code)) = delivers_refusal x.before.world c x.event
is_fault_caused x o = true

-- Faults have a cause
abbrev pub FaultsHaveACause : Promise
FaultsHaveACause past x = list_all (is_fault_caused x) x.seen ≡ true
