-- The numbers that the lines of an event give to messages and commands, and what they say about them.
use Rattle.std.specs.Prelude.{◌≡◌, ℕ, ◌+◌, Bool, true, false, ◌&&◌, ◌==◌, List, [], ◌∷◌, length, filter_map, Option, Some, None, ⊤}
use Rattle.std.specs.List.{list_all}
use Rattle.st_messages.specs.declared.message.Header.{Header}
use Rattle.st_rules.specs.declared.observation.Observation.{Observation}
use Rattle.st_rules.specs.declared.observation.Observation.TheVariants as seen
use Rattle.st_rules.specs.declared.observation.Summary.{Summary}
use Rattle.st_rules.specs.declared.world.SentMessage.{SentMessage}
use Rattle.st_rules.specs.Events.{summary}
use Rattle.st_rules.specs.Safety.{Promise}
use Rattle.st_rules.specs.World.{World, message_of, issued_of}
use Rattle.st_promises.specs.Faults.{is_own_command}
use Rattle.st_promises.specs.Counts.{with_lines}

-- both count the same
abbrev pub same_summary : Summary → Summary → Bool
same_summary a b =
    ((a.events == b.events) && ((a.sent == b.sent) && ((a.commands == b.commands) && (a.writes == b.writes))))
    && ((a.reads == b.reads) && ((a.hard == b.hard) && ((a.gone == b.gone) && (a.stolen == b.stolen))))

-- the number that a line gives to a message
abbrev pub message_number : Observation → Option ℕ
message_number (seen.Sent k m) = Some k
message_number o = None

-- the number that a line gives to a command
abbrev pub command_number : Observation → Option ℕ
command_number (seen.Submitted k c number what) = Some k
command_number o = None

-- these numbers follow one another, from this one on
unfoldable pub follow_from : ℕ → List ℕ → Bool
follow_from n [] = true
follow_from n (k ∷ ks) = (k == n) && follow_from (n + 1) ks

-- the headers are of one message
abbrev pub same_header : Header → Header → Bool
same_header a b =
    ((a.from == b.from) && ((a.to == b.to) && (a.life == b.life))) && ((a.epoch == b.epoch) && ((a.number == b.number) && (a.stamp == b.stamp)))

-- a message of the network has this header
abbrev pub is_sent_as : Header → Option SentMessage → Bool
is_sent_as h None = false
is_sent_as h (Some m) = same_header m.message.header h

-- the line of a message or of a command describes the one that this world has under its number
abbrev pub is_told_right : World → Observation → Bool
is_told_right w (seen.Sent k m) = is_sent_as m.header (message_of w k)
is_told_right w (seen.Submitted k c number what) = is_own_command c number (issued_of w k)
is_told_right w o = true

-- The lines of an event, from this world to that one: messages and commands have the next numbers, each line describes the one that is
-- there under its number, and the last line of the report would count then what it would have counted before, and these lines.
pub record AreNumbered (w v : World) (os : List Observation) : Type 0 where
  pub messages : follow_from (length w.net.messages + 1) (filter_map message_number os) ≡ true
  pub commands : follow_from (length w.commands + 1) (filter_map command_number os) ≡ true
  pub told : list_all (is_told_right v) os ≡ true
  pub counts : same_summary (summary v) (with_lines (summary w) os) ≡ true

-- Lines give the next numbers: each message and each command has its line, under the next number, and the last line of the report counts
-- what the lines before it have.
abbrev pub LinesGiveTheNextNumbers : Promise
LinesGiveTheNextNumbers past x = AreNumbered x.before.world x.after.world x.seen

-- opens all of this file
unfoldable pub numbers_open : ⊤
unfolding follow_from
numbers_open = tt
