-- The counts are true: what the lines of an event say about messages and commands, and what they count.
use Rattle.std.specs.Prelude.{◌≡◌, ℕ, ◌+◌, Bool, true, false, List, [], ◌∷◌, ◌++◌, length, drop, filter, filter_map, map, take, Option, Some, None, ⊤}
use Rattle.st_base.specs.declared.disk.Command.{Command}
use Rattle.st_base.specs.declared.ids.ClientId.{ClientId}
use Rattle.st_messages.specs.declared.answer.AppAnswer.TheVariants as answers
use Rattle.st_messages.specs.declared.message.Message.{Message}
use Rattle.st_rules.specs.declared.disks.DiskCommand.{DiskCommand}
use Rattle.st_rules.specs.declared.observation.Observation.{Observation}
use Rattle.st_rules.specs.declared.observation.Observation.TheVariants as seen
use Rattle.st_rules.specs.declared.observation.Summary.{Summary}
use Rattle.st_rules.specs.declared.world.IssuedCommand.{IssuedCommand}
use Rattle.st_rules.specs.declared.world.SentMessage.{SentMessage}
use Rattle.st_rules.specs.Events.{summary}
use Rattle.st_rules.specs.World.{World}
use Rattle.st_rules.specs.Safety.{Promise}

-- the message of a line, and its number
abbrev pub message_told : Observation → Option (ℕ × Message)
message_told (seen.Sent k m) = Some (k, m)
message_told o = None

-- whose the command of a line is and the client's own number for it, and its number
abbrev pub command_told : Observation → Option (ℕ × (ClientId × ℕ))
command_told (seen.Submitted k c number what) = Some (k, (c, number))
command_told o = None

-- what the command of a line is
abbrev pub what_told : Observation → Option Command
what_told (seen.Submitted k c number what) = Some what
what_told o = None

-- a message that was sent
abbrev pub message_in : SentMessage → Message
message_in m = m.message

-- whose a command is, and the client's own number for it
abbrev pub command_in : IssuedCommand → ClientId × ℕ
command_in c = (c.client, c.number)

-- what a command is
abbrev pub what_in : DiskCommand → Command
what_in c = c.what

-- each under its number, from this one on
unfoldable pub under_numbers : {A : Type 0} → ℕ → List A → List (ℕ × A)
under_numbers n [] = []
under_numbers n (x ∷ xs) = (n, x) ∷ under_numbers (n + 1) xs

-- how many of these lines pass a test
abbrev pub count_lines : (Observation → Bool) → List Observation → ℕ
count_lines p os = length (filter p os)

-- the line of a message
abbrev pub is_message_line : Observation → Bool
is_message_line (seen.Sent k m) = true
is_message_line o = false

-- the line of a command
abbrev pub is_command_line : Observation → Bool
is_command_line (seen.Submitted k c number what) = true
is_command_line o = false

-- the line of a write or a patch
abbrev pub is_change_line : Observation → Bool
is_change_line (seen.Wrote index c f p bytes) = true
is_change_line (seen.Patched index c f p at bytes) = true
is_change_line o = false

-- the answer of a read
abbrev pub is_read_line : Observation → Bool
is_read_line (seen.Answered c op (answers.Read bytes)) = true
is_read_line o = false

-- an entry became hard
abbrev pub is_hard_line : Observation → Bool
is_hard_line (seen.Hardened index) = true
is_hard_line o = false

-- an entry was dropped
abbrev pub is_drop_line : Observation → Bool
is_drop_line (seen.Dropped index cause) = true
is_drop_line o = false

-- a client's locks were stolen
abbrev pub is_theft_line : Observation → Bool
is_theft_line (seen.Stolen s c life) = true
is_theft_line o = false

-- a summary with what the lines of one more event count
abbrev pub with_lines : Summary → List Observation → Summary
with_lines s os =
    record {
      events = s.events + 1;
      sent = s.sent + count_lines is_message_line os;
      commands = s.commands + count_lines is_command_line os;
      writes = s.writes + count_lines is_change_line os;
      reads = s.reads + count_lines is_read_line os;
      hard = s.hard + count_lines is_hard_line os;
      gone = s.gone + count_lines is_drop_line os;
      stolen = s.stolen + count_lines is_theft_line os;
    }

-- the lines of an event tell what it added to this world, and what it counted
pub record IsCounted (w v : World) (os : List Observation) : Type 0 where
  pub messages : filter_map message_told os ≡ under_numbers (length w.net.messages + 1) (drop (length w.net.messages) (map message_in v.net.messages))
  pub kept_messages : take (length w.net.messages) (map message_in v.net.messages) ≡ map message_in w.net.messages
  pub commands : filter_map command_told os ≡ under_numbers (length w.commands + 1) (drop (length w.commands) (map command_in v.commands))
  pub kept_commands : take (length w.commands) (map command_in v.commands) ≡ map command_in w.commands
  pub whats : map what_in v.disks.commands ≡ map what_in w.disks.commands ++ filter_map what_told os
  pub counts : summary v ≡ with_lines (summary w) os

-- The counts are true: after each event the messages are those before it and those of its lines, in their order and with the next
-- numbers, and so are the commands; and what the last line of the report would count then is what it would have counted before the event
-- and what the lines of the event have. So the last line counts what all lines before it have.
abbrev pub TheCountsAreTrue : Promise
TheCountsAreTrue past x = IsCounted x.before.world x.after.world x.seen

-- opens all of this file
unfoldable pub counts_open : ⊤
unfolding under_numbers
counts_open = tt
