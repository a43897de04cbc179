-- Grant numbers are given once: a number of a server names one client and one file, for ever.
use Rattle.std.specs.Prelude.{◌≡◌, ℕ, Bool, true, false, ◌&&◌, ◌||◌, not, ◌==◌, nat_lt, List, map}
use Rattle.std.specs.List.{list_all, list_any}
use Rattle.st_base.specs.declared.ids.GrantNo.{GrantNo}
use Rattle.st_base.specs.declared.ids.ServerId.{ServerId}
use Rattle.st_messages.specs.declared.message.Body.{Body}
use Rattle.st_messages.specs.declared.message.Body.TheVariants as bodies
use Rattle.st_messages.specs.declared.message.Message.{Message}
use Rattle.st_rules.specs.Keys.{server_node}
use Rattle.st_rules.specs.Safety.{Promise}
use Rattle.st_rules.specs.World.{all_servers}
use Rattle.st_promises.specs.Counts.{message_in}

-- a grant under this number
abbrev pub has_number : GrantNo → Body → Bool
has_number g (bodies.Granted ino h mode) = h.0 == g.0
has_number g body = false

-- a grant of this file
abbrev pub is_of_file : ℕ → Body → Bool
is_of_file ino (bodies.Granted i g mode) = i == ino
is_of_file ino body = false

-- the server's grants under this number go to this client, for this file
abbrev pub agrees : ServerId → ℕ → ℕ → GrantNo → Message → Bool
agrees s to ino g m = not ((m.header.from == server_node s) && has_number g m.body) || ((m.header.to == to) && is_of_file ino m.body)

-- a grant of the server agrees with all of these
abbrev pub grants_once : ServerId → List Message → ℕ → Body → Bool
grants_once s ms to (bodies.Granted ino g mode) = list_all (agrees s to ino g) ms
grants_once s ms to body = true

-- a message of the server, if it is a grant
abbrev pub is_given_once : ServerId → List Message → Message → Bool
is_given_once s ms m = not (m.header.from == server_node s) || grants_once s ms m.header.to m.body

-- all messages of the server
abbrev pub gives_once : List Message → ServerId → Bool
gives_once ms s = list_all (is_given_once s ms) ms

-- Grant numbers are given once: of all messages that were ever sent, the grants of a server under one number go to one client, for one file.
abbrev pub GrantNumbersAreGivenOnce : Promise
GrantNumbersAreGivenOnce past x = list_all (gives_once (map message_in x.after.world.net.messages)) (all_servers x.after.world) ≡ true

-- a lower number
abbrev pub is_number_below : GrantNo → Body → Bool
is_number_below g (bodies.Granted ino h mode) = nat_lt h.0 g.0
is_number_below g body = true

-- a grant of the server under this number
abbrev pub is_number_of : ServerId → GrantNo → Message → Bool
is_number_of s g m = (m.header.from == server_node s) && has_number g m.body

-- the server's grants have lower numbers
abbrev pub gives_below : ServerId → GrantNo → Message → Bool
gives_below s g m = not (m.header.from == server_node s) || is_number_below g m.body

-- a grant under a number that was sent before, or above all that were
abbrev pub rises : ServerId → List Message → Body → Bool
rises s before (bodies.Granted ino g mode) = list_any (is_number_of s g) before || list_all (gives_below s g) before
rises s before body = true

-- a message of the server, if it is a grant
abbrev pub is_risen : ServerId → List Message → Message → Bool
is_risen s before m = not (m.header.from == server_node s) || rises s before m.body

-- all messages of the server
abbrev pub gives_rising : List Message → List Message → ServerId → Bool
gives_rising before after s = list_all (is_risen s before) after

-- Grant numbers rise: of all messages that are there after an event, each grant of a server is under a number that it had sent before the event, or under one
-- above all that it had sent.
abbrev pub GrantNumbersRise : Promise
GrantNumbersRise past x =
    list_all (gives_rising (map message_in x.before.world.net.messages) (map message_in x.after.world.net.messages)) (all_servers x.after.world) ≡ true
