-- The scripts of the command `move`: their lines, and what each event is answered. docs/PROTOCOL.md, "Scripts".
use Rattle.std.specs.Prelude.{ℕ, ◌+◌, Bool, ◌&&◌, nat_le, if◌then◌else◌, List, [], ◌∷◌, ◌++◌, length, map, flat_map, codes, Result, Ok, Err}
use Rattle.std.specs.Fmt.{decimal}
use Rattle.std.specs.List.{list_all}
use Rattle.std.specs.Str.{bytes_eq}
use Rattle.st_base.specs.declared.ids.ServerId.{ServerId}
use Rattle.st_rules.specs.Report.{field}
use Rattle.st_schedule.specs.Parser.{◌>>=◌, Read, ends, number_at, syntax_at, word_at}
use Rattle.st_schedule_words.specs.Words.{MOST_NUMBER, is_visible}
use Rattle.st_schedule.specs.declared.fault.Fault.{Fault}
use Rattle.st_script.specs.Scripts.{Rules}
use Rattle.st_move.specs.Network.{MoveNetwork}
use Rattle.st_move.specs.World.{fresh_world, happens, server}
use Rattle.st_move.specs.declared.record.MoveMessage.{MoveMessage}
use Rattle.st_move.specs.declared.record.MoveMessage.TheVariants.{Image, Taken}
use Rattle.st_move.specs.declared.refusal.MoveRefusal.{MoveRefusal}
use Rattle.st_move.specs.declared.refusal.MoveRefusal.TheVariants as refusals
use Rattle.st_move.specs.declared.world.MoveAnswer.{MoveAnswer}
use Rattle.st_move.specs.declared.world.MoveAnswer.TheVariants.{Done, Counted, Listed, Refused, NoServer, NoLock, NoMessage, LostMessage, Sends}
use Rattle.st_move.specs.declared.world.MoveEvent.{MoveEvent}
use Rattle.st_move.specs.declared.world.MoveEvent.TheVariants as events
use Rattle.st_move.specs.declared.world.SentMove.{SentMove}

-- Lines.

-- the greatest number of a server, and of a container
abbrev pub MOST_SERVER : ℕ
MOST_SERVER = 4

abbrev pub MOST_CONTAINER : ℕ
MOST_CONTAINER = 99

-- a server's number
unfoldable pub server_at : List (List ℕ) → Read ServerId
server_at ws = do
  s ← number_at 1 MOST_SERVER ws
  Ok (server s.0, s.1)

-- the numbers of a server and of a container
unfoldable pub place_at : List (List ℕ) → Read (ServerId × ℕ)
place_at ws = do
  s ← server_at ws
  c ← number_at 1 MOST_CONTAINER s.1
  Ok ((s.0, c.0), c.1)

-- the text of an update: 1 to 64 visible bytes
abbrev pub is_update_text : List ℕ → Bool
is_update_text w = nat_le 1 (length w) && (nat_le (length w) 64 && list_all is_visible w)

unfoldable pub update_at : List (List ℕ) → Read (List ℕ)
update_at ws = do
  w ← word_at ws
  if is_update_text w.0 then Ok w else syntax_at ws

-- `put S C TEXT`
unfoldable pub put_at : List (List ℕ) → Result MoveEvent Fault
put_at ws = do
  at ← place_at ws
  update ← update_at at.1
  none ← ends update.1
  Ok (events.Put at.0.0 at.0.1 update.0)

-- the words of a line that names a server and a container and no more
unfoldable pub place_alone : List (List ℕ) → Result (ServerId × ℕ) Fault
place_alone ws = do
  at ← place_at ws
  none ← ends at.1
  Ok at.0

-- `list S C`
unfoldable pub list_at : List (List ℕ) → Result MoveEvent Fault
list_at ws = do
  at ← place_alone ws
  Ok (events.List at.0 at.1)

-- `lock S C`
unfoldable pub lock_at : List (List ℕ) → Result MoveEvent Fault
lock_at ws = do
  at ← place_alone ws
  Ok (events.Lock at.0 at.1)

-- `unlock S C`
unfoldable pub unlock_at : List (List ℕ) → Result MoveEvent Fault
unlock_at ws = do
  at ← place_alone ws
  Ok (events.Unlock at.0 at.1)

-- `order S C TO`
unfoldable pub order_at : List (List ℕ) → Result MoveEvent Fault
order_at ws = do
  at ← place_at ws
  to ← server_at at.1
  none ← ends to.1
  Ok (events.Order at.0.0 at.0.1 to.0)

-- `tick S`
unfoldable pub tick_at : List (List ℕ) → Result MoveEvent Fault
tick_at ws = do
  s ← server_at ws
  none ← ends s.1
  Ok (events.Tick s.0)

-- the number of a message, and no more
unfoldable pub message_alone : List (List ℕ) → Result ℕ Fault
message_alone ws = do
  k ← number_at 1 MOST_NUMBER ws
  none ← ends k.1
  Ok k.0

-- `deliver K`
unfoldable pub deliver_at : List (List ℕ) → Result MoveEvent Fault
deliver_at ws = do
  k ← message_alone ws
  Ok (events.Deliver k)

-- `lose K`
unfoldable pub lose_at : List (List ℕ) → Result MoveEvent Fault
lose_at ws = do
  k ← message_alone ws
  Ok (events.Lose k)

-- the event of a first word, of all these words, and the rest of them
unfoldable pub other_of : List ℕ → List (List ℕ) → List (List ℕ) → Result MoveEvent Fault
other_of w ws rest =
    if bytes_eq w (codes "order") then order_at rest
    else if bytes_eq w (codes "tick") then tick_at rest
    else if bytes_eq w (codes "deliver") then deliver_at rest
    else if bytes_eq w (codes "lose") then lose_at rest else syntax_at ws

unfoldable pub event_of : List ℕ → List (List ℕ) → List (List ℕ) → Result MoveEvent Fault
event_of w ws rest =
    if bytes_eq w (codes "put") then put_at rest
    else if bytes_eq w (codes "list") then list_at rest
    else if bytes_eq w (codes "lock") then lock_at rest
    else if bytes_eq w (codes "unlock") then unlock_at rest else other_of w ws rest

-- the event of the words of a line
unfoldable pub event : List (List ℕ) → Result MoveEvent Fault
event [] = syntax_at []
event (w ∷ ws) = event_of w (w ∷ ws) ws

-- First lines.

-- that many servers with this many containers, and no event yet
abbrev pub fresh : ℕ × ℕ → MoveNetwork
fresh n = record { world = fresh_world n.0 n.1; events = 0 }

-- the words after `move`: how many servers there are, and how many containers
unfoldable pub counts_at : List (List ℕ) → Result (ℕ × ℕ) Fault
counts_at ws = do
  servers ← number_at 2 MOST_SERVER ws
  containers ← number_at 1 64 servers.1
  none ← ends containers.1
  Ok (servers.0, containers.0)

abbrev pub begun : Result (ℕ × ℕ) Fault → Result MoveNetwork Fault
begun (Ok n) = Ok (fresh n)
begun (Err f) = Err f

-- a first line: `move SERVERS CONTAINERS`
unfoldable pub head : List (List ℕ) → Result MoveNetwork Fault
head [] = syntax_at []
head (w ∷ ws) = if bytes_eq w (codes "move") then begun (counts_at ws) else syntax_at (w ∷ ws)

-- Answers, each after a space.

-- bytes after a space
abbrev pub word : List ℕ → List ℕ
word bytes = 32 ∷ bytes

-- a server after a space
abbrev pub server_text : ServerId → List ℕ
server_text s = codes " s" ++ decimal s.0

-- a refusal; a server that runs out of memory answers nothing
unfoldable pub refusal : MoveRefusal → List ℕ
refusal (refusals.NoContainer c) = codes " nocontainer" ++ field c
refusal refusals.Absent = codes " absent"
refusal (refusals.Leaving to) = codes " leaving" ++ field to.0
refusal (refusals.Redirect to version) = codes " redirect" ++ field to.0 ++ field version
refusal (refusals.Full bytes) = codes " full" ++ field bytes
refusal refusals.Same = codes " same"
refusal refusals.Memory = []

-- a message
unfoldable pub message : MoveMessage → List ℕ
message (Image c version updates) = codes " image" ++ field c ++ field version ++ field (length updates)
message (Taken c version) = codes " taken" ++ field c ++ field version

-- a message that is sent, under its number
abbrev pub sent : ℕ → SentMove → List ℕ
sent k m = codes " send" ++ field k ++ server_text m.from ++ server_text m.to ++ message m.message

-- updates, each after a space
abbrev pub listed : List (List ℕ) → List ℕ
listed updates = codes " list" ++ flat_map word updates

-- an answer
unfoldable pub answer : MoveAnswer → List ℕ
answer Done = codes " ok"
answer (Counted updates) = codes " ok" ++ field updates
answer (Listed updates) = listed updates
answer (Refused why) = refusal why
answer (NoServer s) = codes " noserver" ++ field s.0
answer NoLock = codes " nolock"
answer (NoMessage k) = codes " nomessage" ++ field k
answer (LostMessage k) = codes " lostmessage" ++ field k
answer (Sends k m) = sent k m

-- the answers to an event, and what it leaves
abbrev pub answers : MoveNetwork → MoveEvent → List (List ℕ)
answers r e = map answer (happens r.world e).answers

abbrev pub next : MoveNetwork → MoveEvent → MoveNetwork
next r e = record { world = (happens r.world e).world; events = r.events + 1 }

-- the last line: how many events there were, and how many messages were sent
abbrev pub last_text : ℕ → ℕ → List ℕ
last_text events sent_count = codes "end events" ++ field events ++ codes " sent" ++ field sent_count ++ codes "\n"

abbrev pub last : ℕ → MoveNetwork → List ℕ
last events r = last_text events (length r.world.sent)

-- the rules of the command
abbrev pub move_rules : Rules MoveNetwork MoveEvent
move_rules = record { event = event; answers = answers; next = next; last = last }
