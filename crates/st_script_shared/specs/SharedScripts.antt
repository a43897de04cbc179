-- The scripts of the command `shared`: their lines, and what each event is answered. docs/PROTOCOL.md, "Scripts".
use Rattle.std.specs.Prelude.{ℕ, ◌&&◌, nat_le, if◌then◌else◌, List, [], ◌∷◌, ◌++◌, length, codes, Option, Some, None, Result, Ok, Err}
use Rattle.std.specs.Str.{bytes_eq}
use Rattle.st_base.specs.Page.{filled}
use Rattle.st_base.specs.declared.ids.ClientId.{ClientId}
use Rattle.st_base.specs.declared.ids.PageNo.{PageNo}
use Rattle.st_disk.specs.declared.refusal.DiskRefusal.{DiskRefusal}
use Rattle.st_disk.specs.declared.refusal.DiskRefusal.TheVariants as disk_refusals
use Rattle.st_rules.specs.Report.{field, runs}
use Rattle.st_schedule.specs.Grammar.{MOST_PAGE}
use Rattle.st_schedule.specs.Parser.{◌>>=◌, Read, ends, number_at, result_at, syntax_at}
use Rattle.st_schedule_words.specs.Words.{MOST_NUMBER}
use Rattle.st_schedule.specs.declared.fault.Fault.{Fault}
use Rattle.st_script.specs.Scripts.{Rules}
use Rattle.st_script_shared.specs.declared.shared_event.ClientAct.{ClientAct}
use Rattle.st_script_shared.specs.declared.shared_event.ClientAct.TheVariants as acts
use Rattle.st_script_shared.specs.declared.shared_event.SharedEvent.{SharedEvent}
use Rattle.st_script_shared.specs.declared.shared_event.SharedEvent.TheVariants as events
use Rattle.st_script_shared.specs.declared.shared_event.SharedHead.{SharedHead}
use Rattle.st_shared.specs.declared.refusal.SharedRefusal.{SharedRefusal}
use Rattle.st_shared.specs.declared.refusal.SharedRefusal.TheVariants as refusals
use Rattle.st_shared.specs.History.{Call, Enter, Leave, Lock, Unlock, Crash, Expire, Write, Read as Reads, Effect, Report, Traced, AreRight, answer_of, go_on, rule_of}
use Rattle.st_shared.specs.Shared.{fresh_shared, Answer, Done, Number, Hard, Bytes, Failed, Silent, Refused}
use Rattle.st_tables.specs.Tables.{is_client}

-- First lines.

-- the words after `shared`: how many clients there are, and how many blocks
unfoldable pub counts_at : List (List ℕ) → Result SharedHead Fault
counts_at ws = do
  clients ← number_at 1 16 ws
  blocks ← number_at 1 4096 clients.1
  none ← ends blocks.1
  Ok (record { clients = clients.0; blocks = blocks.0 })

-- Events.

-- a client's number goes from 1 to 16, whatever the first line says
unfoldable pub client_at : List (List ℕ) → Read ClientId
client_at ws = do
  client ← number_at 1 16 ws
  Ok (record { 0 = client.0 }, client.1)

-- a page's number
unfoldable pub page_at : List (List ℕ) → Read PageNo
page_at ws = do
  page ← number_at 0 MOST_PAGE ws
  Ok (record { 0 = page.0 }, page.1)

-- `enter C`, and the other acts of a client that aren't commands
unfoldable pub act_at : ClientAct → List (List ℕ) → Result SharedEvent Fault
act_at act ws = do
  client ← client_at ws
  none ← ends client.1
  Ok (events.Client act client.0)

-- `write C P B`
unfoldable pub write_at : List (List ℕ) → Result SharedEvent Fault
write_at ws = do
  client ← client_at ws
  page ← page_at client.1
  byte ← number_at 0 255 page.1
  none ← ends byte.1
  Ok (events.Write client.0 page.0 byte.0)

-- `read C P`
unfoldable pub read_at : List (List ℕ) → Result SharedEvent Fault
read_at ws = do
  client ← client_at ws
  page ← page_at client.1
  none ← ends page.1
  Ok (events.Read client.0 page.0)

-- `effect K`
unfoldable pub effect_at : List (List ℕ) → Result SharedEvent Fault
effect_at ws = do
  command ← number_at 1 MOST_NUMBER ws
  none ← ends command.1
  Ok (events.Effect command.0)

-- `report K ok` and `report K fail`
unfoldable pub report_at : List (List ℕ) → Result SharedEvent Fault
report_at ws = do
  command ← number_at 1 MOST_NUMBER ws
  ok ← result_at command.1
  none ← ends ok.1
  Ok (events.Report command.0 ok.0)

-- the event of a command's first word, of all these words, and the rest of them
unfoldable pub command_of : List ℕ → List (List ℕ) → List (List ℕ) → Result SharedEvent Fault
command_of w ws rest =
    if bytes_eq w (codes "write") then write_at rest
    else if bytes_eq w (codes "read") then read_at rest
    else if bytes_eq w (codes "effect") then effect_at rest
    else if bytes_eq w (codes "report") then report_at rest else syntax_at ws

-- the event of a first word that says how a client ends, or of another one
unfoldable pub stop_of : List ℕ → List (List ℕ) → List (List ℕ) → Result SharedEvent Fault
stop_of w ws rest =
    if bytes_eq w (codes "crash") then act_at acts.Crash rest
    else if bytes_eq w (codes "expire") then act_at acts.Expire rest else command_of w ws rest

-- the event of a first word, of all these words, and the rest of them
unfoldable pub event_of : List ℕ → List (List ℕ) → List (List ℕ) → Result SharedEvent Fault
event_of w ws rest =
    if bytes_eq w (codes "enter") then act_at acts.Enter rest
    else if bytes_eq w (codes "leave") then act_at acts.Leave rest
    else if bytes_eq w (codes "lock") then act_at acts.Lock rest
    else if bytes_eq w (codes "unlock") then act_at acts.Unlock rest else stop_of w ws rest

-- the event of the words of a line
unfoldable pub event : List (List ℕ) → Result SharedEvent Fault
event [] = syntax_at []
event (w ∷ ws) = event_of w (w ∷ ws) ws

-- What an event calls.

-- the call of what a client does that isn't a command
abbrev pub act_call : ClientAct → ClientId → Call
act_call acts.Enter c = Enter c
act_call acts.Leave c = Leave c
act_call acts.Lock c = Lock c
act_call acts.Unlock c = Unlock c
act_call acts.Crash c = Crash c
act_call acts.Expire c = Expire c

-- the call of an event; a write is of a page of one byte repeated
abbrev pub call_of : SharedEvent → Call
call_of (events.Client act c) = act_call act c
call_of (events.Write c page byte) = Write c page (filled byte)
call_of (events.Read c page) = Reads c page
call_of (events.Effect n) = Effect n
call_of (events.Report n ok) = Report n ok

-- the client of an event, if it has one
abbrev pub client_of : SharedEvent → Option ClientId
client_of (events.Client act c) = Some c
client_of (events.Write c page byte) = Some c
client_of (events.Read c page) = Some c
client_of (events.Effect n) = None
client_of (events.Report n ok) = None

-- The state: how many clients there are, the shared file, and the calls and answers so far.
pub record SharedState : Type 0 where
  pub clients : ℕ
  pub traced : Traced

-- nothing was called
abbrev pub fresh : SharedHead → SharedState
fresh h = record { clients = h.clients; traced = record { state = fresh_shared h.blocks; past = [] } }

abbrev pub begun : Result SharedHead Fault → Result SharedState Fault
begun (Ok h) = Ok (fresh h)
begun (Err f) = Err f

-- a first line: `shared CLIENTS BLOCKS`
unfoldable pub head : List (List ℕ) → Result SharedState Fault
head [] = syntax_at []
head (w ∷ ws) = if bytes_eq w (codes "shared") then begun (counts_at ws) else syntax_at (w ∷ ws)

-- the client that an event is of and that is not there: clients are from 1 to the number of the first line
abbrev pub absent : ℕ → Option ClientId → Option ClientId
absent clients None = None
absent clients (Some c) = if is_client c.0 && nat_le c.0 clients then None else Some c

-- an event of a client that is not there calls nothing
abbrev pub traced_on : Traced → Call → Option ClientId → Traced
traced_on t call None = go_on t call
traced_on t call (Some c) = t

-- the state after an event
unfoldable pub next : SharedState → SharedEvent → SharedState
next s e = record { clients = s.clients; traced = traced_on s.traced (call_of e) (absent s.clients (client_of e)) }

-- Answers, each after a space.

-- a disk's refusal
abbrev pub disk_refusal : DiskRefusal → List ℕ
disk_refusal (disk_refusals.NoCommand n) = codes " nocommand" ++ field n
disk_refusal (disk_refusals.Twice n) = codes " twice" ++ field n
disk_refusal (disk_refusals.NotEffected n) = codes " noteffected" ++ field n
disk_refusal (disk_refusals.Reported n) = codes " reported" ++ field n
disk_refusal disk_refusals.Memory = []

-- a refusal; a call that runs out of memory answers nothing
abbrev pub refusal : SharedRefusal → List ℕ
refusal (refusals.Held c) = codes " held" ++ field c.0
refusal refusals.NotIn = codes " notin"
refusal (refusals.Busy n) = codes " busy" ++ field n
refusal (refusals.Late n) = codes " late" ++ field n
refusal (refusals.SharedBy c) = codes " shared" ++ field c.0
refusal (refusals.Stopped c) = codes " stopped" ++ field c.0
refusal (refusals.NotStopped c) = codes " notstopped" ++ field c.0
refusal (refusals.Disk r) = disk_refusal r
refusal (refusals.NoPage page) = codes " nopage" ++ field page.0
refusal refusals.NoLock = codes " nolock"
refusal refusals.Memory = []

-- an answer
abbrev pub answer_text : Answer → List ℕ
answer_text Done = codes " ok"
answer_text (Number n) = codes " command" ++ field n
answer_text Hard = codes " hard"
answer_text (Bytes bytes) = codes " read" ++ runs bytes
answer_text Failed = codes " failed"
answer_text Silent = codes " silent"
answer_text (Refused r) = refusal r

-- an effect that was done prints nothing
abbrev pub effect_answers : Answer → List (List ℕ)
effect_answers Done = []
effect_answers a = answer_text a ∷ []

-- what is printed of a call's answer
abbrev pub printed : Call → Answer → List (List ℕ)
printed (Effect n) a = effect_answers a
printed call a = answer_text a ∷ []

-- a client that is not there
abbrev pub no_client : ClientId → List ℕ
no_client c = codes " noclient" ++ field c.0

-- an event of a client that is not there is answered so before all else
abbrev pub answers_on : Traced → Call → Option ClientId → List (List ℕ)
answers_on t call None = printed call (answer_of call (rule_of t.state call))
answers_on t call (Some c) = no_client c ∷ []

-- the answers to an event
unfoldable pub answers : SharedState → SharedEvent → List (List ℕ)
answers s e = answers_on s.traced (call_of e) (absent s.clients (client_of e))

-- the last line: how many events there were, and how many commands
abbrev pub last_text : ℕ → ℕ → List ℕ
last_text count commands = codes "end events" ++ field count ++ codes " commands" ++ field commands ++ codes "\n"

-- the same, of a state
unfoldable pub last : ℕ → SharedState → List ℕ
last count s = last_text count (length s.traced.state.disk.commands)

-- the rules of the command
abbrev pub shared_rules : Rules SharedState SharedEvent
shared_rules = record { event = event; answers = answers; next = next; last = last }

-- What is promised.

-- the state of a script after these events, the latest first
unfoldable pub after_events : SharedHead → List SharedEvent → SharedState
after_events h [] = fresh h
after_events h (e ∷ earlier) = next (after_events h earlier) e

-- the calls and answers of every list of events are right
abbrev pub EveryScriptIsRight : Type 0
EveryScriptIsRight = (h : SharedHead) (es : List SharedEvent) → AreRight (after_events h es).traced.past
