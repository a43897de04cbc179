-- The client of the third form: from what it has, a moment and an input, what it has then and what
-- it says in order.
use Rattle.std.specs.Prelude.{ℕ, ◌+◌, Bool, true, false, ◌&&◌, ◌||◌, not, nat_le, if◌then◌else◌, List, [], ◌∷◌, ◌++◌, length, find, filter, Option, Some, None, is_some, ⊤}
use Rattle.st_base.specs.declared.ids.Stamp.{Stamp}
use Rattle.st_base.specs.declared.ids.ServerId.{ServerId}
use Rattle.st_base.specs.declared.disk.Tag.{Tag}
use Rattle.st_messages.specs.declared.ask.Ask.{Ask}
use Rattle.st_messages.specs.declared.ask.Ask.TheVariants as asks
use Rattle.st_messages.specs.declared.answer.AppAnswer.{AppAnswer}
use Rattle.st_messages.specs.declared.answer.AppAnswer.TheVariants as answers
use Rattle.st_messages.specs.declared.output.Output.TheVariants as outputs
use Rattle.st_rules.specs.declared.client.ClientInput.{ClientInput}
use Rattle.st_rules.specs.declared.client.ClientInput.TheVariants.{Tick, App, Control, Done}
use Rattle.st_rules.specs.declared.client.Ended.{Ended}
use Rattle.st_rules.specs.declared.client.Ended.TheVariants.{Failed}
use Rattle.st_rules.specs.declared.client.IoKind.{IoKind}
use Rattle.st_rules.specs.declared.client.IoKind.TheVariants.{Read, Write}
use Rattle.st_rules.specs.declared.client.Operation.{Operation}
use Rattle.st_rules.specs.declared.client.PageCommand.{PageCommand}
use Rattle.st_rules.specs.Client as client
use Rattle.st_rules.specs.ClientPages as pages
use Rattle.st_rules.specs.ClientPasses as passes
use Rattle.st_rules.specs.ClientPasses.{Asking}
use Rattle.st_rules.specs.ClientState.{ClientSession, ClientState, Turn, file_of, is_of, is_sent, is_serving, keep, server_of, with_operations}
use Rattle.st_third.specs.declared.beside.Leave.{Leave}
use Rattle.st_third.specs.declared.event.ThirdInput.{ThirdInput}
use Rattle.st_third.specs.declared.event.ThirdInput.TheVariants as inputs
use Rattle.st_third.specs.declared.limits.Limits.{Limits}
use Rattle.st_third.specs.declared.output.ThirdOutput.TheVariants as says
use Rattle.st_third.specs.Limits.{limited_client, limits_open}
use Rattle.st_third.specs.State.{
  ThirdClient,
  ThirdClientTurn,
  ThirdTurn,
  answer_with_leaves,
  at_each,
  fresh_beside_client,
  here,
  is_active,
  is_leave_numbered,
  is_leave_of,
  is_operation_numbered,
  numbers_of,
  only_at,
  plainly,
  session,
  third_turn,
  third_state_open,
}
use Rattle.st_third.specs.UsedOnce.{is_open, waits_for_use, used_once_open}
use Rattle.st_third.specs.Room.{serve_open, writes, room_open}
use Rattle.st_third.specs.GiveBack.{giving, waits_for_place, give_back_open}
use Rattle.st_third.specs.Leave.{greeting, leaving, lose, reductions, serve_leave_at, take_leave, leave_open}
use Rattle.st_third.specs.Runs.{with_run, runs_open}
use Rattle.st_third.specs.Replies.{receive, third_replies_open}

-- Losses, at each server in turn.
unfoldable pub losses : Limits → ThirdClientTurn → Stamp → ThirdClientTurn
losses m t now = at_each m (lose now) t

-- Asks of applications: the first case that applies. The leaves count among the pending operations.

-- no more operations may be pending
abbrev pub is_full : Limits → ThirdClient → Bool
is_full m c = nat_le m.operations (length c.plain.operations + length c.beside.leaves)

-- an answer at once
abbrev pub answered_at_once : ThirdClientTurn → ℕ → AppAnswer → ThirdClientTurn
answered_at_once t op answer = record t { out = t.out ++ says.Plain (outputs.Answer op answer) ∷ [] }

-- by the server, if it is configured
unfoldable pub ask_at : Limits → ThirdClientTurn → ℕ → ServerId → (ThirdTurn → ThirdTurn) → ThirdClientTurn
ask_at m t op s rule = if client.is_configured t.client.plain s then at_each m (only_at s rule) t else answered_at_once t op answers.NoFile

-- by the place for it
unfoldable pub ask_by : Limits → ThirdClientTurn → ℕ → ServerId → (ThirdTurn → ThirdTurn) → ThirdClientTurn
ask_by m t op s rule = if is_full m t.client then answered_at_once t op answers.OpsFull else ask_at m t op s rule

-- an ask of the other forms at its server
abbrev pub take_plainly : ℕ → Ask → ThirdTurn → ThirdTurn
take_plainly op ask t = plainly (client.take_ask op ask) t

-- an ask of the other forms
unfoldable pub app : Limits → ThirdClientTurn → ℕ → Ask → ThirdClientTurn
app m t op ask = ask_by m t op (server_of ask) (take_plainly op ask)

-- an ask to leave
unfoldable pub app_leave : Limits → ThirdClientTurn → ℕ → ServerId → ThirdClientTurn
app_leave m t op s = ask_by m t op s (take_leave op)

-- Ends of commands, as in the other forms; and a failed write of the server's pages answers its
-- leaves.

-- the page's failed command
abbrev pub mark_failed : PageCommand → ℕ → Turn → Turn
mark_failed c version t = client.mark_failed t c version

-- a read failed
abbrev pub read_failed : PageCommand → Turn → Turn
read_failed c t = client.failed_as t c Read

-- a command failed
unfoldable pub failed_as : ThirdTurn → PageCommand → IoKind → ThirdTurn
failed_as t c Read = plainly (read_failed c) t
failed_as t c (Write version) = answer_with_leaves (client.waits_for_write t.plain c) (answers.DiskFault c.number) (plainly (mark_failed c version) t)

-- a command ended, as in the other forms
abbrev pub finished : PageCommand → Option (Tag × List ℕ) → Ended → Turn → Turn
finished c block ended t = client.finish_as t c block ended

-- by how the command ended
unfoldable pub finish_as : ThirdTurn → PageCommand → Option (Tag × List ℕ) → Ended → ThirdTurn
finish_as t c block Failed = failed_as t c c.kind
finish_as t c block ended = plainly (finished c block ended) t

-- it is no longer outstanding
abbrev pub ended_by : ThirdTurn → PageCommand → Option (Tag × List ℕ) → pages.CommandEnd → ThirdTurn
ended_by t c block e = finish_as (plainly (client.with_commands e.commands) t) c block e.ended

-- done, with what was found, or failed
unfoldable pub finish_command : ThirdTurn → PageCommand → Bool → Option (Tag × List ℕ) → ThirdTurn
finish_command t c ok block =
    ended_by t c block (pages.end_command t.plain.here.store.commands c.number ok (pages.version_of t.plain.here.store.pages c.ino c.page))

-- a result of the command's kind
unfoldable pub done_by : ThirdTurn → PageCommand → Option (Tag × List ℕ) → ThirdTurn
done_by t c block = if client.is_result_of c.kind block then finish_command t c true block else t

-- failed, or done
unfoldable pub finish_by : ThirdTurn → PageCommand → Option (Option (Tag × List ℕ)) → ThirdTurn
finish_by t c None = finish_command t c false None
finish_by t c (Some block) = done_by t c block

-- if the command is outstanding
unfoldable pub finish_at : ThirdTurn → Option PageCommand → Option (Option (Tag × List ℕ)) → ThirdTurn
finish_at t None result = t
finish_at t (Some c) result = finish_by t c result

-- the command of a number at a server
unfoldable pub finish : ℕ → Option (Option (Tag × List ℕ)) → ThirdTurn → ThirdTurn
finish number result t = finish_at t (pages.command_of t.plain.here.store.commands number) result

-- Ends of commands
unfoldable pub done : Limits → ThirdClientTurn → ℕ → Option (Option (Tag × List ℕ)) → ThirdClientTurn
done m t number result = at_each m (finish number result) t

-- Operations, in the order of their numbers, with the leaves among them. Only active ones are
-- served.

-- the pending operations and leaves are those from before the pass
unfoldable pub serve : List Operation → List Leave → ThirdTurn → ClientSession → Operation → ThirdTurn
serve os ls t s o = if is_active ls (here t) o && is_open os t s o (file_of o.ask) then serve_open t s o o.ask else plainly (keep o) t

-- in quiesce or later
abbrev pub quiesced : Operation → Turn → Turn
quiesced o t = passes.quiesce t o

-- by the phase
unfoldable pub operate_under : List Operation → List Leave → ThirdTurn → ClientSession → Stamp → Operation → ThirdTurn
operate_under os ls t s now o = if is_serving t.plain.config s now then serve os ls t s o else plainly (quiesced o) t

-- with a session, or without
unfoldable pub operate_by : List Operation → List Leave → ThirdTurn → Stamp → Operation → Option ClientSession → ThirdTurn
operate_by os ls t now o None = plainly (keep o) t
operate_by os ls t now o (Some s) = operate_under os ls t s now o

-- a sync
abbrev pub synced : Operation → Ask → Turn → Turn
synced o (asks.Sync f) t = passes.sync t o f
synced o ask t = keep o t

-- a sync, or another one
unfoldable pub operate_on : List Operation → List Leave → ThirdTurn → Stamp → Operation → Ask → ThirdTurn
operate_on os ls t now o (asks.Sync f) = plainly (synced o (asks.Sync f)) t
operate_on os ls t now o ask = operate_by os ls t now o (session t)

-- an operation of this server
unfoldable pub operate : List Operation → List Leave → ThirdTurn → Stamp → Operation → ThirdTurn
operate os ls t now o = if is_of (here t) o then operate_on os ls t now o o.ask else plainly (keep o) t

-- an operation, or a leave
unfoldable pub operate_either : List Operation → List Leave → Stamp → ℕ → ThirdTurn → Option Operation → ThirdTurn
operate_either os ls now op t None = serve_leave_at t (find (is_leave_numbered op) ls)
operate_either os ls now op t (Some o) = operate os ls t now o

-- the operations and leaves of these numbers, in order
unfoldable pub operate_numbers : List Operation → List Leave → Stamp → List ℕ → ThirdTurn → ThirdTurn
operate_numbers os ls now [] t = t
operate_numbers os ls now (op ∷ ops) t =
    operate_numbers os ls now ops (operate_either os ls now op t (find (is_operation_numbered op) os))

-- these operations, and these leaves of the server
abbrev pub operate_these : Stamp → List Operation → List Leave → ThirdTurn → ThirdTurn
operate_these now os ls t = operate_numbers os ls now (numbers_of os ls) (plainly (with_operations []) t)

-- Operations
unfoldable pub operations : Stamp → ThirdTurn → ThirdTurn
operations now t = operate_these now t.plain.operations (filter (is_leave_of (here t)) t.leaves) t

-- Requests: as in the other forms, except for what operations ask.

-- an active operation that was not sent, and whose file is open to it
abbrev pub may_ask : ThirdTurn → ClientSession → Operation → Bool
may_ask t s o = is_active t.leaves (here t) o && (not (is_sent o) && is_open t.plain.operations t s o (file_of o.ask))

-- it waits for a place, or for another operation's use
abbrev pub must_wait : ThirdTurn → ClientSession → Stamp → Operation → Bool
must_wait t s now o = waits_for_place t s now o || waits_for_use t s o (file_of o.ask)

-- What an operation asks
unfoldable pub asked_by : ThirdTurn → ClientSession → Stamp → Operation → Option passes.Wanted
asked_by t s now o = if may_ask t s o && not (must_wait t s now o) then with_run t (passes.want t.plain s now o.ask) else None

-- the first of these that asks
unfoldable pub first_asking : ThirdTurn → ClientSession → Stamp → List Operation → Option Asking
first_asking t s now [] = None
first_asking t s now (o ∷ os) = passes.asks_or o os (first_asking t s now os) (asked_by t s now o)

-- its request, or a keep-alive
abbrev pub asked_for : ClientSession → Stamp → Option Asking → Turn → Turn
asked_for s now a t = passes.ask_for_or t s now a

-- Operations may ask: the lease serves and is not condemned, nothing is outstanding or due, and no
-- release waits.
abbrev pub may_operations_ask : ThirdTurn → ClientSession → Stamp → Bool
may_operations_ask t s now =
    (is_serving t.plain.config s now && not s.lease.condemned)
    && (not (is_some s.requests.asked) && (not s.due && not (client.is_any s.releases)))

-- by that
unfoldable pub requests_under : ThirdTurn → ClientSession → Stamp → Bool → ThirdTurn
requests_under t s now tick =
    if may_operations_ask t s now
    then plainly (asked_for s now (first_asking t s now t.plain.operations)) t
    else plainly (passes.requests now tick) t

-- with a session
unfoldable pub requests_by : ThirdTurn → Stamp → Bool → Option ClientSession → ThirdTurn
requests_by t now tick None = t
requests_by t now tick (Some s) = requests_under t s now tick

-- Requests
unfoldable pub requests : Stamp → Bool → ThirdTurn → ThirdTurn
requests now tick t = requests_by t now tick (session t)

-- At a server, at the end of a step: operations, giving back, reductions, writes, leaving,
-- greeting, requests.
unfoldable pub third_passes : Stamp → Bool → ThirdTurn → ThirdTurn
third_passes now tick t = requests now tick (greeting now tick (leaving (writes now tick (reductions (giving now (operations now t))))))

-- the rule for an input of the other forms
unfoldable pub take_plain : Limits → ThirdClientTurn → Stamp → ClientInput → ThirdClientTurn
take_plain m t now Tick = t
take_plain m t now (App op ask) = app m t op ask
take_plain m t now (Control message) = receive m t now message.header message.body
take_plain m t now (Done number result) = done m t number result

-- the rule for the input
unfoldable pub take_input : Limits → ThirdClientTurn → Stamp → ThirdInput → ThirdClientTurn
take_input m t now (inputs.Plain input) = take_plain m t now input
take_input m t now (inputs.Leave op s) = app_leave m t op s

-- time passed
abbrev pub is_tick : ThirdInput → Bool
is_tick (inputs.Plain input) = client.is_tick input
is_tick (inputs.Leave op s) = false

-- at each server in turn
unfoldable pub work : Limits → ThirdClientTurn → Stamp → ThirdInput → ThirdClientTurn
work m t now input = at_each m (third_passes now (is_tick input)) t

-- The step: the losses, the rule for the input, and then the passes at each server in turn.
unfoldable pub client_step : Limits → ThirdClient → Stamp → ThirdInput → ThirdClientTurn
client_step m c now input = work m (take_input m (losses m (third_turn c []) now) now input) now input

-- a client that has nothing yet: with its limits, and nothing beside it
abbrev pub begun : Limits → ClientState → ThirdClient
begun m c = record { plain = limited_client m c; beside = fresh_beside_client c }

-- Crash: the lives are kept, and all else is emptied.
unfoldable pub crash : Limits → ClientState → ThirdClient
crash m c = begun m (client.crash c)

-- Start: each life rises by 1, and all else is empty.
unfoldable pub start : Limits → ClientState → ThirdClient
start m c = begun m (client.start c)

-- opens all of this file and of those below it
unfoldable pub third_client_open : ⊤
unfolding client.client_open limits_open third_state_open used_once_open room_open give_back_open leave_open runs_open third_replies_open losses ask_at ask_by app app_leave failed_as finish_as finish_command done_by finish_by finish_at finish done serve operate_under operate_by operate_on operate operate_either operate_numbers operations asked_by first_asking requests_under requests_by requests third_passes take_plain take_input work client_step crash start
third_client_open = tt
