-- The client machine: from its state, a moment and an input, the state that it leaves and its outputs in order.
use Rattle.std.specs.Prelude.{ℕ, ◌+◌, Bool, true, false, ◌&&◌, not, ◌==◌, nat_le, if◌then◌else◌, List, [], ◌∷◌, ◌++◌, length, find, filter, map, Option, Some, None, is_some, option_map, Result, Ok, Err, ⊤}
use Rattle.std.specs.List.{list_any}
use Rattle.st_base.specs.declared.ids.ClientId.{ClientId}
use Rattle.st_base.specs.declared.ids.ServerId.{ServerId}
use Rattle.st_base.specs.declared.ids.Life.{Life}
use Rattle.st_base.specs.declared.ids.FileId.{FileId}
use Rattle.st_base.specs.declared.ids.Stamp.{Stamp}
use Rattle.st_base.specs.declared.config.Config.{Config}
use Rattle.st_base.specs.declared.disk.Tag.{Tag}
use Rattle.st_messages.specs.declared.ask.Ask.{Ask}
use Rattle.st_messages.specs.declared.ask.Ask.TheVariants as asks
use Rattle.st_messages.specs.declared.answer.AppAnswer.{AppAnswer}
use Rattle.st_messages.specs.declared.answer.AppAnswer.TheVariants as answers
use Rattle.st_messages.specs.declared.output.Output.{Output}
use Rattle.st_messages.specs.declared.output.Output.TheVariants as outputs
use Rattle.st_messages.specs.declared.output.Note.TheVariants as notes
use Rattle.st_rules.specs.declared.lease.Phase.{Phase}
use Rattle.st_rules.specs.declared.client.ClientInput.{ClientInput}
use Rattle.st_rules.specs.declared.client.ClientInput.TheVariants.{Tick, App, Control, Done}
use Rattle.st_rules.specs.declared.client.Ended.{Ended}
use Rattle.st_rules.specs.declared.client.Ended.TheVariants.{Unknown, Filled, Hard, Redirty, Failed}
use Rattle.st_rules.specs.declared.client.IoKind.{IoKind}
use Rattle.st_rules.specs.declared.client.IoKind.TheVariants.{Read, Write}
use Rattle.st_rules.specs.declared.client.Operation.{Operation}
use Rattle.st_rules.specs.declared.client.PageCommand.{PageCommand}
use Rattle.st_rules.specs.declared.node.StepRefusal.{StepRefusal}
use Rattle.st_rules.specs.declared.node.StepRefusal.TheVariants.{Crashed}
use Rattle.st_rules.specs.Extents.{numbers}
use Rattle.st_rules.specs.ClientLease as lease
use Rattle.st_rules.specs.ClientPages as pages
use Rattle.st_rules.specs.ClientPages.{Pages, Store, empty_store}
use Rattle.st_rules.specs.ClientState.{ClientSession, Association, ClientState, ClientTurn, Turn, client_turn, at_each, only_at, is_at, with_here, with_store, with_lost_rows, with_operations, note, answered, server_of, is_of, is_on, is_sync, is_sent, reads_page, new_operation, answer_each, keep}
use Rattle.st_rules.specs.ClientReplies.{receive, client_replies_open}
use Rattle.st_rules.specs.ClientPasses.{passes, client_passes_open}

-- Loss: if a session's lease is over it is noted as lost; each dirty page joins the lost rows; the operations of the server
-- are answered, in order; all else of the server is emptied, and the next life begins.

-- Telling: the lost pages of a file are reported, and forgotten.
unfoldable pub tell_lost : Turn → ℕ → ℕ → Turn
tell_lost t op ino = answered (with_lost_rows (pages.untold t.here.lost ino) t) op (answers.Lost (pages.told_rows t.here.lost ino))

-- a sync whose file has lost pages is answered with them, and another one is quiesced
unfoldable pub end_sync : Turn → Operation → FileId → Turn
end_sync t o f = if pages.has_lost t.here.lost f.ino then tell_lost t o.op f.ino else answered t o.op answers.Quiesced

-- an operation that was not sent
unfoldable pub end_unsent : Turn → Operation → Ask → Turn
end_unsent t o (asks.Sync f) = end_sync t o f
end_unsent t o ask = answered t o.op answers.Quiesced

-- an operation whose request was sent is uncertain
unfoldable pub end_operation : Turn → ClientSession → Operation → Turn
end_operation t s o = if is_sent o then answered t o.op (answers.Uncertain s.epoch.0 0) else end_unsent t o o.ask

-- these operations, in order
unfoldable pub end_each : ClientSession → List Operation → Turn → Turn
end_each s [] t = t
end_each s (o ∷ os) t = end_each s os (end_operation t s o)

-- the server's operations are answered, and are no longer pending
unfoldable pub end_operations : Turn → ClientSession → Turn
end_operations t s = end_each s (filter (is_of t.here.server) t.operations) (with_operations (filter (λ o. not (is_of t.here.server o)) t.operations) t)

-- the dirty pages join the lost rows
abbrev pub with_lost_pages : Store → Turn → Turn
with_lost_pages st t = with_lost_rows (pages.with_lost_pages st.commands st.pages.dirty t.here.lost) t

-- the next life
abbrev pub next_life : Life → Life
next_life l = record { 0 = l.0 + 1 }

-- nothing is left but the lost pages that nobody was told about
abbrev pub emptied : Association → Association
emptied a = record { server = a.server; life = next_life a.life; greeting = None; session = None; store = empty_store; lost = a.lost }

-- all else is emptied
abbrev pub empty_here : Turn → Turn
empty_here t = with_here (emptied t.here) t

-- a lease that is over
unfoldable pub lose_session : Turn → ClientSession → Turn
lose_session t s = empty_here (end_operations (with_lost_pages t.here.store (note t (notes.Lost t.here.server t.here.life))) s)

-- the lease is over at this moment
abbrev pub is_over : Turn → ClientSession → Stamp → Bool
is_over t s now = lease.must_discard (lease.standing_of t.config s.lease now)

-- a lease that may be over
unfoldable pub lose_over : Turn → ClientSession → Stamp → Turn
lose_over t s now = if is_over t s now then lose_session t s else t

-- with a session
unfoldable pub lose_by : Turn → Stamp → Option ClientSession → Turn
lose_by t now None = t
lose_by t now (Some s) = lose_over t s now

-- Loss, at a server
unfoldable pub lose : Stamp → Turn → Turn
lose now t = lose_by t now t.here.session

-- Losses, at each server in turn.
unfoldable pub losses : ClientTurn → Stamp → ClientTurn
losses t now = at_each (lose now) t

-- Asks of applications, the first case that applies: 16 are pending; the server isn't one that is configured; a sync's file has lost pages that nobody was told
-- about. Otherwise the operation goes last.
unfoldable pub enqueue : Turn → ℕ → Ask → Turn
enqueue t op ask = keep (new_operation op ask) t

-- a sync is answered with lost pages at once
unfoldable pub take_sync : Turn → ℕ → Ask → FileId → Turn
take_sync t op ask f = if pages.has_lost t.here.lost f.ino then tell_lost t op f.ino else enqueue t op ask

-- a sync, or another ask
unfoldable pub take_by : Turn → ℕ → Ask → Ask → Turn
take_by t op ask (asks.Sync f) = take_sync t op ask f
take_by t op ask other = enqueue t op ask

-- an ask at its server
unfoldable pub take_ask : ℕ → Ask → Turn → Turn
take_ask op ask t = take_by t op ask ask

-- an answer at once
abbrev pub answered_at_once : ClientTurn → ℕ → AppAnswer → ClientTurn
answered_at_once t op answer = record t { out = t.out ++ outputs.Answer op answer ∷ [] }

-- the server is one of this world
abbrev pub is_configured : ClientState → ServerId → Bool
is_configured c s = list_any (is_at s) c.associations

-- an ask for which there is a place
unfoldable pub app_known : ClientTurn → ℕ → Ask → ClientTurn
app_known t op ask =
    if is_configured t.state (server_of ask) then at_each (only_at (server_of ask) (take_ask op ask)) t else answered_at_once t op answers.NoFile

-- no more operations may be pending
abbrev pub is_full : ClientState → Bool
is_full c = nat_le 16 (length c.operations)

-- Asks of applications
unfoldable pub app : ClientTurn → ℕ → Ask → ClientTurn
app t op ask = if is_full t.state then answered_at_once t op answers.OpsFull else app_known t op ask

-- Ends of commands: one that isn't outstanding is ignored, and so is a result of another kind than the command. A page that was read becomes the newest clean
-- one. So does a page that was written, if it was not changed since. If a read failed, the reads and patches that are pending on the page are answered. If a
-- write failed, it is the page's failed command, if the page was not changed since; and the syncs that are pending on the file are answered.

-- the file of a command
abbrev pub file_of_command : Turn → PageCommand → FileId
file_of_command t c = record { server = t.here.server; ino = c.ino }

-- the page is the newest clean one with these bytes
abbrev pub with_filled : PageCommand → List ℕ → Turn → Turn
with_filled c bytes t = with_store (record t.here.store { pages = pages.fill t.here.store.pages c.ino c.page bytes }) t

-- a read is done
unfoldable pub filled_by : Turn → PageCommand → Option (Tag × List ℕ) → Turn
filled_by t c None = t
filled_by t c (Some block) = with_filled c (pages.found t.here.store.extents (file_of_command t c) c.page block.0 block.1) t

-- a write is done, and the page is as it was
unfoldable pub hardened : Turn → PageCommand → Turn
hardened t c = with_store (record t.here.store { pages = pages.harden t.here.store.pages c.ino c.page }) t

-- an operation that waits for the read of a page
abbrev pub waits_for_read : Turn → PageCommand → Operation → Bool
waits_for_read t c o = reads_page t.here.server c.ino c.page o.ask

-- a sync of the command's file
abbrev pub waits_for_write : Turn → PageCommand → Operation → Bool
waits_for_write t c o = is_on t.here.server c.ino o && is_sync o.ask

-- the page's failed command
abbrev pub with_failed : PageCommand → Turn → Turn
with_failed c t = with_store (record t.here.store { pages = pages.fail t.here.store.pages c.ino c.page c.number }) t

-- the write is of the page as it is
abbrev pub is_present : Turn → PageCommand → ℕ → Bool
is_present t c version = is_some (pages.dirty_of t.here.store.pages c.ino c.page) && (pages.version_of t.here.store.pages c.ino c.page == version)

-- if the page was not changed since
unfoldable pub mark_failed : Turn → PageCommand → ℕ → Turn
mark_failed t c version = if is_present t c version then with_failed c t else t

-- a command failed
unfoldable pub failed_as : Turn → PageCommand → IoKind → Turn
failed_as t c Read = answer_each (waits_for_read t c) (answers.DiskFault c.number) t
failed_as t c (Write version) = answer_each (waits_for_write t c) (answers.DiskFault c.number) (mark_failed t c version)

-- by how the command ended
unfoldable pub finish_as : Turn → PageCommand → Option (Tag × List ℕ) → Ended → Turn
finish_as t c block Unknown = t
finish_as t c block Filled = filled_by t c block
finish_as t c block Hard = hardened t c
finish_as t c block Redirty = t
finish_as t c block Failed = failed_as t c c.kind

-- it is no longer outstanding
abbrev pub with_commands : List PageCommand → Turn → Turn
with_commands cs t = with_store (record t.here.store { commands = cs }) t

-- the command's end
unfoldable pub ended_by : Turn → PageCommand → Option (Tag × List ℕ) → pages.CommandEnd → Turn
ended_by t c block e = finish_as (with_commands e.commands t) c block e.ended

-- done, with what was found, or failed
unfoldable pub finish_command : Turn → PageCommand → Bool → Option (Tag × List ℕ) → Turn
finish_command t c ok block = ended_by t c block (pages.end_command t.here.store.commands c.number ok (pages.version_of t.here.store.pages c.ino c.page))

-- a read finds a block, and a write finds none
abbrev pub is_result_of : IoKind → Option (Tag × List ℕ) → Bool
is_result_of Read block = is_some block
is_result_of (Write version) block = not (is_some block)

-- a result of the command's kind
unfoldable pub done_by : Turn → PageCommand → Option (Tag × List ℕ) → Turn
done_by t c block = if is_result_of c.kind block then finish_command t c true block else t

-- failed, or done
unfoldable pub finish_by : Turn → PageCommand → Option (Option (Tag × List ℕ)) → Turn
finish_by t c None = finish_command t c false None
finish_by t c (Some block) = done_by t c block

-- if the command is outstanding
unfoldable pub finish_at : Turn → Option PageCommand → Option (Option (Tag × List ℕ)) → Turn
finish_at t None result = t
finish_at t (Some c) result = finish_by t c result

-- the command of a number at a server
unfoldable pub finish : ℕ → Option (Option (Tag × List ℕ)) → Turn → Turn
finish number result t = finish_at t (pages.command_of t.here.store.commands number) result

-- Ends of commands
unfoldable pub done : ClientTurn → ℕ → Option (Option (Tag × List ℕ)) → ClientTurn
done t number result = at_each (finish number result) t

-- the rule for the input
unfoldable pub take_input : ClientTurn → Stamp → ClientInput → ClientTurn
take_input t now Tick = t
take_input t now (App op ask) = app t op ask
take_input t now (Control m) = receive t now m.header m.body
take_input t now (Done number result) = done t number result

-- time passed
abbrev pub is_tick : ClientInput → Bool
is_tick Tick = true
is_tick (App op ask) = false
is_tick (Control m) = false
is_tick (Done number result) = false

-- at each server in turn: operations, reductions, writes, greeting, requests
unfoldable pub work : ClientTurn → Stamp → ClientInput → ClientTurn
work t now input = at_each (passes now (is_tick input)) t

-- The step: the losses, the rule for the input, and then the passes at each server in turn.
unfoldable pub client_step : ClientState → Stamp → ClientInput → ClientTurn
client_step s now input = work (take_input (losses (client_turn s []) now) now input) now input

-- A client that was never started before is in life 1 at each server.
abbrev pub association_of : Life → ServerId → Association
association_of life server = record { server = server; life = life; greeting = None; session = None; store = empty_store; lost = [] }

-- at a server
abbrev pub fresh_association : ℕ → Association
fresh_association server = association_of (record { 0 = 1 }) (record { 0 = server })

-- Fresh
unfoldable pub fresh_client : ClientId → Config → ℕ → ClientState
fresh_client id k servers = record { id = id; config = k; associations = map fresh_association (numbers 1 servers); operations = []; next_command = 1 }

-- Crash: the lives are kept, and all else is emptied.
abbrev pub crashed_association : Association → Association
crashed_association a = association_of a.life a.server

-- Crash
unfoldable pub crash : ClientState → ClientState
crash c = record c { associations = map crashed_association c.associations; operations = []; next_command = 1 }

-- Start: each life rises by 1, and all else is empty.
abbrev pub started_association : Association → Association
started_association a = association_of (next_life a.life) a.server

-- Start
unfoldable pub start : ClientState → ClientState
start c = record c { associations = map started_association c.associations; operations = []; next_command = 1 }

-- A node: its machine, and whether it runs.
pub record ClientNode : Type 0 where
  pub state : ClientState
  pub running : Bool

-- Fresh: a client that was never started before, and that runs.
abbrev pub fresh_node : ClientId → Config → ℕ → ClientNode
fresh_node id k servers = record { state = fresh_client id k servers; running = true }

-- Crash: it no longer runs.
abbrev pub crash_node : ClientNode → ClientNode
crash_node n = record { state = crash n.state; running = false }

-- Start: it runs, in its next life at every server.
abbrev pub start_node : ClientNode → ClientNode
start_node n = record { state = start n.state; running = true }

-- a node's step: the node that it leaves, and the outputs in order
pub record NodeTurn : Type 0 where
  pub node : ClientNode
  pub out : List Output

-- what a step of its machine leaves of a node
abbrev pub node_turn : ClientNode → ClientTurn → NodeTurn
node_turn n t = record { node = record n { state = t.state }; out = t.out }

-- Step: a node that does not run takes none.
unfoldable pub node_step : ClientNode → Stamp → ClientInput → Result NodeTurn StepRefusal
node_step n now input = if n.running then Ok (node_turn n (client_step n.state now input)) else Err Crashed

-- What a client says about itself, for each server.

-- its association with a server
abbrev pub association_with : ClientState → ServerId → Option Association
association_with c s = find (is_at s) c.associations

-- the lease of a session
abbrev pub lease_of_session : ClientSession → lease.ClientLease
lease_of_session s = s.lease

-- the lease of an association
abbrev pub lease_at : Option Association → Option lease.ClientLease
lease_at None = None
lease_at (Some a) = option_map lease_of_session a.session

-- the lease at a server, if one is held
abbrev pub lease_with : ClientState → ServerId → Option lease.ClientLease
lease_with c s = lease_at (association_with c s)

-- the phase of the lease at a server
abbrev pub phase_with : ClientState → ServerId → Stamp → Option Phase
phase_with c s now = lease.phase_at c.config (lease_with c s) now

-- the end of the lease at a server
abbrev pub lease_end_with : ClientState → ServerId → Option Stamp
lease_end_with c s = lease.end_at c.config (lease_with c s)

-- the pages and commands of an association
abbrev pub store_at : Option Association → Store
store_at None = empty_store
store_at (Some a) = a.store

-- a page is there
abbrev pub is_any : {A : Type 0} → List A → Bool
is_any [] = false
is_any (x ∷ xs) = true

-- a page of the server is dirty
abbrev pub has_dirty_with : ClientState → ServerId → Bool
has_dirty_with c s = is_any (store_at (association_with c s)).pages.dirty

-- the life of an association
abbrev pub life_of_association : Association → Life
life_of_association a = a.life

-- the lives, by rising server
abbrev pub lives : ClientState → List Life
lives c = map life_of_association c.associations

-- opens all of this file and of the parts
unfoldable pub client_open : ⊤
unfolding client_replies_open client_passes_open numbers tell_lost end_sync end_unsent end_operation end_each end_operations lose_session lose_over lose_by lose losses enqueue take_sync take_by take_ask app_known app filled_by hardened mark_failed failed_as finish_as ended_by finish_command done_by finish_by finish_at finish done take_input work client_step fresh_client crash start node_step
client_open = tt
