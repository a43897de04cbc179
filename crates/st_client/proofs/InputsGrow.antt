-- Through the rules for inputs numbers of commands only rise, and outputs only become more.
use Rattle.st_lemmas.proofs.Words
use Words.{ℕ, Bool, true, false, not, List, [], ◌∷◌, Option, Some, None, filter, Tag, FileId, Stamp, Ask, Ended, IoKind, Operation, PageCommand}
use Words.asks
use Words.notes
use Words.ends.{Unknown, Filled, Hard, Redirty, Failed}
use Words.io.{Read, Write}
use Words.Client as rules
use Words.Client.{filled_by, hardened, mark_failed, failed_as, finish_as, ended_by, finish_command, done_by, finish_by, finish_at, finish, tell_lost, end_sync}
use Words.Client.{end_unsent, end_operation, end_each, end_operations, lose_session, lose_over, lose_by, lose, enqueue, take_sync, take_by, take_ask}
use Words.ClientPages as pages
use Words.ClientState.{ClientSession, Turn, is_of, is_sent, note, with_operations}
use Rattle.st_client.proofs.Advancing.{either, says, stays, then_more, told}
use Rattle.st_client.specs.Machines.{Advances}

-- Ends of commands.

grow_filled : (t : Turn) (c : PageCommand) (block : Option (Tag × List ℕ)) → Advances t (filled_by t c block)
unfolding filled_by
grow_filled t c None = stays t
grow_filled t c (Some block) = stays t

grow_marked : (t : Turn) (c : PageCommand) (version : ℕ) → Advances t (mark_failed t c version)
unfolding mark_failed
grow_marked t c version = either (rules.is_present t c version) _ _ t (stays t) (stays t)

grow_failed : (t : Turn) (c : PageCommand) (kind : IoKind) → Advances t (failed_as t c kind)
unfolding failed_as
grow_failed t c Read = told _ _ t
grow_failed t c (Write version) =
    let u = mark_failed t c version in
    then_more t u (failed_as t c (Write version)) (grow_marked t c version) (told _ _ u)

grow_finished : (t : Turn) (c : PageCommand) (block : Option (Tag × List ℕ)) (ended : Ended) → Advances t (finish_as t c block ended)
unfolding finish_as hardened
grow_finished t c block Unknown = stays t
grow_finished t c block Filled = grow_filled t c block
grow_finished t c block Hard = stays t
grow_finished t c block Redirty = stays t
grow_finished t c block Failed = grow_failed t c c.kind

grow_command : (t : Turn) (c : PageCommand) (ok : Bool) (block : Option (Tag × List ℕ)) → Advances t (finish_command t c ok block)
unfolding finish_command ended_by
grow_command t c ok block =
    let e = pages.end_command t.here.store.commands c.number ok (pages.version_of t.here.store.pages c.ino c.page) in
    grow_finished (rules.with_commands e.commands t) c block e.ended

grow_finish_by : (t : Turn) (c : PageCommand) (result : Option (Option (Tag × List ℕ))) → Advances t (finish_by t c result)
unfolding finish_by done_by
grow_finish_by t c None = grow_command t c false None
grow_finish_by t c (Some block) = either (rules.is_result_of c.kind block) _ _ t (grow_command t c true block) (stays t)

grow_finish_at : (t : Turn) (c : Option PageCommand) (result : Option (Option (Tag × List ℕ))) → Advances t (finish_at t c result)
unfolding finish_at
grow_finish_at t None result = stays t
grow_finish_at t (Some c) result = grow_finish_by t c result

pub finish_grows : (number : ℕ) (result : Option (Option (Tag × List ℕ))) (t : Turn) → Advances t (finish number result t)
unfolding finish
finish_grows number result t = grow_finish_at t (pages.command_of t.here.store.commands number) result

-- Asks.

grow_sync : (t : Turn) (op : ℕ) (ask : Ask) (f : FileId) → Advances t (take_sync t op ask f)
unfolding take_sync tell_lost enqueue
grow_sync t op ask f = either (pages.has_lost t.here.lost f.ino) _ _ t (says t _) (stays t)

grow_take_by : (t : Turn) (op : ℕ) (ask other : Ask) → Advances t (take_by t op ask other)
unfolding take_by enqueue
grow_take_by t op ask (asks.Sync f) = grow_sync t op ask f
grow_take_by t op ask (asks.Write f p bytes) = stays t
grow_take_by t op ask (asks.Read f p) = stays t
grow_take_by t op ask (asks.Cut f p) = stays t
grow_take_by t op ask (asks.Name s name) = stays t
grow_take_by t op ask (asks.Patch f p at bytes) = stays t

pub take_ask_grows : (op : ℕ) (ask : Ask) (t : Turn) → Advances t (take_ask op ask t)
unfolding take_ask
take_ask_grows op ask t = grow_take_by t op ask ask

-- Losses.

grow_end_sync : (t : Turn) (o : Operation) (f : FileId) → Advances t (end_sync t o f)
unfolding end_sync tell_lost
grow_end_sync t o f = either (pages.has_lost t.here.lost f.ino) _ _ t (says t _) (says t _)

grow_end_unsent : (t : Turn) (o : Operation) (ask : Ask) → Advances t (end_unsent t o ask)
unfolding end_unsent
grow_end_unsent t o (asks.Sync f) = grow_end_sync t o f
grow_end_unsent t o (asks.Write f p bytes) = says t _
grow_end_unsent t o (asks.Read f p) = says t _
grow_end_unsent t o (asks.Cut f p) = says t _
grow_end_unsent t o (asks.Name s name) = says t _
grow_end_unsent t o (asks.Patch f p at bytes) = says t _

grow_end_operation : (t : Turn) (s : ClientSession) (o : Operation) → Advances t (end_operation t s o)
unfolding end_operation
grow_end_operation t s o = either (is_sent o) _ _ t (says t _) (grow_end_unsent t o o.ask)

grow_end_each : (s : ClientSession) (os : List Operation) (t : Turn) → Advances t (end_each s os t)
unfolding end_each
grow_end_each s [] t = stays t
grow_end_each s (o ∷ os) t =
    let u = end_operation t s o in
    then_more t u (end_each s os u) (grow_end_operation t s o) (grow_end_each s os u)

grow_end_operations : (t : Turn) (s : ClientSession) → Advances t (end_operations t s)
unfolding end_operations
grow_end_operations t s = grow_end_each s (filter (is_of t.here.server) t.operations) (with_operations (filter (λ o. not (is_of t.here.server o)) t.operations) t)

grow_session : (t : Turn) (s : ClientSession) → Advances t (lose_session t s)
unfolding lose_session
grow_session t s =
    let u = rules.with_lost_pages t.here.store (note t (notes.Lost t.here.server t.here.life)) in
    then_more t u (end_operations u s) (says t _) (grow_end_operations u s)

grow_lose_by : (t : Turn) (now : Stamp) (s : Option ClientSession) → Advances t (lose_by t now s)
unfolding lose_by lose_over
grow_lose_by t now None = stays t
grow_lose_by t now (Some s) = either (rules.is_over t s now) _ _ t (grow_session t s) (stays t)

pub lose_grows : (now : Stamp) (t : Turn) → Advances t (lose now t)
unfolding lose
lose_grows now t = grow_lose_by t now t.here.session
