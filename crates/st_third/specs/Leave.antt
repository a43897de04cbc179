-- Leave: the ask `leave`, how its locks and pages go back, how the life ends and the next one
-- greets, and what it is answered.
use Rattle.std.specs.Prelude.{ℕ, Bool, false, ◌&&◌, ◌||◌, not, ◌==◌, if◌then◌else◌, List, [], ◌∷◌, ◌++◌, find, filter, map, Option, Some, None, is_some, ⊤}
use Rattle.std.specs.List.{list_any}
use Rattle.st_base.specs.declared.ids.Stamp.{Stamp}
use Rattle.st_base.specs.declared.mode.Mode.TheVariants as modes
use Rattle.st_messages.specs.declared.answer.AppAnswer.TheVariants as answers
use Rattle.st_messages.specs.declared.output.Note.TheVariants as notes
use Rattle.st_rules.specs.declared.client.DemandedFile.{DemandedFile}
use Rattle.st_rules.specs.declared.client.HeldLock.{HeldLock}
use Rattle.st_rules.specs.declared.client.LostPage.{LostPage}
use Rattle.st_rules.specs.declared.client.Operation.{Operation}
use Rattle.st_rules.specs.Keys.{least, rising}
use Rattle.st_rules.specs.Client as client
use Rattle.st_rules.specs.ClientLease as lease
use Rattle.st_rules.specs.ClientLocks as locks
use Rattle.st_rules.specs.ClientLocks.{LockCache}
use Rattle.st_rules.specs.ClientPages.{Store}
use Rattle.st_rules.specs.ClientPasses as passes
use Rattle.st_rules.specs.ClientState.{ClientSession, Turn, is_of, note, with_here, with_operations}
use Rattle.st_third.specs.declared.beside.Leave.{Leave}
use Rattle.st_third.specs.declared.limits.Limits.{Limits}
use Rattle.st_third.specs.declared.output.ThirdOutput.TheVariants as says
use Rattle.st_third.specs.Limits.{limited_association}
use Rattle.st_third.specs.State.{
  ThirdTurn,
  answer_leave,
  fresh_beside,
  here,
  is_first_leave,
  is_leave_numbered,
  is_leave_of,
  is_leaving,
  is_operation_numbered,
  numbers_of,
  plainly,
  say,
  session,
  with_beside,
  without_leave,
}
use Rattle.st_third.specs.UsedOnce.{reduce_each}

-- Asking: a leave is pending in the order of its number. If the server has lost rows that haven't
-- been reported, it is answered with the least inode at once.

-- a lost page's file
abbrev pub ino_of_lost : LostPage → ℕ
ino_of_lost r = r.ino

-- the least inode with lost rows
abbrev pub least_lost : List LostPage → Option ℕ
least_lost lost = least (map ino_of_lost lost)

-- a leave is pending
abbrev pub with_leave : ℕ → ThirdTurn → ThirdTurn
with_leave op t = record t { leaves = t.leaves ++ record { op = op; server = here t } ∷ [] }

-- pending, or answered
unfoldable pub take_leave_at : ℕ → ThirdTurn → Option ℕ → ThirdTurn
take_leave_at op t None = with_leave op t
take_leave_at op t (Some ino) = say t (says.Unsynced op ino)

-- Asking
unfoldable pub take_leave : ℕ → ThirdTurn → ThirdTurn
take_leave op t = take_leave_at op t (least_lost t.plain.here.lost)

-- Reductions: when the server is being left, every lock counts as demanded to none.
abbrev pub lock_demanded : HeldLock → DemandedFile
lock_demanded l = record { ino = l.ino; to = modes.None }

-- what is demanded
unfoldable pub demands : ThirdTurn → LockCache → List DemandedFile
demands t c = if is_leaving t then map lock_demanded c.rows else c.demanded

-- these demands, by rising file
abbrev pub reduce_by : List DemandedFile → ThirdTurn → ThirdTurn
reduce_by ds t = reduce_each ds (rising (map locks.ino_of_demand ds)) t

-- with a session
unfoldable pub reductions_by : ThirdTurn → Option ClientSession → ThirdTurn
reductions_by t None = t
reductions_by t (Some s) = reduce_by (demands t s.locks) t

-- Reductions
unfoldable pub reductions : ThirdTurn → ThirdTurn
reductions t = reductions_by t (session t)

-- Leaving: when nothing is left at the server, the life ends with a note, and the next one begins.
abbrev pub has_none : {A : Type 0} → List A → Bool
has_none xs = not (client.is_any xs)

-- no lock, no release and no outstanding request
abbrev pub is_free : ClientSession → Bool
is_free s = has_none s.locks.rows && (has_none s.releases && not (is_some s.requests.asked))

-- no dirty page and no outstanding command
abbrev pub is_written_out : Store → Bool
is_written_out st = has_none st.pages.dirty && has_none st.commands

-- the life may end
abbrev pub may_end : ThirdTurn → ClientSession → Bool
may_end t s = is_leaving t && (is_free s && is_written_out t.plain.here.store)

-- nothing is left but the lost rows
abbrev pub emptied_here : Limits → Turn → Turn
emptied_here m t = with_here (limited_association m (client.emptied t.here)) t

-- and nothing is beside it
abbrev pub emptied : ThirdTurn → ThirdTurn
emptied t = with_beside fresh_beside (plainly (emptied_here t.limits) t)

-- the life ends, with the lease end that it has then
unfoldable pub end_life : ThirdTurn → ClientSession → ThirdTurn
end_life t s = emptied (say t (says.Ended (here t) t.plain.here.life (lease.end_of t.plain.config s.lease)))

-- if it may
unfoldable pub end_if : ThirdTurn → ClientSession → ThirdTurn
end_if t s = if may_end t s then end_life t s else t

-- with a session
unfoldable pub leaving_by : ThirdTurn → Option ClientSession → ThirdTurn
leaving_by t None = t
leaving_by t (Some s) = end_if t s

-- Leaving
unfoldable pub leaving : ThirdTurn → ThirdTurn
leaving t = leaving_by t (session t)

-- Greeting: a pending leave greets as every other operation does.
abbrev pub must_greet : ThirdTurn → Stamp → Bool → Bool
must_greet t now tick =
    (list_any (is_of (here t)) t.plain.operations || list_any (is_leave_of (here t)) t.leaves)
    && passes.is_greeting_due t.plain.config now tick t.plain.here.greeting

-- a greeting is sent
abbrev pub hello : Stamp → Turn → Turn
hello now t = passes.hello t now

-- if it is due
unfoldable pub greet : ThirdTurn → Stamp → Bool → ThirdTurn
greet t now tick = if must_greet t now tick then plainly (hello now) t else t

-- without a session
unfoldable pub greeting_by : ThirdTurn → Stamp → Bool → Option ClientSession → ThirdTurn
greeting_by t now tick None = greet t now tick
greeting_by t now tick (Some s) = t

-- Greeting
unfoldable pub greeting : Stamp → Bool → ThirdTurn → ThirdTurn
greeting now tick t = greeting_by t now tick (session t)

-- Left: the first pending operation is a leave, and in the session nothing was asked yet.
abbrev pub is_unasked : Option ClientSession → Bool
is_unasked None = false
is_unasked (Some s) = (s.requests.next == 1) && not s.due

-- a leave that may be answered
abbrev pub is_done : ThirdTurn → Leave → Bool
is_done t l = is_first_leave (here t) t.plain.operations l && is_unasked (session t)

-- it is answered
unfoldable pub left : Leave → ThirdTurn → ThirdTurn
left l t = say (without_leave l t) (says.Left l.op)

-- a leave, in its turn
unfoldable pub serve_leave : ThirdTurn → Leave → ThirdTurn
serve_leave t l = if is_done t l then left l t else t

-- if there is one
unfoldable pub serve_leave_at : ThirdTurn → Option Leave → ThirdTurn
serve_leave_at t None = t
serve_leave_at t (Some l) = serve_leave t l

-- Losses: a leave is answered with the least inode whose lost rows haven't been reported, and
-- otherwise *quiesced*.
unfoldable pub end_leave : Leave → ThirdTurn → Option ℕ → ThirdTurn
end_leave l t None = answer_leave answers.Quiesced l t
end_leave l t (Some ino) = say (without_leave l t) (says.Unsynced l.op ino)

-- if there is one
unfoldable pub end_leave_at : ThirdTurn → Option Leave → ThirdTurn
end_leave_at t None = t
end_leave_at t (Some l) = end_leave l t (least_lost t.plain.here.lost)

-- an operation ends
abbrev pub ended : ClientSession → Operation → Turn → Turn
ended s o t = client.end_operation t s o

-- an operation, or a leave
unfoldable pub end_either : ClientSession → List Leave → ℕ → ThirdTurn → Option Operation → ThirdTurn
end_either s ls op t None = end_leave_at t (find (is_leave_numbered op) ls)
end_either s ls op t (Some o) = plainly (ended s o) t

-- the operations and leaves of these numbers, in order
unfoldable pub end_numbers : ClientSession → List Operation → List Leave → List ℕ → ThirdTurn → ThirdTurn
end_numbers s os ls [] t = t
end_numbers s os ls (op ∷ ops) t = end_numbers s os ls ops (end_either s ls op t (find (is_operation_numbered op) os))

-- operations of other servers stay pending
abbrev pub without_own : Turn → Turn
without_own t = with_operations (filter (λ o. not (is_of t.here.server o)) t.operations) t

-- these operations and leaves
abbrev pub end_these : ClientSession → List Operation → List Leave → ThirdTurn → ThirdTurn
end_these s os ls t = end_numbers s os ls (numbers_of os ls) (plainly without_own t)

-- the server's operations and leaves
unfoldable pub end_operations : ClientSession → ThirdTurn → ThirdTurn
end_operations s t = end_these s (filter (is_of (here t)) t.plain.operations) (filter (is_leave_of (here t)) t.leaves) t

-- the loss is noted, and the dirty pages join the lost rows
abbrev pub noted_lost : Turn → Turn
noted_lost t = client.with_lost_pages t.here.store (note t (notes.Lost t.here.server t.here.life))

-- a lease that is over
unfoldable pub lose_session : ThirdTurn → ClientSession → ThirdTurn
lose_session t s = emptied (end_operations s (plainly noted_lost t))

-- a lease that may be over
unfoldable pub lose_over : ThirdTurn → ClientSession → Stamp → ThirdTurn
lose_over t s now = if client.is_over t.plain s now then lose_session t s else t

-- with a session
unfoldable pub lose_by : ThirdTurn → Stamp → Option ClientSession → ThirdTurn
lose_by t now None = t
lose_by t now (Some s) = lose_over t s now

-- Loss, at a server
unfoldable pub lose : Stamp → ThirdTurn → ThirdTurn
lose now t = lose_by t now (session t)

-- opens all of this file and of those below it
unfoldable pub leave_open : ⊤
unfolding take_leave_at take_leave demands reductions_by reductions end_life end_if leaving_by leaving greet greeting_by greeting left serve_leave serve_leave_at end_leave end_leave_at end_either end_numbers end_operations lose_session lose_over lose_by lose
leave_open = tt
