-- A grant is used once: when a lock is installed, one operation is owed a use of it, until it is
-- sent or answered.
use Rattle.std.specs.Prelude.{ℕ, Bool, true, false, ◌&&◌, ◌||◌, not, ◌==◌, if◌then◌else◌, List, [], ◌∷◌, ◌++◌, find, filter, Option, Some, None, ⊤}
use Rattle.std.specs.List.{list_any}
use Rattle.st_base.specs.declared.ids.GrantNo.{GrantNo}
use Rattle.st_base.specs.declared.mode.Mode.{Mode}
use Rattle.st_base.specs.Mode.{covers}
use Rattle.st_rules.specs.declared.client.DemandedFile.{DemandedFile}
use Rattle.st_rules.specs.declared.client.Operation.{Operation}
use Rattle.st_rules.specs.ClientLocks as locks
use Rattle.st_rules.specs.ClientPasses as passes
use Rattle.st_rules.specs.ClientPasses.{need}
use Rattle.st_rules.specs.ClientReplies as replies
use Rattle.st_rules.specs.ClientState.{ClientSession, Turn, forget_wait, is_busy, is_cut_or_name, is_on, is_sent, is_sync}
use Rattle.st_third.specs.declared.beside.OwedUse.{OwedUse}
use Rattle.st_third.specs.State.{ThirdTurn, here, is_active, is_operation_numbered, plainly, with_beside, with_its_session}

-- Owing, when a lock is installed: the first active operation on the file that was not sent, isn't
-- a sync, and needs no more than the mode.
abbrev pub is_covered : Mode → Operation → Bool
is_covered mode o = not (is_sent o) && (not (is_sync o.ask) && covers mode (need o.ask))

-- it may be owed a use of the file
abbrev pub may_be_owed : ThirdTurn → ℕ → Mode → Operation → Bool
may_be_owed t ino mode o = is_on (here t) ino o && (is_active t.leaves (here t) o && is_covered mode o)

-- the use that a file owes
abbrev pub is_owed_on : ℕ → OwedUse → Bool
is_owed_on ino u = u.ino == ino

-- a file owes an operation a use, or none
abbrev pub with_owed : ℕ → Option Operation → List OwedUse → List OwedUse
with_owed ino None owed = filter (λ u. not (is_owed_on ino u)) owed
with_owed ino (Some o) owed = filter (λ u. not (is_owed_on ino u)) owed ++ record { ino = ino; op = o.op } ∷ []

-- Owing
unfoldable pub owe : ThirdTurn → ℕ → Mode → ThirdTurn
owe t ino mode = with_beside (record t.beside { owed = with_owed ino (find (may_be_owed t ino mode) t.plain.operations) t.beside.owed }) t

-- Granted, as in the other forms: the wait is forgotten. A grant that is installed owes a use: it is
-- above the greatest seen, and there is a place for it.
abbrev pub is_installed : ClientSession → ℕ → GrantNo → Bool
is_installed s ino g = locks.is_above_seen s.locks ino g && locks.has_place s.locks ino

-- a grant is taken
abbrev pub take_grant : ThirdTurn → ClientSession → ℕ → GrantNo → Mode → ThirdTurn
take_grant t s ino g mode = with_its_session (replies.grant s ino g mode) t

-- installed, or not
unfoldable pub grant : ThirdTurn → ClientSession → ℕ → GrantNo → Mode → ThirdTurn
grant t s ino g mode = if is_installed s ino g then owe (take_grant t s ino g mode) ino mode else take_grant t s ino g mode

-- Granted
unfoldable pub granted : ThirdTurn → ClientSession → ℕ → GrantNo → Mode → ThirdTurn
granted t s ino g mode = grant t (forget_wait ino s) ino g mode

-- What a file owes.

-- an operation that was neither sent nor answered
abbrev pub is_due_use : ℕ → Operation → Bool
is_due_use op o = is_operation_numbered op o && not (is_sent o)

-- the owed operation is still due
abbrev pub is_due : List Operation → Option OwedUse → Bool
is_due os None = false
is_due os (Some u) = list_any (is_due_use u.op) os

-- the use that is owed, if one is
abbrev pub owed_of : List OwedUse → ℕ → Option OwedUse
owed_of owed ino = find (is_owed_on ino) owed

-- the file owes a use
abbrev pub owes : List Operation → List OwedUse → ℕ → Bool
owes os owed ino = is_due os (owed_of owed ino)

-- it is owed to this operation
abbrev pub is_owed_to : Operation → Option OwedUse → Bool
is_owed_to o None = false
is_owed_to o (Some u) = u.op == o.op

-- the file owes a use to another operation
abbrev pub owes_another : List Operation → List OwedUse → ℕ → Operation → Bool
owes_another os owed ino o = owes os owed ino && not (is_owed_to o (owed_of owed ino))

-- Open: the file is not busy, and is not demanded or owes this operation a use.
abbrev pub is_open_to : List Operation → ThirdTurn → ClientSession → Operation → ℕ → Bool
is_open_to os t s o ino = not (is_busy os (here t) s ino) && (not (locks.is_demanded s.locks ino) || is_owed_to o (owed_of t.beside.owed ino))

-- the operation's file is open to it, or it has none
abbrev pub is_open : List Operation → ThirdTurn → ClientSession → Operation → Option ℕ → Bool
is_open os t s o None = true
is_open os t s o (Some ino) = is_open_to os t s o ino

-- a cut or a remove under a sufficient lock waits while its file owes another operation a use
abbrev pub waits_for_use : ThirdTurn → ClientSession → Operation → Option ℕ → Bool
waits_for_use t s o None = false
waits_for_use t s o (Some ino) =
    is_cut_or_name o.ask && (covers (locks.mode_of s.locks ino) (need o.ask) && owes_another t.plain.operations t.beside.owed ino o)

-- Reductions: a file that owes a use is not reduced.
abbrev pub may_reduce : ThirdTurn → ClientSession → ℕ → Bool
may_reduce t s ino = passes.may_reduce t.plain s ino && not (owes t.plain.operations t.beside.owed ino)

-- a file is reduced to what is demanded
abbrev pub reduced : ClientSession → Option DemandedFile → ℕ → Turn → Turn
reduced s d ino t = passes.reduce_by t s ino (locks.reduce_at s.locks d)

-- a file that may be reduced
unfoldable pub reduce_idle : ThirdTurn → ClientSession → ℕ → Option DemandedFile → ThirdTurn
reduce_idle t s ino d = if may_reduce t s ino then plainly (reduced s d ino) t else t

-- with a session
unfoldable pub reduce : ThirdTurn → ℕ → Option DemandedFile → Option ClientSession → ThirdTurn
reduce t ino d None = t
reduce t ino d (Some s) = reduce_idle t s ino d

-- these files, in order, by these demands
unfoldable pub reduce_each : List DemandedFile → List ℕ → ThirdTurn → ThirdTurn
reduce_each ds [] t = t
reduce_each ds (ino ∷ inos) t = reduce_each ds inos (reduce t ino (find (locks.is_demand_on ino) ds) t.plain.here.session)

-- opens all of this file and of those below it
unfoldable pub used_once_open : ⊤
unfolding owe grant granted reduce_idle reduce reduce_each
used_once_open = tt
