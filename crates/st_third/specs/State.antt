-- The state of a client of the third form: that of a client of the first two forms, and beside it
-- what the third form adds. A rule of the third form is a rule of the first two if it says
-- nothing else.
use Rattle.std.specs.Prelude.{ℕ, Bool, ◌&&◌, not, ◌==◌, nat_lt, if◌then◌else◌, List, [], ◌∷◌, ◌++◌, filter, map, Option, None, ⊤}
use Rattle.std.specs.List.{list_any}
use Rattle.st_base.specs.declared.ids.ServerId.{ServerId}
use Rattle.st_base.specs.declared.ids.Stamp.{Stamp}
use Rattle.st_messages.specs.declared.output.Output.{Output}
use Rattle.st_messages.specs.declared.output.Output.TheVariants as outputs
use Rattle.st_messages.specs.declared.answer.AppAnswer.{AppAnswer}
use Rattle.st_rules.specs.declared.client.Operation.{Operation}
use Rattle.st_rules.specs.Keys.{same_server, rising}
use Rattle.st_rules.specs.ClientState as plain
use Rattle.st_rules.specs.ClientState.{Association, ClientSession, ClientState, Turn, client_turn, is_of, with_operations, with_session, client_state_open}
use Rattle.st_third.specs.declared.beside.Leave.{Leave}
use Rattle.st_third.specs.declared.beside.OwedUse.{OwedUse}
use Rattle.st_third.specs.declared.limits.Limits.{Limits}
use Rattle.st_third.specs.declared.output.ThirdOutput.{ThirdOutput}
use Rattle.st_third.specs.declared.output.ThirdOutput.TheVariants as says

-- What a client has beside an association: the uses that files owe, how many pages its next run may
-- have, and when the server refused a lock as too many.
pub record Beside : Type 0 where
  pub owed : List OwedUse
  pub run : ℕ
  pub full : Option Stamp

-- How many pages a run has at most.
abbrev pub RUN : ℕ
RUN = 64

-- beside a session that begins
abbrev pub fresh_beside : Beside
fresh_beside = record { owed = []; run = RUN; full = None }

-- What a client has beside its state: its pending leaves in rising order of their numbers, and what
-- it has beside each association.
pub record ClientBeside : Type 0 where
  pub leaves : List Leave
  pub besides : List Beside

-- beside an association at a start
abbrev pub beside_of : Association → Beside
beside_of a = fresh_beside

-- beside a client at a start
unfoldable pub fresh_beside_client : ClientState → ClientBeside
fresh_beside_client c = record { leaves = []; besides = map beside_of c.associations }

-- A client of the third form
pub record ThirdClient : Type 0 where
  pub plain : ClientState
  pub beside : ClientBeside

-- a step so far: the client, and what it said in order
pub record ThirdClientTurn : Type 0 where
  pub client : ThirdClient
  pub out : List ThirdOutput

-- a step that begins
abbrev pub third_turn : ThirdClient → List ThirdOutput → ThirdClientTurn
third_turn c out = record { client = c; out = out }

-- A step so far, at one server: a step of the first two forms, with what it said last; the limits;
-- the pending leaves; what is beside the association; how many changes wait for room in this step;
-- and what was said before.
pub record ThirdTurn : Type 0 where
  pub plain : Turn
  pub limits : Limits
  pub leaves : List Leave
  pub beside : Beside
  pub room : ℕ
  pub said : List ThirdOutput

-- what the other forms say too
abbrev pub plain_output : Output → ThirdOutput
plain_output o = says.Plain o

-- all that was said
abbrev pub all_said : ThirdTurn → List ThirdOutput
all_said t = t.said ++ map plain_output t.plain.out

-- At each server in turn.

-- a step at an association
abbrev pub enter : Limits → ThirdClientTurn → Association → Beside → ThirdTurn
enter m t a b =
    record {
      plain = plain.enter (client_turn t.client.plain []) a;
      limits = m;
      leaves = t.client.beside.leaves;
      beside = b;
      room = 0;
      said = t.out;
    }

-- what a client has beside its state, after a step at an association
abbrev pub beside_left : ClientBeside → ThirdTurn → ClientBeside
beside_left b r = record { leaves = r.leaves; besides = b.besides ++ r.beside ∷ [] }

-- an association that a rule left goes last
abbrev pub leave : ThirdClientTurn → ThirdTurn → ThirdClientTurn
leave t r =
    record {
      client = record { plain = (plain.leave (client_turn t.client.plain []) r.plain).state; beside = beside_left t.client.beside r };
      out = all_said r;
    }

-- the rule at these associations, in order
unfoldable pub at_these : Limits → (ThirdTurn → ThirdTurn) → List Association → List Beside → ThirdClientTurn → ThirdClientTurn
at_these m rule [] bs t = t
at_these m rule (a ∷ rest) [] t = t
at_these m rule (a ∷ rest) (b ∷ bs) t = at_these m rule rest bs (leave t (rule (enter m t a b)))

-- no association so far
abbrev pub with_none : ThirdClient → ThirdClient
with_none c = record { plain = record c.plain { associations = [] }; beside = record c.beside { besides = [] } }

-- At each server in turn
unfoldable pub at_each : Limits → (ThirdTurn → ThirdTurn) → ThirdClientTurn → ThirdClientTurn
at_each m rule t = at_these m rule t.client.plain.associations t.client.beside.besides (record t { client = with_none t.client })

-- Only at one server
unfoldable pub only_at : ServerId → (ThirdTurn → ThirdTurn) → ThirdTurn → ThirdTurn
only_at s rule t = if plain.is_at s t.plain.here then rule t else t

-- Changes of one part.

-- a rule of the first two forms
unfoldable pub plainly : (Turn → Turn) → ThirdTurn → ThirdTurn
plainly rule t = record t { plain = rule t.plain }

-- with this session
abbrev pub with_its_session : ClientSession → ThirdTurn → ThirdTurn
with_its_session s t = plainly (with_session s) t

-- with this beside the association
abbrev pub with_beside : Beside → ThirdTurn → ThirdTurn
with_beside b t = record t { beside = b }

-- the session, if there is one
abbrev pub session : ThirdTurn → Option ClientSession
session t = t.plain.here.session

-- this server
abbrev pub here : ThirdTurn → ServerId
here t = t.plain.here.server

-- one more word of the third form
unfoldable pub say : ThirdTurn → ThirdOutput → ThirdTurn
say t o = record t { plain = record t.plain { out = [] }; said = all_said t ++ o ∷ [] }

-- Leaves among the operations.

-- a leave of this server
abbrev pub is_leave_of : ServerId → Leave → Bool
is_leave_of s l = same_server l.server s

-- the leave of a number
abbrev pub is_leave_numbered : ℕ → Leave → Bool
is_leave_numbered op l = l.op == op

-- a leave of this server, with a number below this one
abbrev pub is_leave_before : ServerId → ℕ → Leave → Bool
is_leave_before s op l = is_leave_of s l && nat_lt l.op op

-- the operation of a number
abbrev pub is_operation_numbered : ℕ → Operation → Bool
is_operation_numbered op o = o.op == op

-- an operation of this server, with a number below this one
abbrev pub is_before : ServerId → ℕ → Operation → Bool
is_before s op o = is_of s o && nat_lt o.op op

-- the number of an operation
abbrev pub op_of : Operation → ℕ
op_of o = o.op

-- the number of a leave
abbrev pub op_of_leave : Leave → ℕ
op_of_leave l = l.op

-- the numbers of operations and leaves, rising
abbrev pub numbers_of : List Operation → List Leave → List ℕ
numbers_of os ls = rising (map op_of os ++ map op_of_leave ls)

-- Active: no leave of the operation's server is pending before it.
abbrev pub is_active : List Leave → ServerId → Operation → Bool
is_active ls s o = is_of s o && not (list_any (is_leave_before s o.op) ls)

-- a leave of this server that no operation of the server precedes
abbrev pub is_first_leave : ServerId → List Operation → Leave → Bool
is_first_leave s os l = is_leave_of s l && not (list_any (is_before s l.op) os)

-- Leaving: the first pending operation of the server is a leave.
abbrev pub is_leaving : ThirdTurn → Bool
is_leaving t = list_any (is_first_leave (here t) t.plain.operations) t.leaves

-- a leave is no longer pending
abbrev pub without_leave : Leave → ThirdTurn → ThirdTurn
without_leave l t = record t { leaves = filter (λ x. not (is_leave_numbered l.op x)) t.leaves }

-- a leave is answered with one of the answers of all forms
unfoldable pub answer_leave : AppAnswer → Leave → ThirdTurn → ThirdTurn
answer_leave answer l t = say (without_leave l t) (says.Plain (outputs.Answer l.op answer))

-- Answering the operations that a test picks and the leaves of the server, in the order of their
-- numbers.
abbrev pub answer_number : AppAnswer → ℕ → Output
answer_number answer op = outputs.Answer op answer

-- these are no longer pending
abbrev pub without_picked : (Operation → Bool) → ThirdTurn → ThirdTurn
without_picked picked t =
    record t {
      plain = with_operations (filter (λ o. not (picked o)) t.plain.operations) t.plain;
      leaves = filter (λ l. not (is_leave_of (here t) l)) t.leaves;
    }

-- the numbers of those that are answered
abbrev pub numbers_picked : (Operation → Bool) → ThirdTurn → List ℕ
numbers_picked picked t = numbers_of (filter picked t.plain.operations) (filter (is_leave_of (here t)) t.leaves)

-- these numbers are answered
abbrev pub answer_numbers : AppAnswer → List ℕ → Turn → Turn
answer_numbers answer ns t = record t { out = t.out ++ map (answer_number answer) ns }

-- Answering them
unfoldable pub answer_with_leaves : (Operation → Bool) → AppAnswer → ThirdTurn → ThirdTurn
answer_with_leaves picked answer t = plainly (answer_numbers answer (numbers_picked picked t)) (without_picked picked t)

-- opens all of this file and of those below it
unfoldable pub third_state_open : ⊤
unfolding client_state_open fresh_beside_client at_these at_each only_at plainly say answer_leave answer_with_leaves
third_state_open = tt
