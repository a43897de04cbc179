-- What was called and answered, and what is promised about it: which writes reads return, and what holds when clients come and go.
use Rattle.std.specs.Prelude.{◌≡◌, ℕ, Bool, true, false, not, ◌&&◌, ◌||◌, ◌==◌, if◌then◌else◌, List, [], ◌∷◌, length, Option, Some, None, Result, Ok, Err}
use Rattle.st_base.specs.Page.{filled}
use Rattle.st_base.specs.declared.ids.ClientId.{ClientId}
use Rattle.st_base.specs.declared.ids.PageNo.{PageNo}
use Rattle.st_rules.specs.Keys.{same_client, same_page}
use Rattle.st_shared.specs.declared.refusal.SharedRefusal.{SharedRefusal}
use Rattle.st_shared.specs.Calls.{told_report, state_after}
use Rattle.st_shared.specs.Shared as rules
use Rattle.st_shared.specs.Shared.{Shared, fresh_shared, Answer, Done, Number, Hard, Bytes, Failed, Silent, Refused}

-- Calls, and what each comes to: the state that it leaves, and its answer.
pub data Call : Type 0 where
  Enter : (c : ClientId) → Call
  Leave : (c : ClientId) → Call
  Lock : (c : ClientId) → Call
  Unlock : (c : ClientId) → Call
  Crash : (c : ClientId) → Call
  Expire : (c : ClientId) → Call
  Write : (c : ClientId) (page : PageNo) (bytes : List ℕ) → Call
  Read : (c : ClientId) (page : PageNo) → Call
  Effect : (n : ℕ) → Call
  Report : (n : ℕ) (ok : Bool) → Call

-- the answer to a call that has nothing to tell
abbrev pub told_done : Result Shared SharedRefusal → Answer
told_done (Ok s) = Done
told_done (Err r) = Refused r

-- the answer to a call that submits: the number of the last command
abbrev pub told_number : Result Shared SharedRefusal → Answer
told_number (Ok s) = Number (length s.disk.commands)
told_number (Err r) = Refused r

-- the rule of a call
abbrev pub rule_of : Shared → Call → Result Shared SharedRefusal
rule_of s (Enter c) = rules.enter s c
rule_of s (Leave c) = rules.leave s c
rule_of s (Lock c) = rules.lock s c
rule_of s (Unlock c) = rules.unlock s c
rule_of s (Crash c) = rules.crash s c
rule_of s (Expire c) = rules.expire s c
rule_of s (Write c page bytes) = rules.write s c page bytes
rule_of s (Read c page) = rules.read s c page
rule_of s (Effect n) = rules.effect s n
rule_of s (Report n ok) = rules.report s n ok

-- what a call is answered, by what its rule gives
abbrev pub answer_of : Call → Result Shared SharedRefusal → Answer
answer_of (Write c page bytes) result = told_number result
answer_of (Read c page) result = told_number result
answer_of (Report n ok) result = told_report n ok result
answer_of call result = told_done result

-- A history: the calls with their answers, the latest first.
pub record Step : Type 0 where
  pub call : Call
  pub answer : Answer

-- a state, and the history that led to it
pub record Traced : Type 0 where
  pub state : Shared
  pub past : List Step

-- one call more
abbrev pub go_on : Traced → Call → Traced
go_on t call = record { state = state_after t.state (rule_of t.state call); past = record { call = call; answer = answer_of call (rule_of t.state call) } ∷ t.past }

-- these calls, the latest first, on a fresh file with this number of blocks
unfoldable pub trace : ℕ → List Call → Traced
trace blocks [] = record { state = fresh_shared blocks; past = [] }
trace blocks (call ∷ earlier) = go_on (trace blocks earlier) call

-- What a history says.

-- the call was done, and had nothing to tell
abbrev pub is_done : Answer → Bool
is_done Done = true
is_done answer = false

-- the call made the command of this number
abbrev pub is_number : ℕ → Answer → Bool
is_number n (Number k) = k == n
is_number n answer = false

-- Commands: whose each is, on which page, and what it writes, if it writes.
pub record Issued : Type 0 where
  pub client : ClientId
  pub page : PageNo
  pub writes : Option (List ℕ)

-- what a call submits
abbrev pub issue_of : Call → Option Issued
issue_of (Write c page bytes) = Some (record { client = c; page = page; writes = Some bytes })
issue_of (Read c page) = Some (record { client = c; page = page; writes = None })
issue_of call = None

-- the command of a number
abbrev pub issued : List Step → ℕ → Option Issued
issued [] n = None
issued (step ∷ past) n = if is_number n step.answer then issue_of step.call else issued past n

-- Effects: one list of all, the latest first, each with its command.
pub record Effected : Type 0 where
  pub number : ℕ
  pub command : Issued

-- the effect of a command that was submitted
abbrev pub with_effect : ℕ → Option Issued → List Effected → List Effected
with_effect n None es = es
with_effect n (Some i) es = record { number = n; command = i } ∷ es

-- the effect that a call was, on top of the earlier ones
abbrev pub and_effect : List Step → Call → List Effected → List Effected
and_effect past (Effect n) es = with_effect n (issued past n) es
and_effect past call es = es

-- the effects of a history
abbrev pub effects : List Step → List Effected
effects [] = []
effects (step ∷ past) = if is_done step.answer then and_effect past step.call (effects past) else effects past

-- what a page has after an effect
abbrev pub written_over : Option (List ℕ) → List ℕ → List ℕ
written_over None bytes = bytes
written_over (Some new) bytes = new

-- the bytes of the last write to a page among these effects, or zeros
abbrev pub last_write : PageNo → List Effected → List ℕ
last_write page [] = filled 0
last_write page (e ∷ es) = if same_page e.command.page page then written_over e.command.writes (last_write page es) else last_write page es

-- what the effect of a command lets its report tell: that a write is hard, or the bytes of the last write to a read's page among the effects that come before
-- the read's own
abbrev pub told_of : Option (List ℕ) → List ℕ → Answer
told_of (Some new) bytes = Hard
told_of None bytes = Bytes bytes

-- what the effect of the command of a number lets its report tell, if it had its effect
abbrev pub told_by : ℕ → List Effected → Option Answer
told_by n [] = None
told_by n (e ∷ es) = if e.number == n then Some (told_of e.command.writes (last_write e.command.page es)) else told_by n es

-- Clients: whether one is in after a call that was done
abbrev pub is_in_after : ClientId → Call → Bool → Bool
is_in_after c (Enter d) was = same_client d c || was
is_in_after c (Leave d) was = not (same_client d c) && was
is_in_after c (Expire d) was = not (same_client d c) && was
is_in_after c call was = was

-- the client is in: it entered, and did not leave or expire since
abbrev pub is_in : ClientId → List Step → Bool
is_in c [] = false
is_in c (step ∷ past) = if is_done step.answer then is_in_after c step.call (is_in c past) else is_in c past

-- whether a client has the lock row after a call that was done
abbrev pub has_lock_after : ClientId → Call → Bool → Bool
has_lock_after c (Lock d) was = same_client d c || was
has_lock_after c (Unlock d) was = not (same_client d c) && was
has_lock_after c call was = was

-- the client has the lock row: it locked, and did not unlock since
abbrev pub has_lock : ClientId → List Step → Bool
has_lock c [] = false
has_lock c (step ∷ past) = if is_done step.answer then has_lock_after c step.call (has_lock c past) else has_lock c past

-- the client that submitted the command is this one
abbrev pub is_issued_by : ClientId → Option Issued → Bool
is_issued_by c None = false
is_issued_by c (Some i) = same_client i.client c

-- the call expires the client of a command that was submitted
abbrev pub is_expiry : Option Issued → Call → Bool
is_expiry i (Expire c) = is_issued_by c i
is_expiry i call = false

-- the client of the command of this number expired since it submitted it
abbrev pub has_expired : ℕ → List Step → Bool
has_expired n [] = false
has_expired n (step ∷ past) = if is_done step.answer then is_expiry (issued past n) step.call || has_expired n past else has_expired n past

-- What is promised.

-- a report answered hard or with bytes has an effect before it: it is a write's, or the bytes are those of the last write to the read's page whose
-- effect comes before the read's own, or zeros
abbrev pub TellsRight : List Step → Call → Answer → Type 0
TellsRight past (Report n ok) answer = told_by n (effects past) ≡ Some answer
TellsRight past call answer = ⊥

-- the effect of a command comes before its client's expiry, and while no client has a lock row
pub record ComesInTime (n : ℕ) (past : List Step) : Type 0 where
  pub client : has_expired n past ≡ false
  pub unlocked : (c : ClientId) → has_lock c past ≡ false

-- an effect comes in time
abbrev pub IsTimely : List Step → Call → Type 0
IsTimely past (Effect n) = ComesInTime n past
IsTimely past call = Unit {0}

-- an answer is right
abbrev pub AnswersRight : List Step → Call → Answer → Type 0
AnswersRight past call Done = IsTimely past call
AnswersRight past call Hard = TellsRight past call Hard
AnswersRight past call (Bytes bytes) = TellsRight past call (Bytes bytes)
AnswersRight past call answer = Unit {0}

-- while a client is in, no client has a lock row
abbrev pub AreApart : List Step → Type 0
AreApart past = (c d : ClientId) → is_in c past && has_lock d past ≡ false

-- a step is right after what came before it
pub record IsRight (step : Step) (past : List Step) : Type 0 where
  pub answer : AnswersRight past step.call step.answer
  pub apart : AreApart (step ∷ past)

-- each step of a history is right
abbrev pub AreRight : List Step → Type 0
AreRight [] = Unit {0}
AreRight (step ∷ past) = IsRight step past × AreRight past

-- every history of a fresh file is right, however many blocks it has and whatever is called
abbrev pub EveryHistoryIsRight : Type 0
EveryHistoryIsRight = (blocks : ℕ) (calls : List Call) → AreRight (trace blocks calls).past

-- these calls on a fresh file lead to this state
pub record IsLedTo (s : Shared) : Type 0 where
  pub blocks : ℕ
  pub calls : List Call
  pub state : (trace blocks calls).state ≡ s

-- calls on a fresh file lead to this state, and the history of all such calls is right
pub record IsLedRightly (s : Shared) : Type 0 where
  pub led : IsLedTo s
  pub right : (blocks : ℕ) (calls : List Call) → (trace blocks calls).state ≡ s → AreRight (trace blocks calls).past

-- the history of all calls that lead to this state is right with this call after them, and the call's answer is what its rule says
abbrev pub GoesOnRightly : Shared → Call → Type 0
GoesOnRightly s call = (blocks : ℕ) (calls : List Call) → (trace blocks calls).state ≡ s → AreRight (trace blocks (call ∷ calls)).past
