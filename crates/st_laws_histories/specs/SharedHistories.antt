-- Histories of a shared file: why each call is answered as it is.
use Rattle.std.specs.Prelude.{◌≡◌, ℕ, ◌+◌, Bool, true, false, ◌||◌, if◌then◌else◌, List, [], ◌∷◌, Option}
use Rattle.st_shared.specs.History.{Call, Crash, Issued, Read, Report, Step, Write, is_done, is_issued_by, issued, trace}
use Rattle.st_shared.specs.Shared.{Answer, Bytes, Done, Failed, Hard, Number, Refused, Silent}

-- the call stops the client of a command that was submitted
abbrev pub is_stop : Option Issued → Call → Bool
is_stop i (Crash c) = is_issued_by c i
is_stop i call = false

-- the client of the command of this number crashed since it submitted it
abbrev pub has_stopped : ℕ → List Step → Bool
has_stopped n [] = false
has_stopped n (step ∷ past) = if is_done step.answer then is_stop (issued past n) step.call || has_stopped n past else has_stopped n past

-- the answer is the number of a command
abbrev pub is_numbered : Answer → Bool
is_numbered (Number n) = true
is_numbered answer = false

-- how many commands were submitted
abbrev pub submissions : List Step → ℕ
submissions [] = 0
submissions (step ∷ past) = if is_numbered step.answer then submissions past + 1 else submissions past

-- Only a write and a read get a number: that of the commands before, plus one. Only a report gets a success or a failure, as it was reported, if the client of
-- the command has not crashed since, and nothing if it has. The other calls are done. Each call may be refused.
abbrev pub HasCause : List Step → Call → Answer → Type 0
HasCause past (Write c page bytes) (Number n) = n ≡ submissions past + 1
HasCause past (Read c page) (Number n) = n ≡ submissions past + 1
HasCause past (Report n ok) Hard = (ok ≡ true) × (has_stopped n past ≡ false)
HasCause past (Report n ok) (Bytes bytes) = (ok ≡ true) × (has_stopped n past ≡ false)
HasCause past (Report n ok) Failed = (ok ≡ false) × (has_stopped n past ≡ false)
HasCause past (Report n ok) Silent = has_stopped n past ≡ true
HasCause past (Write c page bytes) Done = ⊥
HasCause past (Read c page) Done = ⊥
HasCause past (Report n ok) Done = ⊥
HasCause past call Done = Unit {0}
HasCause past call (Refused r) = Unit {0}
HasCause past call answer = ⊥

-- each step of a history has a cause in what came before it
abbrev pub HaveCauses : List Step → Type 0
HaveCauses [] = Unit {0}
HaveCauses (step ∷ past) = HasCause past step.call step.answer × HaveCauses past

abbrev pub EveryAnswerHasItsCause : Type 0
EveryAnswerHasItsCause = (blocks : ℕ) (calls : List Call) → HaveCauses (trace blocks calls).past
