-- What the calls on a shared file return, and what they leave.
use Rattle.std.specs.Prelude.{◌≡◌, ℕ, Bool, length, Option, Some, None, Result, Ok, Err, IsOk}
use Rattle.st_rules.specs.Disks.{Disks}
use Rattle.st_rules.specs.declared.disks.CommandRefusal.{CommandRefusal}
use Rattle.st_disk.specs.declared.refusal.DiskRefusal.{DiskRefusal}
use Rattle.st_disk.specs.Calls.{told}
use Rattle.st_shared.specs.declared.answer.SharedAnswer.{SharedAnswer}
use Rattle.st_shared.specs.declared.answer.SharedAnswer.TheVariants as answers
use Rattle.st_shared.specs.declared.refusal.SharedRefusal.{SharedRefusal}
use Rattle.st_shared.specs.declared.refusal.SharedRefusal.TheVariants.{Memory}
use Rattle.st_shared.specs.Shared.{Shared, Answer, Hard, Bytes, Failed, Silent, Refused, report_answer}

-- a call that takes no memory did what the rule says; if the rule refuses, nothing changed
abbrev pub Does : Shared → Shared → Result (Unit {0}) SharedRefusal → Result Shared SharedRefusal → Type 0
Does old new (Ok u) rule = rule ≡ Ok new
Does old new (Err r) rule = (rule ≡ Err r) × (new ≡ old)

-- a call did what the rule says, or ran out of memory if the rule does not refuse; then, and if it refuses, nothing changed
abbrev pub DoesOrLacks : Shared → Shared → Result (Unit {0}) SharedRefusal → Result Shared SharedRefusal → Type 0
DoesOrLacks old new (Ok u) rule = rule ≡ Ok new
DoesOrLacks old new (Err Memory) rule = IsOk rule × (new ≡ old)
DoesOrLacks old new (Err r) rule = (rule ≡ Err r) × (new ≡ old)

-- a check passes if the rule does not refuse, and otherwise it has its refusal
abbrev pub Checks : Result (Unit {0}) SharedRefusal → Result Shared SharedRefusal → Type 0
Checks (Ok u) rule = IsOk rule
Checks (Err r) rule = rule ≡ Err r

-- a refusal of the disk's rule, if there is one
abbrev pub RefusesAs : Option DiskRefusal → Result Disks CommandRefusal → Type 0
RefusesAs None rule = IsOk rule
RefusesAs (Some r) rule = told rule ≡ Err r

-- a call that submits a command did so, or ran out of memory if the rule does not refuse; it returns the number of the command, which is the last one
abbrev pub Numbers : Shared → Shared → Result ℕ SharedRefusal → Result Shared SharedRefusal → Type 0
Numbers old new (Ok n) rule = (rule ≡ Ok new) × (n ≡ length new.disk.commands)
Numbers old new (Err Memory) rule = IsOk rule × (new ≡ old)
Numbers old new (Err r) rule = (rule ≡ Err r) × (new ≡ old)

-- an answer by what it shows
abbrev pub shown : SharedAnswer → Answer
shown answers.Hard = Hard
shown (answers.Read bytes) = Bytes bytes.now
shown answers.Failed = Failed
shown answers.Silent = Silent

-- what a report returns, by what it shows
abbrev pub shown_result : Result SharedAnswer SharedRefusal → Answer
shown_result (Ok a) = shown a
shown_result (Err r) = Refused r

-- the answer to a report, in the state that the report leaves, or its refusal
abbrev pub told_report : ℕ → Bool → Result Shared SharedRefusal → Answer
told_report n ok (Ok s) = report_answer s n ok
told_report n ok (Err r) = Refused r

-- what a report leaves
abbrev pub state_after : Shared → Result Shared SharedRefusal → Shared
state_after s (Ok t) = t
state_after s (Err r) = s
