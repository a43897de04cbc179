-- What the calls of a script of a shared file return.
use Rattle.std.specs.Prelude.{◌≡◌, ℕ, Bool, true, false, List, Result, Ok, Err}
use Rattle.st_shared.specs.declared.refusal.SharedRefusal.{SharedRefusal}
use Rattle.st_shared.specs.declared.refusal.SharedRefusal.TheVariants as refusals
use Rattle.st_shared.specs.Calls.{state_after}
use Rattle.st_shared.specs.History.{Call, answer_of, rule_of}
use Rattle.st_shared.specs.Shared.{Shared, Answer, Done, Number, Refused}
use Rattle.st_script_shared.specs.SharedScripts.{printed}

-- what a call returned that has nothing to tell
abbrev pub done_answer : Result (Unit {0}) SharedRefusal → Answer
done_answer (Ok u) = Done
done_answer (Err r) = Refused r

-- what a call returned that submits a command
abbrev pub number_answer : Result ℕ SharedRefusal → Answer
number_answer (Ok n) = Number n
number_answer (Err r) = Refused r

-- the refusal is lack of memory
abbrev pub is_memory : SharedRefusal → Bool
is_memory refusals.Memory = true
is_memory r = false

-- a call ran out of memory
abbrev pub lacks : {A : Type 0} → Result A SharedRefusal → Bool
lacks (Ok a) = false
lacks (Err r) = is_memory r

-- A call left what its rule says and returned what its rule answers, unless memory ran out.
abbrev pub Performs : Shared → Shared → Call → Bool → Answer → Type 0
Performs old new call lacking answer = lacking ≡ false → (new ≡ state_after old (rule_of old call)) × (answer ≡ answer_of call (rule_of old call))

-- what a call leaves
abbrev pub left_by : Shared → Call → Shared
left_by s call = state_after s (rule_of s call)

-- what is printed of a call
abbrev pub printed_on : Shared → Call → List (List ℕ)
printed_on s call = printed call (answer_of call (rule_of s call))
