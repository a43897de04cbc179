-- How a script's runner ended, and what holds then: of the sink, and of the counts of faults.
use Rattle.std.specs.Prelude.{◌≡◌, ◌≤◌, ℕ, List, Option, Result, Ok, Err}
use Rattle.std.specs.Io.KnownBytes.{Appends}
use Rattle.st_link.specs.Causes.{Rose}
use Rattle.st_link.specs.Prefixes.{AppendsPrefix}
use Rattle.st_schedule.specs.declared.fault.Fault.{Fault}
use Rattle.st_schedule.specs.declared.fault.ReadError.{ReadError}
use Rattle.st_schedule.specs.declared.fault.ReadError.TheVariants as errors
use Rattle.st_script.specs.declared.fault.ScriptFault.{ScriptFault}
use Rattle.st_script.specs.declared.fault.ScriptFault.TheVariants as faults
use Rattle.st_script.specs.Scripts.{Ending, Whole, Stopped, Outcome, stopped_text}

-- the script went through its end, in a state of which this holds
abbrev pub IsWhole : {State : Type 0} → (State → Type 0) → Ending State → Type 0
IsWhole holds (Whole s) = holds s
IsWhole holds (Stopped line) = ⊥

-- What was written, next to the outcome of all bytes: the whole text if the script went through its end, in a state of which this holds, or stopped at a
-- line; and otherwise a prefix of it.
abbrev pub Reports : {State : Type 0} → (State → Type 0) → Result Unit ScriptFault → Option (List ℕ) → Option (List ℕ) → Outcome State → Type 0
Reports holds (Ok u) before now o = IsWhole holds o.ending × Appends before now o.text
Reports holds (Err (faults.Line n)) before now o = (o.ending ≡ Stopped n) × Appends before now o.text
Reports holds (Err faults.Read) before now o = AppendsPrefix before now o.text
Reports holds (Err faults.Write) before now o = AppendsPrefix before now o.text
Reports holds (Err faults.Memory) before now o = AppendsPrefix before now o.text

-- The counts of faults of the source and of the sink: one of them rose at `Read` and at `Write`; both stayed if the script
-- went through or stopped at a line.
abbrev pub HasCauses : {T : Type 0} → Result T ScriptFault → ℕ → ℕ → ℕ → ℕ → Type 0
HasCauses (Ok r) read_before read_now written_before written_now = (read_now ≡ read_before) × (written_now ≡ written_before)
HasCauses (Err (faults.Line n)) read_before read_now written_before written_now = (read_now ≡ read_before) × (written_now ≡ written_before)
HasCauses (Err faults.Read) read_before read_now written_before written_now = Rose read_before read_now × (written_before ≤ written_now)
HasCauses (Err faults.Write) read_before read_now written_before written_now = (read_before ≤ read_now) × Rose written_before written_now
HasCauses (Err faults.Memory) read_before read_now written_before written_now = (read_before ≤ read_now) × (written_before ≤ written_now)

-- a call gave a value that stands for what a line begins, or its fault, unless memory ran out
abbrev pub Begins : {State Y : Type 0} → (State → Y → Type 0) → Result Y ReadError → Result State Fault → Type 0
Begins {State} stands (Ok y) read = (s : State) × ((read ≡ Ok s) × stands s y)
Begins stands (Err errors.Memory) read = Unit {0}
Begins stands (Err (errors.Fault f)) read = read ≡ Err f

-- A call wrote the line of a script that stops at this line, or a prefix of it if the write failed; if memory ran out it wrote nothing.
abbrev pub Refuses : ScriptFault → ℕ → Option (List ℕ) → Option (List ℕ) → Type 0
Refuses (faults.Line n) line before now = (n ≡ line) × Appends before now (stopped_text line)
Refuses faults.Write line before now = AppendsPrefix before now (stopped_text line)
Refuses faults.Memory line before now = now ≡ before
Refuses faults.Read line before now = ⊥

-- a fault that isn't a malformed line
abbrev pub IsNoLine : ScriptFault → Type 0
IsNoLine (faults.Line n) = ⊥
IsNoLine e = Unit {0}

-- A call wrote a text, or a prefix of it.
abbrev pub Writes : Result Unit ScriptFault → Option (List ℕ) → Option (List ℕ) → List ℕ → Type 0
Writes (Ok u) before now text = Appends before now text
Writes (Err e) before now text = IsNoLine e × AppendsPrefix before now text

-- the count of a sink's faults after a call that reads nothing
abbrev pub WriteCauses : Result Unit ScriptFault → ℕ → ℕ → Type 0
WriteCauses (Ok u) before now = now ≡ before
WriteCauses (Err (faults.Line n)) before now = now ≡ before
WriteCauses (Err faults.Write) before now = Rose before now
WriteCauses (Err faults.Memory) before now = before ≤ now
WriteCauses (Err faults.Read) before now = ⊥
