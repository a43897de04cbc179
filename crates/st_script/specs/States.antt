-- A script on its way.
use Rattle.std.specs.Prelude.{◌≡◌, ℕ, ◌+◌, List, Option, Some, None, Result, Ok, Err}
use Rattle.std.specs.Io.KnownBytes.{Appends}
use Rattle.st_script.specs.declared.fault.Stop.{Stop}
use Rattle.st_script.specs.declared.fault.Stop.TheVariants as stops
use Rattle.st_script.specs.Scripts.{Outcome, Rules, behind, play_from}

-- a call read what the line says, unless memory ran out
abbrev pub IsRead : {Event : Type 0} → Result (Option Event) Stop → Option (Option Event) → Type 0
IsRead (Ok e) read = read ≡ Some e
IsRead (Err stops.Malformed) read = read ≡ None
IsRead (Err stops.Read) read = ⊥
IsRead (Err stops.Memory) read = Unit {0}

-- The text that was written after that many events, and what comes of the lines that are left, are the outcome; there is a state there. The first event is in
-- the line of this number.
pub record Goes {State Event : Type 0} (holds : State → Type 0) (r : Rules State Event) (done first : ℕ) (before now : Option (List ℕ)) (ls : List (List ℕ))
    (o : Outcome State) : Type 0 where
  pub state : State
  pub stands : holds state
  pub written : List ℕ
  pub wrote : Appends before now written
  pub goes : behind written (play_from r done (first + done) state ls) ≡ o

-- a call began a script by its first line, unless memory ran out
abbrev pub IsBegun : {State Y : Type 0} → (State → Y → Type 0) → Result Y Stop → Option State → Type 0
IsBegun {State} stands (Ok y) first = (s : State) × ((first ≡ Some s) × stands s y)
IsBegun stands (Err stops.Malformed) first = first ≡ None
IsBegun stands (Err stops.Read) first = ⊥
IsBegun stands (Err stops.Memory) first = Unit {0}
