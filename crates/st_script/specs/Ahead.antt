-- The bytes of a source that are ahead of a script: those that were taken and are held, and those that the source has left.
use Rattle.std.specs.Prelude.{◌≡◌, ◌≢◌, ◌<◌, ℕ, ◌+◌, List, [], ◌∷◌, ◌++◌, length, take, drop, get_or, Option, Some, None, Result, Ok, Err}
use Rattle.std.specs.Io.KnownBytes.{Consumes, IsAtEnd, prepend_known}
use Rattle.st_link.specs.Causes.{Rose}
use Rattle.st_schedule.specs.declared.fault.Fault.{Fault}
use Rattle.st_schedule_words.specs.Lines.{lines_of}
use Rattle.st_script.specs.declared.fault.Stop.{Stop}
use Rattle.st_script.specs.declared.fault.Stop.TheVariants as stops
use Rattle.st_script.specs.Scripts.{Outcome, Rules, first_line, headed_lines, play_from, read_line, stopped}
use Rattle.st_script.specs.States.{Goes}

-- none of the first n bytes is a newline
abbrev pub HasNone : List ℕ → ℕ → Type 0
HasNone bytes n = (k : ℕ) → k < n → get_or bytes k 0 ≢ 10

-- the place of the first newline
abbrev pub IsFirst : List ℕ → Option ℕ → Type 0
IsFirst bytes None = HasNone bytes (length bytes)
IsFirst bytes (Some at) = (at < length bytes) × (get_or bytes at 0 ≡ 10) × HasNone bytes at

-- a piece of that many bytes was taken after those that are held; an empty one if the source has ended
pub record TakesPiece (left_before left_now : Option (List ℕ)) (before now : List ℕ) (n : ℕ) : Type 0 where
  pub piece : List ℕ
  pub took : Consumes left_before left_now piece
  pub held : now ≡ before ++ piece
  pub counted : length piece ≡ n
  pub ended : n ≡ 0 → IsAtEnd left_now

-- a read failed, or memory ran out
abbrev pub IsFault : Stop → Type 0
IsFault stops.Malformed = ⊥
IsFault stops.Read = Unit {0}
IsFault stops.Memory = Unit {0}

-- the first of these bytes are a line, of this number of bytes, and these are after it
pub record IsLine (bytes held : List ℕ) (left : Option (List ℕ)) (n : ℕ) : Type 0 where
  pub rest : List ℕ
  pub known : prepend_known (drop (n + 1) held) left ≡ Some rest
  pub lines : lines_of bytes ≡ take n held ∷ lines_of rest

-- their first line is longer than a line may be
pub record BeginsLong (bytes : List ℕ) : Type 0 where
  pub line : List ℕ
  pub others : List (List ℕ)
  pub lines : lines_of bytes ≡ line ∷ others
  pub long : 256 < length line

-- what is found ahead: a line, nothing, or a line that is too long
abbrev pub Finds : List ℕ → List ℕ → Option (List ℕ) → Result (Option ℕ) Stop → Type 0
Finds bytes held left (Ok (Some n)) = IsLine bytes held left n
Finds bytes held left (Ok None) = bytes ≡ []
Finds bytes held left (Err stops.Malformed) = BeginsLong bytes
Finds bytes held left (Err stops.Read) = Unit {0}
Finds bytes held left (Err stops.Memory) = Unit {0}

-- the count of the source's faults rose if a read failed, and otherwise stayed
abbrev pub StopCauses : {T : Type 0} → Result T Stop → ℕ → ℕ → Type 0
StopCauses (Ok x) before now = now ≡ before
StopCauses (Err stops.Malformed) before now = now ≡ before
StopCauses (Err stops.Read) before now = Rose before now
StopCauses (Err stops.Memory) before now = now ≡ before

-- these bytes begin with a line that is read so, and these are after it
pub record Says {X : Type 0} (read : List ℕ → Option X) (bytes : List ℕ) (ahead : Option (List ℕ)) (said : X) : Type 0 where
  pub line : List ℕ
  pub rest : List ℕ
  pub known : ahead ≡ Some rest
  pub lines : lines_of bytes ≡ line ∷ lines_of rest
  pub read_so : read line ≡ Some said

-- what is read of the line ahead, after that many events: an event or the end; or the script stops there
abbrev pub ReadsOn : {State Event : Type 0} → Rules State Event → ℕ → List ℕ → Option (List ℕ) → Result (Option Event) Stop → Type 0
ReadsOn r done bytes ahead (Ok said) = Says (read_line r done) bytes ahead said
ReadsOn {State} r done bytes ahead (Err stops.Malformed) = (line : ℕ) (s : State) → play_from r done line s (lines_of bytes) ≡ stopped line
ReadsOn r done bytes ahead (Err stops.Read) = Unit {0}
ReadsOn r done bytes ahead (Err stops.Memory) = Unit {0}

-- what is read of a first line: a value that stands for the state that it begins; or the script stops there
abbrev pub Heads : {State Event Y : Type 0} → (State → Y → Type 0) → (List (List ℕ) → Result State Fault) → Rules State Event → List ℕ → Option (List ℕ) → Result Y Stop → Type 0
Heads {State} stands head r bytes ahead (Ok y) = (s : State) × (stands s y × Says (first_line head) bytes ahead s)
Heads stands head r bytes ahead (Err stops.Malformed) = headed_lines head r (lines_of bytes) ≡ stopped 1
Heads stands head r bytes ahead (Err stops.Read) = Unit {0}
Heads stands head r bytes ahead (Err stops.Memory) = Unit {0}

-- the text that was written and what comes of the bytes that are ahead are the outcome, if the bytes of the source are known
pub record GoesAhead {State Event : Type 0} (holds : State → Type 0) (r : Rules State Event) (done first : ℕ) (before now : Option (List ℕ)) (ahead : Option (List ℕ))
    (o : Outcome State) : Type 0 where
  pub rest : List ℕ
  pub known : ahead ≡ Some rest
  pub goes : Goes holds r done first before now (lines_of rest) o
