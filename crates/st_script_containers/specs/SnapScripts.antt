-- The scripts of the command `snap`: their lines, and what each event is answered. docs/PROTOCOL.md, "Scripts".
use Rattle.std.specs.Prelude.{ℕ, ◌-◌, if◌then◌else◌, List, [], ◌∷◌, ◌++◌, codes, Option, Some, None, Result, Ok, Err}
use Rattle.std.specs.Str.{bytes_eq}
use Rattle.st_base.specs.Page.{filled}
use Rattle.st_rules.specs.Report.{field, runs}
use Rattle.st_schedule.specs.Grammar.{MOST_PAGE}
use Rattle.st_schedule.specs.Parser.{◌>>=◌, ends, number_at, syntax_at}
use Rattle.st_schedule_words.specs.Words.{MOST_NUMBER}
use Rattle.st_schedule.specs.declared.fault.Fault.{Fault}
use Rattle.st_script.specs.Scripts.{Rules}
use Rattle.st_script_containers.specs.declared.snap_event.SnapEvent.{SnapEvent}
use Rattle.st_script_containers.specs.declared.snap_event.SnapEvent.TheVariants as events
use Rattle.st_snap.specs.Changes.{Change, shown}
use Rattle.st_snap.specs.Images as images
use Rattle.st_snap.specs.declared.refusal.SnapRefusal.{SnapRefusal}
use Rattle.st_snap.specs.declared.refusal.SnapRefusal.TheVariants.{NoSpace, NoImage, TooMany, Memory}

-- Lines.

-- the greatest number of an image
abbrev pub MOST_IMAGE : ℕ
MOST_IMAGE = 99999

-- the words after `snap`: how many blocks there are
unfoldable pub blocks_at : List (List ℕ) → Result ℕ Fault
blocks_at ws = do
  blocks ← number_at 1 4096 ws
  none ← ends blocks.1
  Ok blocks.0

-- `write F P B`
unfoldable pub write_at : List (List ℕ) → Result SnapEvent Fault
write_at ws = do
  file ← number_at 1 MOST_NUMBER ws
  page ← number_at 0 MOST_PAGE file.1
  byte ← number_at 0 255 page.1
  none ← ends byte.1
  Ok (events.Write file.0 page.0 byte.0)

-- `read IMAGE F P`
unfoldable pub read_at : List (List ℕ) → Result SnapEvent Fault
read_at ws = do
  image ← number_at 0 MOST_IMAGE ws
  file ← number_at 1 MOST_NUMBER image.1
  page ← number_at 0 MOST_PAGE file.1
  none ← ends page.1
  Ok (events.Read image.0 file.0 page.0)

-- `take`
unfoldable pub take_at : List (List ℕ) → Result SnapEvent Fault
take_at ws = do
  none ← ends ws
  Ok events.Take

-- `forget IMAGE`
unfoldable pub forget_at : List (List ℕ) → Result SnapEvent Fault
forget_at ws = do
  image ← number_at 0 MOST_IMAGE ws
  none ← ends image.1
  Ok (events.Forget image.0)

-- the event of a first word, of all these words, and the rest of them
unfoldable pub event_of : List ℕ → List (List ℕ) → List (List ℕ) → Result SnapEvent Fault
event_of w ws rest =
    if bytes_eq w (codes "write") then write_at rest
    else if bytes_eq w (codes "read") then read_at rest
    else if bytes_eq w (codes "take") then take_at rest
    else if bytes_eq w (codes "forget") then forget_at rest else syntax_at ws

-- the event of the words of a line
unfoldable pub event : List (List ℕ) → Result SnapEvent Fault
event [] = syntax_at []
event (w ∷ ws) = event_of w (w ∷ ws) ws

-- Events.

-- a volume of that many blocks, by the list of its changes, the latest first
pub record SnapState : Type 0 where
  pub blocks : ℕ
  pub changes : List Change

-- nothing was written
abbrev pub fresh : ℕ → SnapState
fresh blocks = record { blocks = blocks; changes = [] }

abbrev pub begun : Result ℕ Fault → Result SnapState Fault
begun (Ok blocks) = Ok (fresh blocks)
begun (Err f) = Err f

-- a first line: `snap BLOCKS`
unfoldable pub head : List (List ℕ) → Result SnapState Fault
head [] = syntax_at []
head (w ∷ ws) = if bytes_eq w (codes "snap") then begun (blocks_at ws) else syntax_at (w ∷ ws)

-- the changes that a call leaves
abbrev pub left : {T : Type 0} → List Change → Result (T × List Change) SnapRefusal → List Change
left changes (Ok x) = x.1
left changes (Err e) = changes

-- what is changed by an event
unfoldable pub changed : SnapState → SnapEvent → List Change
changed s (events.Write f p byte) = left s.changes (images.write s.blocks s.changes f p (filled byte))
changed s (events.Read image f p) = s.changes
changed s events.Take = left s.changes (images.take s.changes)
changed s (events.Forget image) = left s.changes (images.forget s.changes image)

abbrev pub next : SnapState → SnapEvent → SnapState
next s e = record { blocks = s.blocks; changes = changed s e }

-- Answers, each after a space.

-- a refusal; a volume that runs out of memory answers nothing
abbrev pub refusal : SnapRefusal → List ℕ
refusal (NoSpace free asked) = codes " nospace" ++ field free ++ field asked
refusal (NoImage image) = codes " noimage" ++ field image
refusal (TooMany kept) = codes " toomany" ++ field kept
refusal Memory = []

-- a refusal that is answered
abbrev pub IsAnswered : SnapRefusal → Type 0
IsAnswered Memory = ⊥
IsAnswered e = Unit {0}

-- what was done
abbrev pub done : Result (Unit {0} × List Change) SnapRefusal → List ℕ
done (Ok x) = codes " ok"
done (Err e) = refusal e

-- an image's number
abbrev pub image_text : ℕ → List ℕ
image_text image = codes " image" ++ field image

-- the answer to a take
abbrev pub taken : Result (ℕ × List Change) SnapRefusal → List ℕ
taken (Ok x) = image_text x.0
taken (Err e) = refusal e

-- the bytes of a page; if nothing was written they are zeros
abbrev pub bytes_of : Option (List ℕ) → List ℕ
bytes_of None = filled 0
bytes_of (Some bytes) = bytes

-- the runs of a page
abbrev pub page_text : List ℕ → List ℕ
page_text bytes = runs bytes

-- the answer to a read
abbrev pub told : Result (Option (List ℕ)) SnapRefusal → List ℕ
told (Ok page) = page_text (bytes_of page)
told (Err e) = refusal e

-- the answer to an event
unfoldable pub answer : SnapState → SnapEvent → List ℕ
answer s (events.Write f p byte) = done (images.write s.blocks s.changes f p (filled byte))
answer s (events.Read image f p) = told (images.read s.changes image f p)
answer s events.Take = taken (images.take s.changes)
answer s (events.Forget image) = done (images.forget s.changes image)

-- each event has one
abbrev pub answers : SnapState → SnapEvent → List (List ℕ)
answers s e = answer s e ∷ []

-- the last line: how many events there were, and how many blocks are free
abbrev pub last_text : ℕ → ℕ → List ℕ
last_text count free = codes "end events" ++ field count ++ codes " free" ++ field free ++ codes "\n"

-- the same, of a state
unfoldable pub last : ℕ → SnapState → List ℕ
last count s = last_text count (s.blocks - shown s.changes)

-- the rules of the command
abbrev pub snap_rules : Rules SnapState SnapEvent
snap_rules = record { event = event; answers = answers; next = next; last = last }
