-- The scripts of the command `journal`: their lines, and what each event is answered. docs/PROTOCOL.md, "Scripts".
use Rattle.std.specs.Prelude.{ℕ, ◌+◌, ◌-◌, nat_lt, Bool, if◌then◌else◌, List, [], ◌∷◌, ◌++◌, length, codes, Option, Some, None, Result, Ok, Err}
use Rattle.std.specs.Str.{bytes_eq}
use Rattle.st_base.specs.declared.names.NameRefusal.{NameRefusal}
use Rattle.st_base.specs.declared.names.NameRefusal.TheVariants as names
use Rattle.st_journal.specs.Stable.{apply, fresh}
use Rattle.st_journal.specs.Stops.{is_kept}
use Rattle.st_journal.specs.declared.change.Change.{Change}
use Rattle.st_journal.specs.declared.change.Change.TheVariants as changes
use Rattle.st_journal.specs.declared.stable.ChangeRefusal.{ChangeRefusal}
use Rattle.st_journal.specs.declared.stable.ChangeRefusal.TheVariants.{Names, NoFile, NoSpace, Memory}
use Rattle.st_rules.specs.Keys.{page_no}
use Rattle.st_rules.specs.Extents.{free}
use Rattle.st_rules.specs.Report.{field}
use Rattle.st_rules.specs.Server.{Stable}
use Rattle.st_schedule.specs.Grammar.{MOST_PAGE}
use Rattle.st_schedule.specs.Parser.{◌>>=◌, ends, name_at, number_at, syntax_at}
use Rattle.st_schedule_words.specs.Words.{MOST_NUMBER}
use Rattle.st_schedule.specs.declared.fault.Fault.{Fault}
use Rattle.st_script.specs.Scripts.{Rules}
use Rattle.st_script_journal.specs.Stops.{SetStop}
use Rattle.st_script_journal.specs.declared.journal_event.JournalEvent.{JournalEvent}
use Rattle.st_script_journal.specs.declared.journal_event.JournalEvent.TheVariants as events

-- Lines.

-- `epoch`
unfoldable pub epoch_at : List (List ℕ) → Result JournalEvent Fault
epoch_at ws = do
  none ← ends ws
  Ok (events.Change changes.Epoch)

-- the most pages of an allocation from this page on: the last page is 1,048,575
abbrev pub most_count : ℕ → ℕ
most_count page = if nat_lt 1048512 page then 1048576 - page else 64

-- `allocate I P N`
unfoldable pub allocate_at : List (List ℕ) → Result JournalEvent Fault
allocate_at ws = do
  ino ← number_at 1 MOST_NUMBER ws
  page ← number_at 0 MOST_PAGE ino.1
  count ← number_at 1 (most_count page.0) page.1
  none ← ends count.1
  Ok (events.Change (changes.Allocate ino.0 (page_no page.0) count.0))

-- `cut I P`
unfoldable pub cut_at : List (List ℕ) → Result JournalEvent Fault
cut_at ws = do
  ino ← number_at 1 MOST_NUMBER ws
  from ← number_at 0 MOST_PAGE ino.1
  none ← ends from.1
  Ok (events.Change (changes.Cut ino.0 (page_no from.0)))

-- `create D NAME`
unfoldable pub create_at : List (List ℕ) → Result JournalEvent Fault
create_at ws = do
  dir ← number_at 1 MOST_NUMBER ws
  name ← name_at dir.1
  none ← ends name.1
  Ok (events.Change (changes.Create dir.0 name.0))

-- `mkdir D NAME`
unfoldable pub mkdir_at : List (List ℕ) → Result JournalEvent Fault
mkdir_at ws = do
  dir ← number_at 1 MOST_NUMBER ws
  name ← name_at dir.1
  none ← ends name.1
  Ok (events.Change (changes.Mkdir dir.0 name.0))

-- `remove D NAME`
unfoldable pub remove_at : List (List ℕ) → Result JournalEvent Fault
remove_at ws = do
  dir ← number_at 1 MOST_NUMBER ws
  name ← name_at dir.1
  none ← ends name.1
  Ok (events.Change (changes.Remove dir.0 name.0))

-- `rename D NAME T NAME2`
unfoldable pub rename_at : List (List ℕ) → Result JournalEvent Fault
rename_at ws = do
  dir ← number_at 1 MOST_NUMBER ws
  name ← name_at dir.1
  dir2 ← number_at 1 MOST_NUMBER name.1
  name2 ← name_at dir2.1
  none ← ends name2.1
  Ok (events.Change (changes.Rename dir.0 name.0 dir2.0 name2.0))

-- `stop M B`
unfoldable pub stop_at : List (List ℕ) → Result JournalEvent Fault
stop_at ws = do
  call ← number_at 1 4 ws
  byte ← number_at 0 255 call.1
  none ← ends byte.1
  Ok (events.Stop (record { call = call.0; byte = byte.0 }))

-- the event of a first word, of all these words, and the rest of them
unfoldable pub event_of : List ℕ → List (List ℕ) → List (List ℕ) → Result JournalEvent Fault
event_of w ws rest =
    if bytes_eq w (codes "epoch") then epoch_at rest
    else if bytes_eq w (codes "allocate") then allocate_at rest
    else if bytes_eq w (codes "cut") then cut_at rest
    else if bytes_eq w (codes "create") then create_at rest
    else if bytes_eq w (codes "mkdir") then mkdir_at rest
    else if bytes_eq w (codes "remove") then remove_at rest
    else if bytes_eq w (codes "rename") then rename_at rest
    else if bytes_eq w (codes "stop") then stop_at rest else syntax_at ws

-- the event of the words of a line
unfoldable pub event : List (List ℕ) → Result JournalEvent Fault
event [] = syntax_at []
event (w ∷ ws) = event_of w (w ∷ ws) ws

-- Events.

-- the stable part, the changes in the journal, and the stop that no append has met yet
pub record JournalState : Type 0 where
  pub stable : Stable
  pub changes : List Change
  pub stop : Option SetStop

-- the state from which a script begins: server 1 of 1, with one disk of 64 blocks, and an empty journal
abbrev pub fresh_journal : JournalState
fresh_journal = record { stable = fresh (record { server = record { 0 = 1 }; servers = 1; disks = 1; blocks = 64 }); changes = []; stop = None }

-- A stop keeps the change if the gate was written, and its byte opens the gate: the third call of an append writes the gate, and the
-- fourth syncs it.
abbrev pub keeps : SetStop → Bool
keeps p = is_kept p.call p.byte

-- the change is in the journal
abbrev pub with_change : JournalState → Change → Stable → JournalState
with_change s x t = record { stable = t; changes = s.changes ++ x ∷ []; stop = None }

-- the change is lost
abbrev pub without_change : JournalState → JournalState
without_change s = record s { stop = None }

-- an append in which the store stops
abbrev pub stopped : JournalState → Change → Stable → SetStop → JournalState
stopped s x t p = if keeps p then with_change s x t else without_change s

-- an append, with the stop that is set
abbrev pub appended : JournalState → Change → Stable → Option SetStop → JournalState
appended s x t None = with_change s x t
appended s x t (Some p) = stopped s x t p

-- a change is applied, and then appended; one that is refused leaves all as it was
abbrev pub changed : JournalState → Change → Result Stable ChangeRefusal → JournalState
changed s x (Err r) = s
changed s x (Ok t) = appended s x t s.stop

-- the state after a change
abbrev pub after_change : JournalState → Change → JournalState
after_change s x = changed s x (apply s.stable x)

-- the state after a stop, which replaces an earlier one
abbrev pub after_stop : JournalState → SetStop → JournalState
after_stop s p = record s { stop = Some p }

-- the state after an event
unfoldable pub next : JournalState → JournalEvent → JournalState
next s (events.Change x) = after_change s x
next s (events.Stop p) = after_stop s p

-- Answers, each after a space.

-- the number of a refusal of names
abbrev pub number_of : NameRefusal → ℕ
number_of names.NoEntry = 1
number_of names.Exists = 2
number_of names.NotDir = 3
number_of names.IsDir = 4
number_of names.NotEmpty = 5
number_of names.Cycle = 6
number_of names.BadName = 7
number_of names.TooMany = 8
number_of names.Memory = 0

-- a refusal; a stable part that runs out of memory answers nothing
abbrev pub refusal : ChangeRefusal → List ℕ
refusal (Names r) = codes " refused" ++ field (number_of r)
refusal (NoFile ino) = codes " nofile"
refusal (NoSpace free asked) = codes " nospace" ++ field free ++ field asked
refusal Memory = []

-- a refusal that is answered
abbrev pub IsAnswered : ChangeRefusal → Type 0
IsAnswered Memory = ⊥
IsAnswered r = Unit {0}

-- the answer to an append in which the store stopped
abbrev pub kept_text : Bool → List ℕ
kept_text kept = if kept then codes " stopped kept" else codes " stopped lost"

-- the same, of a stop
abbrev pub stopped_text : SetStop → List ℕ
stopped_text p = kept_text (keeps p)

-- the answer to an append
abbrev pub appended_text : Option SetStop → List ℕ
appended_text None = codes " ok"
appended_text (Some p) = stopped_text p

-- the answer to a change
abbrev pub change_text : Option SetStop → Result Stable ChangeRefusal → List ℕ
change_text stop (Err r) = refusal r
change_text stop (Ok t) = appended_text stop

-- the same, of a state
abbrev pub change_answer : JournalState → Change → List ℕ
change_answer s x = change_text s.stop (apply s.stable x)

-- a change has one; a stop has none
unfoldable pub answers : JournalState → JournalEvent → List (List ℕ)
answers s (events.Change x) = change_answer s x ∷ []
answers s (events.Stop p) = []

-- a text, and a number after a space
abbrev pub counted_text : List ℕ → ℕ → List ℕ
counted_text name count = name ++ field count

-- the last line: the epoch, and how many entries, mapped pages and free blocks there are, and the next birth
abbrev pub state_text : ℕ → ℕ → ℕ → ℕ → ℕ → List ℕ
state_text epoch entries mapped free birth =
    counted_text (codes "state epoch") epoch ++ counted_text (codes " entries") entries ++ counted_text (codes " mapped") mapped ++ counted_text (codes " free") free
    ++ counted_text (codes " next") birth ++ codes "\n"

-- the same, of a stable part: the next birth is one more than were given
abbrev pub stable_text : Stable → List ℕ
stable_text t = state_text t.epoch.0 (length t.names.entries) (length t.extents.rows) (free t.extents) (t.extents.births + 1)

-- the same, of a state
unfoldable pub last : ℕ → JournalState → List ℕ
last count s = stable_text s.stable

-- no first line begins a script
abbrev pub head : List (List ℕ) → Result JournalState Fault
head ws = syntax_at ws

-- the rules of the command
abbrev pub journal_rules : Rules JournalState JournalEvent
journal_rules = record { event = event; answers = answers; next = next; last = last }
