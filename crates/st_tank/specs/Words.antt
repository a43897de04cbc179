-- The words of a call, and the texts that a call writes to its error sink. docs/PROTOCOL.md, "The program".
use Rattle.std.specs.Prelude.{ℕ, ◌≤◌, ◌==◌, if◌then◌else◌, List, [], ◌∷◌, map, codes, String, string_bytes, Option, Some, None}
use Rattle.std.specs.Str.{bytes_eq}
use Rattle.st_base.specs.declared.ids.NodeId.{NodeId}
use Rattle.st_schedule_words.specs.Words.{plain}
use Rattle.st_tank.specs.declared.words.Command.{Command}
use Rattle.st_tank.specs.declared.words.Command.TheVariants as commands
use Rattle.st_tank.specs.declared.words.Job.{Job}
use Rattle.st_tank.specs.declared.words.Job.TheVariants as jobs
use Rattle.st_tank.specs.KnownNodes.{IsKnown}
use Rattle.st_tank.specs.NodeWords.{name_in, node_of}

-- a schedule has at most 100,000 events, and a node is a known one
abbrev pub IsInRange : Job → Type 0
IsInRange jobs.Replay = Unit {0}
IsInRange (jobs.Script command) = Unit {0}
IsInRange (jobs.Generate n seed) = n ≤ 100000
IsInRange (jobs.Work n seed) = n ≤ 100000
IsInRange (jobs.Node id) = IsKnown id

-- a length and a seed: digits without a leading zero
abbrev pub length_of : List ℕ → Option ℕ
length_of word = plain 0 100000 word

abbrev pub seed_of : List ℕ → Option ℕ
seed_of word = plain 0 18446744073709551615 word

-- what a word asks for with this length and this seed
abbrev pub worked : List ℕ → ℕ → ℕ → Option Job
worked word n seed = if bytes_eq word (codes "work") then Some (jobs.Work n seed) else None

abbrev pub named : List ℕ → ℕ → ℕ → Option Job
named word n seed = if bytes_eq word (codes "generate") then Some (jobs.Generate n seed) else worked word n seed

abbrev pub numbered : List ℕ → Option ℕ → Option ℕ → Option Job
numbered word (Some n) (Some seed) = named word n seed
numbered word n seed = None

-- the command of a script, if the word is one
abbrev pub shared_in : List ℕ → Option Command
shared_in word = if bytes_eq word (codes "shared") then Some commands.Shared else None

abbrev pub snap_in : List ℕ → Option Command
snap_in word = if bytes_eq word (codes "snap") then Some commands.Snap else shared_in word

abbrev pub move_in : List ℕ → Option Command
move_in word = if bytes_eq word (codes "move") then Some commands.Move else snap_in word

abbrev pub command_in : List ℕ → Option Command
command_in word = if bytes_eq word (codes "journal") then Some commands.Journal else move_in word

abbrev pub scripted : Option Command → Option Job
scripted None = None
scripted (Some command) = Some (jobs.Script command)

-- what a word asks for by itself
abbrev pub alone : List ℕ → Option Job
alone word = if bytes_eq word (codes "replay") then Some jobs.Replay else scripted (command_in word)

abbrev pub served : Option NodeId → Option Job
served None = None
served (Some id) = Some (jobs.Node id)

-- what the words ask for, if they are right
abbrev pub job_in : List (List ℕ) → Option Job
job_in (word ∷ []) = alone word
job_in (word ∷ (n ∷ (seed ∷ []))) = numbered word (length_of n) (seed_of seed)
job_in (first ∷ (kind ∷ (id ∷ (name ∷ [])))) = served (node_of (first ∷ (kind ∷ (id ∷ (name ∷ [])))))
job_in words = None

abbrev pub job_of : {A : Type 0} → List (String A) → Option Job
job_of words = job_in (map string_bytes words)

-- the name among the words of a node
abbrev pub name_of : {A : Type 0} → List (String A) → List ℕ
name_of words = name_in (map string_bytes words)

-- The usage, for wrong arguments; and the text of a status: of a failed read, of a failed write and of running out of memory, and no text for 0 and 1.

unfoldable pub USAGE : List ℕ
USAGE = codes "usage: tank replay | generate N SEED | work N SEED | node server|client ID NAME | journal | move | snap | shared\n"

abbrev pub memory_text : ℕ → List ℕ
memory_text status = if status == 5 then codes "tank: out of memory\n" else []

abbrev pub write_text : ℕ → List ℕ
write_text status = if status == 4 then codes "tank: write failed\n" else memory_text status

unfoldable pub fault_text : ℕ → List ℕ
fault_text status = if status == 3 then codes "tank: read failed\n" else write_text status
