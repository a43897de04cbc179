-- A server beside its journal's file in the file's histories: what its calls, with the writes and syncs that its program does then, are there.
use Rattle.std.specs.Prelude.{◌≡◌, ◌≤◌, ◌+◌, ◌<◌, ◌^◌, ℕ, true, not, List, [], ◌∷◌, ◌++◌, length, Option, Some, None, ⊤}
use Rattle.st_base.specs.declared.ids.Stamp.{Stamp}
use Rattle.st_extents.specs.Layout.{Shape}
use Rattle.st_journal.specs.declared.change.Change.{Change}
use Rattle.st_journal_bytes.specs.Files.{IsMadeFile}
use Rattle.st_journal_bytes.specs.Moments.{Dated, dated}
use Rattle.st_journal_bytes.specs.declared.file.Current.{Current}
use Rattle.st_journal_bytes.specs.declared.header.Identity.{Identity}
use Rattle.st_journal_file.specs.Histories.{IsBegunBy, IsReached, Keeper, Phase}
use Rattle.st_journal_file.specs.Histories as phases
use Rattle.st_journal_file.specs.Layout.{File, Format, after_changes, all_opened}
use Rattle.st_kept_journal.specs.Driven.{IsDriven}
use Rattle.st_kept_journal.specs.Keeping.{Keeping, under_way}
use Rattle.st_kept_journal.specs.declared.task.Task.{Task}
use Rattle.st_kept_journal.specs.declared.task.Task.TheVariants as tasks
use Rattle.st_server_states.specs.States.{Keeps, RangedChange, State, states}
use Rattle.st_kept_histories.specs.Kept.{KeptServer, runs, stable_now}
use Rattle.st_kept_histories.specs.declared.stage.Stage.{Stage}
use Rattle.st_kept_histories.specs.declared.stage.Stage.TheVariants.{Rest, Writing, Written, Ending}

-- a server's program in the histories of its journal's file
abbrev pub Past : Shape → Type 0
Past s = Keeper (Dated (State s)) (Dated RangedChange)

-- the server and its program are equally far
abbrev pub IsAtStage : {S C : Type 0} → Stage → Task → Phase S C → Type 0
IsAtStage Rest tasks.Rest phases.Idle = ⊤
IsAtStage Writing (tasks.Group count) (phases.Writing g) = ⊤
IsAtStage Written (tasks.Group count) (phases.Written g) = ⊤
IsAtStage Ending (tasks.Group count) (phases.Opening g) = ⊤
IsAtStage Writing (tasks.Switch count gate) phases.Idle = ⊤
IsAtStage Written (tasks.Switch count gate) (phases.Prepared group) = ⊤
IsAtStage Ending (tasks.Switch count gate) (phases.Switching group) = ⊤
IsAtStage stage task phase = ⊥

-- What is under way keeps a group of the changes that wait: these bytes of them, and at least so many of those of which steps gave something.
pub record IsCovered {S C : Type 0} (f : Format S C) (count covered made kept : ℕ) (waiting : List C) : Type 0 where
  pub group : List C
  pub later : List C
  pub parts : waiting ≡ group ++ later
  pub size : count ≡ length (all_opened f group)
  pub most : covered ≤ length group
  pub few : made ≤ kept + covered + length later

-- something may be under way
abbrev pub Covers : {S C : Type 0} → Format S C → Task → ℕ → ℕ → ℕ → List C → Type 0
Covers f tasks.Rest covered made kept waiting = ⊤
Covers f (tasks.Group count) covered made kept waiting = IsCovered f count covered made kept waiting
Covers f (tasks.Switch count gate) covered made kept waiting = IsCovered f count covered made kept waiting

-- A keeper, and how many changes steps made and how many of them are kept, beside the file: the file had this many changes when the server was opened. No
-- change counts as kept that the file doesn't keep.
pub record IsBeside {S C : Type 0} (f : Format S C) (start : S) (header : List ℕ) (first : ℕ) (j : Keeping) (stage : Stage) (covered made kept : ℕ)
    (p : Keeper S C) : Type 0 where
  pub reached : IsReached f start header p
  pub driven : IsDriven f start j p
  pub at : IsAtStage stage j.task p.phase
  pub kept_so : first + kept ≤ length p.kept
  pub waits : made ≤ kept + length p.waiting
  pub covers : Covers f j.task covered made kept p.waiting

-- The changes that the file keeps, and those that wait, make a state. It is the server's stable part, as of its last change, while the server runs.
pub record IsStateOf (s : Shape) (k : Keeps s) (start : Dated (State s)) (e : KeptServer) (p : Past s) : Type 0 where
  pub state : Dated (State s)
  pub leads : after_changes (dated (states s k)) (Some start) (p.kept ++ p.waiting) ≡ Some state
  pub same : runs e ≡ true → state.made.stable ≡ stable_now e
  pub moment : runs e ≡ true → state.moment ≡ e.moment
  pub early : e.moment ≤ e.last

-- A server beside the file. While it runs, each change of the file's histories since it was opened is one that a step made: the first one that was made is the
-- first one after those that the file had, and so on.
pub record IsKeptIn (s : Shape) (k : Keeps s) (start : Dated (State s)) (header : List ℕ) (first : ℕ) (e : KeptServer) (p : Past s) : Type 0 where
  pub beside : IsBeside (dated (states s k)) start header first e.journal e.stage e.covered e.steps.made e.steps.kept p
  pub state : IsStateOf s k start e p
  pub counted : runs e ≡ true → first + e.steps.made ≡ length p.kept + length p.waiting

-- The file of the program is the one that was opened, and nothing is under way.
pub record IsFileOf (s : Shape) (i : Identity) (bytes : List ℕ) (p : Past s) : Type 0 where
  pub current : Current
  pub made : IsMadeFile bytes i current
  pub seen : made.file ≡ p.seen
  pub second : current.second ≡ p.current
  pub idle : p.phase ≡ phases.Idle
  pub waiting : p.waiting ≡ []

-- A step made this change at this moment, or none; it waits.
pub record Makes (s : Shape) (p q : Past s) (now : ℕ) (change : Change) : Type 0 where
  pub made : Dated RangedChange
  pub change_so : made.made.change ≡ change
  pub moment : made.moment ≡ now
  pub waits : q ≡ record p { waiting = p.waiting ++ made ∷ [] }

abbrev pub MakesAny : (s : Shape) → Past s → Past s → ℕ → Option Change → Type 0
MakesAny s p q now None = q ≡ p
MakesAny s p q now (Some x) = Makes s p q now x

-- The program wrote: the file is another one, and neither what was synced nor what is kept.
pub record WritesTo (s : Shape) (p q : Past s) (file : File) : Type 0 where
  pub seen : q.seen ≡ file
  pub synced : q.synced ≡ p.synced
  pub kept : q.kept ≡ p.kept
  pub waiting : q.waiting ≡ p.waiting

-- The program synced: what was written stays, and all changes are those of before.
pub record SyncsTo (s : Shape) (p q : Past s) : Type 0 where
  pub synced : q.synced ≡ p.seen
  pub seen : q.seen ≡ p.seen
  pub changes : q.kept ++ q.waiting ≡ p.kept ++ p.waiting
  pub kept : IsBegunBy p.kept q.kept
