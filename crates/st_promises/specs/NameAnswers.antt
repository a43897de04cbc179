-- Names answer truly: what the names of a server say to an ask, and at which event they said it.
use Rattle.std.specs.Prelude.{◌≡◌, ℕ, Bool, true, false, ◌&&◌, ◌||◌, not, ◌==◌, if◌then◌else◌, List, [], ◌∷◌, bytes_eq, Option, Some, Result, Ok, Err, ⊤}
use Rattle.std.specs.List.{list_all, list_any}
use Rattle.st_base.specs.declared.ids.ClientId.{ClientId}
use Rattle.st_base.specs.declared.ids.ServerId.{ServerId}
use Rattle.st_base.specs.declared.names.NameAsk.{NameAsk}
use Rattle.st_base.specs.declared.names.NameAsk.TheVariants.{Lookup, Create, Mkdir, Remove, Rename, List as ListFrom}
use Rattle.st_base.specs.declared.names.NameRow.{NameRow}
use Rattle.st_messages.specs.declared.answer.AppAnswer.{AppAnswer}
use Rattle.st_messages.specs.declared.answer.AppAnswer.TheVariants as answers
use Rattle.st_messages.specs.declared.ask.Ask.{Ask}
use Rattle.st_messages.specs.declared.ask.Ask.TheVariants as asks
use Rattle.st_rules.specs.declared.names.EntryRefusal.{EntryRefusal}
use Rattle.st_rules.specs.declared.names.EntryRefusal.TheVariants.{IsDir}
use Rattle.st_rules.specs.declared.names.NameEntry.{NameEntry}
use Rattle.st_rules.specs.declared.observation.Observation.{Observation}
use Rattle.st_rules.specs.declared.observation.Observation.TheVariants as seen
use Rattle.st_rules.specs.Names as names
use Rattle.st_rules.specs.Names.{Names}
use Rattle.st_rules.specs.Server.{ServerNode}
use Rattle.st_rules.specs.World.{node_of}
use Rattle.st_rules.specs.Safety.{Promise, Step, ask_of, is_after_ask}

-- What names say to an ask: the names that it leaves, and the answer.
pub record Saying : Type 0 where
  pub names : Names
  pub answer : AppAnswer

-- this answer, and nothing changes
abbrev pub said : Names → AppAnswer → Saying
said n answer = record { names = n; answer = answer }

-- a refusal of names
abbrev pub refused : Names → EntryRefusal → Saying
refused n r = said n (answers.Refused (names.code_of r))

-- an inode is answered
abbrev pub found : Names → Result ℕ EntryRefusal → Saying
found n (Ok ino) = said n (answers.Named ino)
found n (Err r) = refused n r

-- entries are answered
abbrev pub listed : Names → Result (List NameRow) EntryRefusal → Saying
listed n (Ok rows) = said n (answers.Listed rows)
listed n (Err r) = refused n r

-- the names are changed, and an inode is answered
abbrev pub changed : Names → Result names.Changed EntryRefusal → Saying
changed n (Ok d) = said d.names (answers.Named d.ino)
changed n (Err r) = refused n r

-- A remove of a file that finds a directory is refused; that it is refused is not promised.
abbrev pub removes_dir : Names → ℕ → List ℕ → List Saying
removes_dir n dir name = changed n (names.remove n dir name) ∷ refused n IsDir ∷ []

-- a directory is meant by inode 0
abbrev pub removes_ino : Names → ℕ → List ℕ → ℕ → ℕ → List Saying
removes_ino n dir name ino there = if names.is_file n there || (ino == 0) then changed n (names.remove n dir name) ∷ [] else removes_dir n dir name

-- if there is an entry
abbrev pub removes : Names → ℕ → List ℕ → ℕ → Result ℕ EntryRefusal → List Saying
removes n dir name ino (Ok there) = removes_ino n dir name ino there
removes n dir name ino (Err r) = refused n r ∷ []

-- what names may say to an ask
abbrev pub says : Names → NameAsk → List Saying
says n (Lookup dir name) = found n (names.lookup n dir name) ∷ []
says n (Create dir name) = changed n (names.create n dir name) ∷ []
says n (Mkdir dir name) = changed n (names.mkdir n dir name) ∷ []
says n (Remove dir name ino) = removes n dir name ino (names.lookup n dir name)
says n (Rename dir name dir2 name2) = changed n (names.rename n dir name dir2 name2) ∷ []
says n (ListFrom dir after) = listed n (names.list n dir after) ∷ []

-- The same names, and the same answers of names.

-- one mark
abbrev pub same_mark : Bool → Bool → Bool
same_mark true b = b
same_mark false b = not b

-- one entry
abbrev pub same_entry : NameEntry → NameEntry → Bool
same_entry a b = (a.dir == b.dir) && (bytes_eq a.name b.name && ((a.ino == b.ino) && same_mark a.directory b.directory))

-- the same entries, in the same order
unfoldable pub same_entries : List NameEntry → List NameEntry → Bool
same_entries [] [] = true
same_entries [] (b ∷ bs) = false
same_entries (a ∷ as_) [] = false
same_entries (a ∷ as_) (b ∷ bs) = same_entry a b && same_entries as_ bs

-- the same names
abbrev pub same_names : Names → Names → Bool
same_names n m = same_entries n.entries m.entries && (n.next == m.next)

-- one row
abbrev pub same_row : NameRow → NameRow → Bool
same_row a b = (a.ino == b.ino) && (same_mark a.directory b.directory && bytes_eq a.name b.name)

-- the same rows, in the same order
unfoldable pub same_rows : List NameRow → List NameRow → Bool
same_rows [] [] = true
same_rows [] (b ∷ bs) = false
same_rows (a ∷ as_) [] = false
same_rows (a ∷ as_) (b ∷ bs) = same_row a b && same_rows as_ bs

-- the same inode
abbrev pub is_named : ℕ → AppAnswer → Bool
is_named ino (answers.Named i) = ino == i
is_named ino answer = false

-- the same entries
abbrev pub is_listed : List NameRow → AppAnswer → Bool
is_listed rows (answers.Listed more) = same_rows rows more
is_listed rows answer = false

-- the same refusal
abbrev pub is_refused : ℕ → AppAnswer → Bool
is_refused code (answers.Refused k) = code == k
is_refused code answer = false

-- the same answer of names
abbrev pub same_answer : AppAnswer → AppAnswer → Bool
same_answer (answers.Named ino) answer = is_named ino answer
same_answer (answers.Listed rows) answer = is_listed rows answer
same_answer (answers.Refused code) answer = is_refused code answer
same_answer other answer = false

-- an inode, entries, or a refusal of names
abbrev pub is_of_names : AppAnswer → Bool
is_of_names (answers.Named ino) = true
is_of_names (answers.Listed rows) = true
is_of_names (answers.Refused code) = true
is_of_names answer = false

-- Moments: an event at which the names of a server were asked this, in effect: they said this answer, and became what they say they become.

-- this was said, and these are the names then
abbrev pub is_saying : Names → AppAnswer → Saying → Bool
is_saying n answer s = same_names s.names n && same_answer s.answer answer

-- from the names of a server before an event to those after it
abbrev pub says_at : NameAsk → AppAnswer → Option ServerNode → Option ServerNode → Bool
says_at ask answer (Some before) (Some after) = list_any (is_saying after.state.stable.names answer) (says before.state.stable.names ask)
says_at ask answer before after = false

-- the event of a step
abbrev pub says_in : ServerId → NameAsk → AppAnswer → Step → Bool
says_in s ask answer y = says_at ask answer (node_of y.before.world s) (node_of y.after.world s)

-- an event after a client's ask
abbrev pub is_moment : ClientId → ℕ → ServerId → NameAsk → AppAnswer → Step → Bool
is_moment c op s ask answer y = is_after_ask c op y && says_in s ask answer y

-- the names that were asked said so at one of these events
abbrev pub was_said : List Step → ClientId → ℕ → AppAnswer → Option Ask → Bool
was_said past c op answer (Some (asks.Name s ask)) = list_any (is_moment c op s ask answer) past
was_said past c op answer asked = false

-- an answer that is none of names owes nothing
abbrev pub is_true_answer : List Step → Step → ClientId → ℕ → AppAnswer → Bool
is_true_answer past x c op answer = not (is_of_names answer) || was_said past c op answer (ask_of past x c op)

-- an observation that isn't an answer owes nothing
abbrev pub is_told_truly : List Step → Step → Observation → Bool
is_told_truly past x (seen.Answered c op answer) = is_true_answer past x c op answer
is_told_truly past x o = true

-- Names answer truly: an inode, entries or a refusal of names is only answered to an ask for a name; and it is what the names of the asked server said at one
-- event between the ask and the answer, at which they also became what the ask makes of them.
abbrev pub NamesAnswerTruly : Promise
NamesAnswerTruly past x = list_all (is_told_truly past x) x.seen ≡ true

-- Changes: the names before an event, and after it.

-- the names of a server that is there changed
abbrev pub changes_at : Option ServerNode → Option ServerNode → Bool
changes_at (Some before) (Some after) = not (same_names before.state.stable.names after.state.stable.names)
changes_at before after = false

-- in a step
abbrev pub changes_in : ServerId → Step → Bool
changes_in s y = changes_at (node_of y.before.world s) (node_of y.after.world s)

-- these are the names then
abbrev pub leaves : Names → Saying → Bool
leaves n s = same_names s.names n

-- the names became what the ask makes of them
abbrev pub becomes_at : NameAsk → Option ServerNode → Option ServerNode → Bool
becomes_at ask (Some before) (Some after) = list_any (leaves after.state.stable.names) (says before.state.stable.names ask)
becomes_at ask before after = false

-- opens all of this file
unfoldable pub name_answers_open : ⊤
unfolding same_entries same_rows
name_answers_open = tt
