-- What the data layer needs of a client: its pages have the bytes of the log, and its answers too.
use Rattle.std.specs.List.{list_all}
use Rattle.st_base.specs.declared.disk.Command.TheVariants as commands
use Rattle.st_messages.specs.declared.ask.Ask.TheVariants as asks
use Rattle.st_rules.specs.FlatLog.{is_of_life}
use Rattle.st_rules.specs.Events.{is_hard_fate}
use Rattle.std.specs.Prelude.{ℕ, ◌≤◌, ◌≡◌, ◌⊎◌, is_some, true, false, List, [], ◌∷◌, ◌++◌, Option, Some, None}
use Rattle.st_base.specs.declared.ids.ClientId.{ClientId}
use Rattle.st_base.specs.declared.ids.ServerId.{ServerId}
use Rattle.st_base.specs.declared.ids.Life.{Life}
use Rattle.st_base.specs.declared.ids.FileId.{FileId}
use Rattle.st_base.specs.declared.ids.PageNo.{PageNo}
use Rattle.st_base.specs.Page.{filled}
use Rattle.st_messages.specs.declared.ask.Ask.{Ask}
use Rattle.st_messages.specs.declared.output.Note.TheVariants as notes
use Rattle.st_messages.specs.declared.answer.AppAnswer.TheVariants as answers
use Rattle.st_messages.specs.declared.output.Output.{Output}
use Rattle.st_messages.specs.declared.output.Output.TheVariants as outputs
use Rattle.st_rules.specs.declared.pages.DirtyPage.{DirtyPage}
use Rattle.st_rules.specs.declared.client.CleanPage.{CleanPage}
use Rattle.st_rules.specs.declared.client.KnownExtent.{KnownExtent}
use Rattle.st_rules.specs.declared.client.Operation.{Operation}
use Rattle.st_rules.specs.declared.log.LogEntry.{LogEntry}
use Rattle.st_rules.specs.FlatLog.{content}
use Rattle.st_rules.specs.ClientPages.{Store, dirty_of, clean_of, known_of, is_being_read}
use Rattle.st_rules.specs.ClientState.{Turn}
use Rattle.st_rules.specs.Safety.{IsLastRead, is_hard_of}
use Rattle.st_laws_refine.specs.Views.Halves.{held_in}
use Rattle.st_laws_refine.specs.Client.World.{logged, logged_one}

-- what was asked was a sync, and all of its file is hard
abbrev pub HardRight : ClientId → (ServerId → Life) → List LogEntry → Option Ask → Type 0
HardRight c lives es (Some (asks.Sync f)) = list_all (is_hard_of c (lives f.server) f) es ≡ true
HardRight c lives es asked = ⊥

-- the output before is the note of the change that was asked
abbrev pub Noted : Option Ask → Option Output → Type 0
Noted (Some (asks.Write f p bytes)) (Some (outputs.Note (notes.Accepted g q old))) = notes.Accepted g q old ≡ notes.Accepted f p bytes
Noted (Some (asks.Patch f p at bytes)) (Some (outputs.Note (notes.Patched g q place old))) = notes.Patched g q place old ≡ notes.Patched f p at bytes
Noted asked last = ⊥

-- An output is right after the one before it: each answer of a read has the bytes of the log at that answer; each hard one finds the file hard; `written` comes
-- right after the note of the change that was asked; and each write of a page carries the bytes of the log.
abbrev pub RightOne : (ℕ → Option Ask) → ClientId → (ServerId → Life) → Option Output → List LogEntry → Output → Type 0
RightOne asked c lives last es (outputs.Answer op (answers.Read bytes)) = IsLastRead (asked op) es bytes
RightOne asked c lives last es (outputs.Answer op answers.Hard) = HardRight c lives es (asked op)
RightOne asked c lives last es (outputs.Answer op answers.Written) = Noted (asked op) last
RightOne asked c lives last es (outputs.Submit n at (commands.Write to tag bytes)) = bytes ≡ content es tag.file tag.page
RightOne asked c lives last es o = Unit {0}

-- the last of outputs that follow another one
abbrev pub last_of : Option Output → List Output → Option Output
last_of last [] = last
last_of last (o ∷ os) = last_of (Some o) os

-- each output is right by the log at it, after the one before it
abbrev pub RightBehind : (ℕ → Option Ask) → ClientId → (ServerId → Life) → Option Output → List LogEntry → List Output → Type 0
RightBehind asked c lives last es [] = Unit {0}
RightBehind asked c lives last es (o ∷ os) =
    record { one : RightOne asked c lives last es o; rest : RightBehind asked c lives (Some o) (logged_one c lives o es) os }

-- the outputs of a step are right
abbrev pub Right : (ℕ → Option Ask) → ClientId → (ServerId → Life) → List LogEntry → List Output → Type 0
Right asked c lives es os = RightBehind asked c lives None es os

-- an entry of this life that is not hard has its page dirty
abbrev pub FateOk : ClientId → Life → ServerId → Store → LogEntry → Type 0
FateOk c life sv x e = is_of_life c sv life e.of ≡ true → (is_hard_fate e.fate ≡ true) ⊎ (is_some (dirty_of x.pages e.of.file.ino e.of.page) ≡ true)

-- an entry of this life that is not hard has its page dirty
abbrev pub FatesOk : ClientId → Life → ServerId → Store → List LogEntry → Type 0
FatesOk c life sv x [] = Unit {0}
FatesOk c life sv x (e ∷ es) = record { one : FateOk c life sv x e; rest : FatesOk c life sv x es }

-- the entries of this life to a page are hard
abbrev pub HardOn : ClientId → Life → ServerId → ℕ → PageNo → List LogEntry → Type 0
HardOn c life sv ino p [] = Unit {0}
HardOn c life sv ino p (e ∷ es) =
    record {
      one : is_of_life c sv life e.of ≡ true → e.of.file.ino ≡ ino → e.of.page ≡ p → is_hard_fate e.fate ≡ true;
      rest : HardOn c life sv ino p es;
    }

-- a page at a client: under what lock it is dirty; what it has is what the log says
pub record PageOk (held : ℕ) (bytes : List ℕ) (x : Store) (ino : ℕ) (p : PageNo) : Type 0 where
  pub mode : (d : DirtyPage) → dirty_of x.pages ino p ≡ Some d → 2 ≤ held
  pub dirty : (d : DirtyPage) → dirty_of x.pages ino p ≡ Some d → d.bytes ≡ bytes
  pub clean : (y : CleanPage) → clean_of x.pages ino p ≡ Some y → 1 ≤ held → y.bytes ≡ bytes
  pub unmapped : (e : KnownExtent) → known_of x.extents ino p ≡ Some e → e.mapping ≡ None → 1 ≤ held → filled 0 ≡ bytes
  pub locked : (y : CleanPage) → clean_of x.pages ino p ≡ Some y → 1 ≤ held
  pub known : (e : KnownExtent) → known_of x.extents ino p ≡ Some e → 1 ≤ held
  pub reading : is_being_read x.commands ino p ≡ true → 1 ≤ held

-- nothing of a page is cached: it is neither dirty nor clean, nothing is known of its place, and no read of it is outstanding
pub record Nothing (x : Store) (ino : ℕ) (p : PageNo) : Type 0 where
  pub dirty : dirty_of x.pages ino p ≡ None
  pub clean : clean_of x.pages ino p ≡ None
  pub known : known_of x.extents ino p ≡ None
  pub reading : is_being_read x.commands ino p ≡ false

-- each pending operation is what was asked
abbrev pub AskedSo : (ℕ → Option Ask) → List Operation → Type 0
AskedSo asked [] = Unit {0}
AskedSo asked (o ∷ os) = record { one : asked o.op ≡ Some o.ask; rest : AskedSo asked os }

-- the file of an inode at a server
abbrev pub file_at : ServerId → ℕ → FileId
file_at sv ino = record { server = sv; ino = ino }

-- What holds of the copies within a step, at one server, with the log from before the step.
pub record Copies (asked_as : ℕ → Option Ask) (c : ClientId) (lives : ServerId → Life) (es : List LogEntry) (t : Turn) : Type 0 where
  pub pages : (ino : ℕ) (p : PageNo) →
      PageOk (held_in t.here.session ino).mode (content (logged c lives t.out es) (file_at t.here.server ino) p) t.here.store ino p
  pub right : Right asked_as c lives es t.out
  pub asked : AskedSo asked_as t.operations
  pub fates : FatesOk c (lives t.here.server) t.here.server t.here.store (logged c lives t.out es)

-- Entries of files of only this server.
abbrev pub AllOf : ServerId → List LogEntry → Type 0
AllOf sv [] = Unit {0}
AllOf sv (e ∷ es) = record { one : e.of.file.server ≡ sv; rest : AllOf sv es }

-- The second log is the first and entries of files of this server.
pub record Joined (sv : ServerId) (l m : List LogEntry) : Type 0 where
  pub more : List LogEntry
  pub is : m ≡ l ++ more
  pub own : AllOf sv more

-- What a rule at one server leaves of the others: it stays at its server and in its life, and only entries of that server's files
-- join the log.
pub record Away (sv sv2 : ServerId) (life life2 : Life) (l m : List LogEntry) : Type 0 where
  pub there : sv2 ≡ sv
  pub alive : life2 ≡ life
  pub joined : Joined sv l m

-- The same, of a rule that takes one turn to the other.
abbrev pub AwayOf : ClientId → (ServerId → Life) → List LogEntry → Turn → Turn → Type 0
AwayOf c lives es t u = Away t.here.server u.here.server t.here.life u.here.life (logged c lives t.out es) (logged c lives u.out es)

-- A rule keeps the copies at its server, and leaves those at the others.
pub record Keeps (asked_as : ℕ → Option Ask) (c : ClientId) (lives : ServerId → Life) (es : List LogEntry) (t u : Turn) : Type 0 where
  pub keep : Copies asked_as c lives es t → Copies asked_as c lives es u
  pub away : AwayOf c lives es t u
