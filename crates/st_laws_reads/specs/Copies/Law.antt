-- The laws of the copies that a client has of a server's pages.
use Rattle.std.specs.Prelude.{ℕ, ◌≡◌, ◌⊎◌, ◌≤◌, true, false, List, [], ◌∷◌, ◌++◌, Option, Some, None, is_some}
use Rattle.st_base.specs.declared.ids.ClientId.{ClientId}
use Rattle.st_base.specs.declared.ids.ServerId.{ServerId}
use Rattle.st_base.specs.declared.ids.Life.{Life}
use Rattle.st_base.specs.declared.ids.NodeId.TheVariants as nodes
use Rattle.st_base.specs.declared.ids.PageNo.{PageNo}
use Rattle.st_base.specs.declared.ids.Stamp.{Stamp}
use Rattle.st_messages.specs.declared.ask.Ask.{Ask}
use Rattle.st_rules.specs.declared.log.LogEntry.{LogEntry}
use Rattle.st_rules.specs.declared.client.ClientInput.{ClientInput}
use Rattle.st_rules.specs.declared.observation.Observation.{Observation}
use Rattle.st_rules.specs.declared.observation.Observation.TheVariants as seen
use Rattle.st_messages.specs.declared.answer.AppAnswer.TheVariants as answers
use Rattle.st_messages.specs.declared.output.Output.{Output}
use Rattle.st_messages.specs.declared.output.Note.TheVariants as notes
use Rattle.st_messages.specs.declared.output.Output.TheVariants as outputs
use Rattle.st_rules.specs.Lines.{AtEach}
use Rattle.st_rules.specs.Safety as safety
use Rattle.st_rules.specs.World.{World, WorldClient, site_of, clock_of}
use Rattle.st_rules.specs.Events.{client_says_all, quiet, present_life}
use Rattle.st_rules.specs.Client as cl
use Rattle.st_rules.specs.ClientState.{Association, ClientState, ClientTurn, Turn, client_turn}
use Rattle.st_rules.specs.Keys.{same_server}
use Rattle.st_rules.specs.FlatLog.{content, is_of_client}
use Rattle.st_laws_refine.specs.Views.Halves.{held_in}
use Rattle.st_rules.specs.ClientPasses as cp
use Rattle.st_laws_reads.specs.Copies.Copies.{Copies, Right, AskedSo, PageOk, FatesOk, file_at}
use Rattle.st_laws_refine.specs.Client.World.{logged}
use Rattle.st_laws_reads.specs.Copies.Obligations.{OwedAt, Numbered}
use Rattle.st_base.specs.declared.ids.FileId.{FileId}
use Rattle.st_lemmas.specs.Lists.{Has}
use Rattle.st_rules.specs.ClientPages.{dirty_of}
use Rattle.std.specs.List.{list_all}
use Rattle.st_laws_refine.specs.Client.Invariants.{Lasts}

-- What holds of the copies at one server, by a log: each page is as the log has it, and an entry of the present life that is not hard has its page dirty.
pub record CopiesAt (c : ClientId) (lives : ServerId → Life) (es : List LogEntry) (a : Association) : Type 0 where
  pub pages : (ino : ℕ) (p : PageNo) → PageOk (held_in a.session ino).mode (content es (file_at a.server ino) p) a.store ino p
  pub fates : FatesOk c (lives a.server) a.server a.store es

-- at each server
abbrev pub AllCopies : ClientId → (ServerId → Life) → List LogEntry → List Association → Type 0
AllCopies c lives es [] = Unit {0}
AllCopies c lives es (a ∷ rest) = record { one : CopiesAt c lives es a; rest : AllCopies c lives es rest }

-- associations with other servers
abbrev pub Differs : ServerId → List Association → Type 0
Differs sv [] = Unit {0}
Differs sv (a ∷ rest) = record { one : same_server sv a.server ≡ false; rest : Differs sv rest }

-- associations with servers that differ from each other
abbrev pub Apart : List Association → Type 0
Apart [] = Unit {0}
Apart (a ∷ rest) = record { one : Differs a.server rest; rest : Apart rest }

-- no entry of this client at this server belongs to a later life
abbrev pub Lived : ClientId → ServerId → Life → List LogEntry → Type 0
Lived c sv life [] = Unit {0}
Lived c sv life (e ∷ es) = record { one : is_of_client c e.of ≡ true → e.of.file.server ≡ sv → e.of.life.0 ≤ life.0; rest : Lived c sv life es }

-- at each server
abbrev pub AllLived : ClientId → List LogEntry → List Association → Type 0
AllLived c es [] = Unit {0}
AllLived c es (a ∷ rest) = record { one : Lived c a.server a.life es; rest : AllLived c es rest }

-- What holds between two steps at one server: the copies, by the association's own life, beyond which no entry is.
pub record StandsAt (c : ClientId) (es : List LogEntry) (a : Association) : Type 0 where
  pub pages : (ino : ℕ) (p : PageNo) → PageOk (held_in a.session ino).mode (content es (file_at a.server ino) p) a.store ino p
  pub fates : FatesOk c a.life a.server a.store es
  pub lived : Lived c a.server a.life es

-- at each server
abbrev pub EachStands : ClientId → List LogEntry → List Association → Type 0
EachStands c es [] = Unit {0}
EachStands c es (a ∷ rest) = record { one : StandsAt c es a; rest : EachStands c es rest }

-- What holds of a client between two steps: its servers differ, the copies hold at each, and its operations are what was asked.
pub record ClientStands (asked_as : ℕ → Option Ask) (c : ClientId) (es : List LogEntry) (s : ClientState) : Type 0 where
  pub apart : Apart s.associations
  pub copies : EachStands c es s.associations
  pub asked : AskedSo asked_as s.operations

-- What holds at one server at a moment of the client's clock: no entry is beyond the association's life, and while its lease is not over, the copies. A lease
-- that is over is lost at the head of the next step, so till then nothing is read from what is cached.
pub record StandsWhile (lease now : ℕ) (c : ClientId) (es : List LogEntry) (a : Association) : Type 0 where
  pub lived : Lived c a.server a.life es
  pub lasting : Lasts lease now a.session → StandsAt c es a

-- at each server
abbrev pub AllWhile : ℕ → ℕ → ClientId → List LogEntry → List Association → Type 0
AllWhile lease now c es [] = Unit {0}
AllWhile lease now c es (a ∷ rest) = record { one : StandsWhile lease now c es a; rest : AllWhile lease now c es rest }

-- What holds of a client that runs at a moment of its clock: its servers differ, the copies hold at each whose lease is not over, and its operations are what
-- was asked.
pub record ClientCopies (asked_as : ℕ → Option Ask) (c : ClientId) (es : List LogEntry) (now : Stamp) (s : ClientState) : Type 0 where
  pub apart : Apart s.associations
  pub copies : AllWhile s.config.lease now.0 c es s.associations
  pub asked : AskedSo asked_as s.operations

-- what is owed at each server
abbrev pub AllOwed : ClientId → (ServerId → Life) → List LogEntry → ClientInput → List Association → Type 0
AllOwed c lives es input [] = Unit {0}
AllOwed c lives es input (a ∷ rest) = record { one : OwedAt c lives es input a; rest : AllOwed c lives es input rest }

-- these are the lives of associations
abbrev pub LivesAre : (ServerId → Life) → List Association → Type 0
LivesAre lives [] = Unit {0}
LivesAre lives (a ∷ rest) = record { one : lives a.server ≡ a.life; rest : LivesAre lives rest }

-- the server of one of these associations
abbrev pub Listed : ServerId → List Association → Type 0
Listed sv [] = ⊥
Listed sv (a ∷ xs) = (a.server ≡ sv) ⊎ Listed sv xs

-- entries of files of these servers
abbrev pub AllListed : List Association → List LogEntry → Type 0
AllListed xs [] = Unit {0}
AllListed xs (e ∷ es) = record { one : Listed e.of.file.server xs; rest : AllListed xs es }

-- The second log is the first and entries of files of these servers.
pub record JoinedBy (xs : List Association) (l m : List LogEntry) : Type 0 where
  pub more : List LogEntry
  pub is : m ≡ l ++ more
  pub listed : AllListed xs more

-- What a step makes of it: it holds again by the log after the step, each output is right by the log at it, and what joined the log is of files of the client's
-- servers.
pub record StepKeeps (asked_as : ℕ → Option Ask) (c : ClientId) (lives : ServerId → Life) (es : List LogEntry) (t : ClientTurn) : Type 0 where
  pub stands : ClientStands asked_as c (logged c lives t.out es) t.state
  pub right : Right asked_as c lives es t.out
  pub joined : JoinedBy t.state.associations es (logged c lives t.out es)

-- A client's step keeps the copies, whatever comes, under what other laws owe of the client after its losses. The lives are those after the step, under which
-- its entries join the log.
abbrev pub StepsKeepCopies : Type 0
StepsKeepCopies =
    (asked_as : ℕ → Option Ask) (c : ClientId) (lives : ServerId → Life) (es : List LogEntry) (s : ClientState) (now : Stamp) (input : ClientInput) →
    ClientCopies asked_as c es now s → Numbered asked_as input → AllOwed c lives es input (cl.losses (client_turn s []) now).state.associations →
    LivesAre lives (cl.client_step s now input).state.associations →
    StepKeeps asked_as c lives es (cl.client_step s now input)

-- One of these associations is of the file's server; it has an exclusive lock on the file, and the page is dirty.
pub record HeldPage (f : FileId) (p : PageNo) (xs : List Association) : Type 0 where
  pub association : Association
  pub listed : Has association xs
  pub there : association.server ≡ f.server
  pub exclusive : 2 ≤ (held_in association.session f.ino).mode
  pub dirty : is_some (dirty_of association.store.pages f.ino p) ≡ true

-- a note of a change has its page held
abbrev pub NoteHeld : List Association → Output → Type 0
NoteHeld xs (outputs.Note (notes.Accepted f p bytes)) = HeldPage f p xs
NoteHeld xs (outputs.Note (notes.Patched f p at bytes)) = HeldPage f p xs
NoteHeld xs o = Unit {0}

-- each of these outputs does
abbrev pub AllHeld : List Association → List Output → Type 0
AllHeld xs [] = Unit {0}
AllHeld xs (o ∷ os) = record { one : NoteHeld xs o; rest : AllHeld xs os }

-- Changes are locked: each page that a step changed is dirty after the step, under an exclusive lock.
abbrev pub ChangesAreHeld : Type 0
ChangesAreHeld =
    (asked_as : ℕ → Option Ask) (c : ClientId) (lives : ServerId → Life) (es : List LogEntry) (t : ClientTurn) → StepKeeps asked_as c lives es t →
    LivesAre lives t.state.associations → AllHeld t.state.associations t.out

-- each lease that is held lasts
abbrev pub AllLast : ℕ → ℕ → List Association → Type 0
AllLast lease now [] = Unit {0}
AllLast lease now (a ∷ xs) = record { one : Lasts lease now a.session; rest : AllLast lease now xs }

-- In the world: if a client runs, its leases last, and each page that it changed is held, the lines of its step keep the promise that
-- changes are locked.
abbrev pub ChangesLieUnderLocks : Type 0
ChangesLieUnderLocks =
    (w v : World) (c : ClientId) (site : WorldClient) (before : ClientState) (os : List Output) → site_of w c ≡ Some site → site.node.running ≡ true →
    Apart site.node.state.associations →
    AllLast site.node.state.config.lease (clock_of w (nodes.Client c)).0 site.node.state.associations → AllHeld site.node.state.associations os →
    list_all (safety.is_change_locked w) (client_says_all c before os (quiet v)).seen ≡ true

-- an answer `written` comes right after the line of the change that was asked
abbrev pub IsWritten : List safety.Step → safety.Step → Option Observation → Observation → Type 0
IsWritten past x line (seen.Answered c op answers.Written) = safety.IsLoggedAfter c (safety.ask_of past x c op) line
IsWritten past x line o = Unit {0}

-- each of these lines, after the line before it
abbrev pub AllWritten : List safety.Step → safety.Step → Option Observation → List Observation → Type 0
AllWritten past x line [] = Unit {0}
AllWritten past x line (o ∷ os) = record { one : IsWritten past x line o; rest : AllWritten past x (Some o) os }

-- What is observed of a client's outputs: each answered read has the bytes of the log at it, each sync that is answered hard finds all of its file hard, and
-- `written` comes right after the line of the change that was asked.
pub record SeenRight (past : List safety.Step) (x : safety.Step) (es : List LogEntry) (lines : List Observation) : Type 0 where
  pub reads : AtEach (safety.IsLast past x) x.after.world es lines
  pub syncs : AtEach (safety.IsHardAt past x) x.after.world es lines
  pub written : AllWritten past x None lines

-- In the world: if each output of a client is right by the log at it, so are the lines of its step.
abbrev pub StepsAnswerRight : Type 0
StepsAnswerRight =
    (past : List safety.Step) (x : safety.Step) (c : ClientId) (before : ClientState) (os : List Output) (v : World) →
    ◌≡◌ {A = ServerId → Life} (present_life x.after.world c) (present_life v c) →
    Right (safety.ask_of past x c) c (present_life v c) v.log os → SeenRight past x v.log (client_says_all c before os (quiet v)).seen

-- The pass over the operations keeps the copies: pages have the bytes of the log, and every read is answered by it.
abbrev pub OperationsKeepCopies : Type 0
OperationsKeepCopies = (asks : ℕ → Option Ask) (c : ClientId) (lives : ServerId → Life) (es : List LogEntry) (n : Stamp) (t : Turn) →
    Copies asks c lives es t → Copies asks c lives es (cp.operations n t)
