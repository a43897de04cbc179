-- What a server's step says about extents: in the replies that it sends, and in those that it keeps.
use Rattle.std.specs.Prelude.{◌≡◌, ℕ, ◌+◌, true, List, Option, Some}
use Rattle.std.proofs.Common.{◌≢◌, ◌⊎◌}
use Rattle.st_base.specs.declared.ids.ClientId.{ClientId}
use Rattle.st_base.specs.declared.ids.FileId.{FileId}
use Rattle.st_base.specs.declared.ids.GrantNo.{GrantNo}
use Rattle.st_base.specs.declared.ids.PageNo.{PageNo}
use Rattle.st_base.specs.declared.ids.ServerId.{ServerId}
use Rattle.st_base.specs.declared.ids.Stamp.{Stamp}
use Rattle.st_base.specs.declared.mode.Mode.TheVariants as modes
use Rattle.st_base.specs.declared.rows.ExtentRow.{ExtentRow}
use Rattle.st_messages.specs.declared.message.Body.{Body}
use Rattle.st_messages.specs.declared.message.Body.TheVariants as bodies
use Rattle.st_messages.specs.declared.message.Message.{Message}
use Rattle.st_messages.specs.declared.message.NameOp.TheVariants as ops
use Rattle.st_messages.specs.declared.output.Output.TheVariants as outputs
use Rattle.st_rules.specs.declared.input.ServerInput.{ServerInput}
use Rattle.st_rules.specs.declared.input.ServerInput.TheVariants as inputs
use Rattle.st_rules.specs.declared.locks.LockRow.{LockRow}
use Rattle.st_rules.specs.declared.sessions.Session.{Session}
use Rattle.st_rules.specs.declared.sessions.SessionState.TheVariants as states
use Rattle.st_rules.specs.Extents as extents
use Rattle.st_rules.specs.Extents.{Extents}
use Rattle.st_rules.specs.Keys.{server_node}
use Rattle.st_rules.specs.Locks.{row_of}
use Rattle.st_rules.specs.Server.{ServerState, ServerTurn, is_client_node, sender, server_step}
use Rattle.st_rules.specs.Sessions.{Sessions, session_of}
use Rattle.st_lemmas.specs.Lists.{Has}

-- a file of a server
abbrev pub file_of : ServerId → ℕ → FileId
file_of s ino = record { server = s; ino = ino }

-- a request that asks for the extents of a file, from this page on, of that many pages
abbrev pub AsksExtents : Body → ℕ → PageNo → ℕ → Type 0
AsksExtents (bodies.Map ino g page) i p n = (ino ≡ i) × (page ≡ p) × (n ≡ 1)
AsksExtents (bodies.Allocate ino g page count) i p n = (ino ≡ i) × (page ≡ p) × (n ≡ count)
AsksExtents body i p n = ⊥

-- rows that a reply tells are those of the pages that were asked for
pub record TellsRows (s : ServerId) (x : Extents) (asked : Body) (ino : ℕ) (rows : List ExtentRow) : Type 0 where
  pub page : PageNo
  pub count : ℕ
  pub asks : AsksExtents asked ino page count
  pub are : rows ≡ extents.extent_rows x (file_of s ino) page count

-- a reply of extents that a session keeps, under this number
pub record KeptRows (t : Sessions) (c : ClientId) (life number ino : ℕ) (rows : List ExtentRow) : Type 0 where
  pub session : Session
  pub is : session_of t c ≡ Some session
  pub of_life : session.life.0 ≡ life
  pub state : session.state ≡ states.Live number (Some (bodies.Extents ino rows))

-- a request that a server serves anew: of its epoch, with the next number of its client's session, which lives
pub record ServedAnew (x : ServerState) (m : Message) : Type 0 where
  pub client : is_client_node m.header.from ≡ true
  pub to : m.header.to ≡ server_node x.id
  pub of_epoch : m.header.epoch ≡ x.stable.epoch.0
  pub session : Session
  pub is : session_of x.sessions (sender m.header) ≡ Some session
  pub of_life : session.life.0 ≡ m.header.life
  pub last : ℕ
  pub reply : Option Body
  pub state : session.state ≡ states.Live last reply
  pub next : m.header.number ≡ last + 1

-- a reply that was kept before a step, or answers the request that the step serves anew, and tells extents as the step leaves them
pub record AnswersNow (x : ServerState) (i : ServerInput) (after : Extents) (to life number ino : ℕ) (rows : List ExtentRow) : Type 0 where
  pub by : Message
  pub is : i ≡ inputs.Control by
  pub served : ServedAnew x by
  pub from : by.header.from ≡ to
  pub of_life : by.header.life ≡ life
  pub under : by.header.number ≡ number
  pub tells : TellsRows x.id after by.body ino rows

-- either
abbrev pub ToldBy : ServerState → ServerInput → Extents → ℕ → ℕ → ℕ → ℕ → List ExtentRow → Type 0
ToldBy x i after to life number ino rows =
    KeptRows x.sessions (record { 0 = to }) life number ino rows ⊎ AnswersNow x i after to life number ino rows

-- a request that changes extents of a file: under this grant
abbrev pub ChangesExtents : Body → ℕ → GrantNo → Type 0
ChangesExtents (bodies.Allocate ino g page count) i h = (ino ≡ i) × (g.0 ≡ h.0)
ChangesExtents (bodies.Cut ino g from) i h = (ino ≡ i) × (g.0 ≡ h.0)
ChangesExtents (bodies.Name (ops.Remove dir name g)) i h = g.0 ≡ h.0
ChangesExtents body i h = ⊥

-- the extents of a file are changed by the request that a step serves anew, of a client that has an exclusive row of it
pub record ChangedNow (x : ServerState) (i : ServerInput) (after : Extents) : Type 0 where
  pub by : Message
  pub is : i ≡ inputs.Control by
  pub served : ServedAnew x by
  pub ino : ℕ
  pub row : LockRow
  pub found : row_of x.locks (sender by.header) ino ≡ Some row
  pub exclusive : row.mode ≡ modes.X
  pub asks : ChangesExtents by.body ino row.g
  pub others : (f : FileId) (p : PageNo) → f ≢ file_of x.id ino → extents.extent_of after f p ≡ extents.extent_of x.stable.extents f p

-- What a step leaves: extents that are the same or were changed so, and replies that tell so.
pub record StepTells (x : ServerState) (i : ServerInput) (t : ServerTurn) : Type 0 where
  pub extents : (t.state.stable.extents ≡ x.stable.extents) ⊎ ChangedNow x i t.state.stable.extents
  pub kept : (c : ClientId) (life number ino : ℕ) (rows : List ExtentRow) → KeptRows t.state.sessions c life number ino rows →
      ToldBy x i t.state.stable.extents c.0 life number ino rows
  pub sent : (m : Message) (ino : ℕ) (rows : List ExtentRow) → Has (outputs.Send m) t.out → m.body ≡ bodies.Extents ino rows →
      ToldBy x i t.state.stable.extents m.header.to m.header.life m.header.number ino rows

-- each step of a server
abbrev pub StepsTell : Type 0
StepsTell = (x : ServerState) (now : Stamp) (i : ServerInput) → StepTells x i (server_step x now i)
