-- What a server's step says about extents: what it kept, or what it has.
use Rattle.std.specs.Prelude.{◌≡◌, ℕ, List, Some}
use Rattle.std.proofs.Common.{◌⊎◌}
use Rattle.st_base.specs.declared.ids.ClientId.{ClientId}
use Rattle.st_base.specs.declared.ids.Epoch.{Epoch}
use Rattle.st_base.specs.declared.ids.ServerId.{ServerId}
use Rattle.st_base.specs.declared.ids.Stamp.{Stamp}
use Rattle.st_base.specs.declared.rows.ExtentRow.{ExtentRow}
use Rattle.st_messages.specs.declared.message.Body.TheVariants as bodies
use Rattle.st_messages.specs.declared.message.Message.{Message}
use Rattle.st_messages.specs.declared.output.Output.TheVariants as outputs
use Rattle.st_rules.specs.declared.extents.Extent.{Extent}
use Rattle.st_rules.specs.declared.input.ServerInput.{ServerInput}
use Rattle.st_rules.specs.declared.input.ServerInput.TheVariants as inputs
use Rattle.st_rules.specs.declared.sessions.Session.{Session}
use Rattle.st_rules.specs.declared.sessions.SessionState.TheVariants as states
use Rattle.st_rules.specs.Extents.{Extents, extent_of}
use Rattle.st_rules.specs.Keys.{client, server_node}
use Rattle.st_rules.specs.Server.{ServerState, server_step}
use Rattle.st_rules.specs.Sessions.{Sessions, session_of}
use Rattle.st_lemmas.specs.Lists.{Has}
use Rattle.st_laws_reads.specs.Copies.Copies.{file_at}

-- a server has a page as a row tells
pub record RowRight (x : Extents) (s : ServerId) (ino : ℕ) (r : ExtentRow) : Type 0 where
  pub extent : Extent
  pub is : extent_of x (file_at s ino) r.page ≡ Some extent
  pub at : extent.at ≡ r.at
  pub birth : extent.birth ≡ r.birth

-- all rows
abbrev pub RowsRight : Extents → ServerId → ℕ → List ExtentRow → Type 0
RowsRight x s ino rows = (r : ExtentRow) → Has r rows → RowRight x s ino r

-- a reply of extents: to whom, in which life, under which number, of which file, and its rows
abbrev pub ReplyFact : Type 1
ReplyFact = ℕ → ℕ → ℕ → ℕ → List ExtentRow → Type 0

-- each kept reply of extents is as the fact says
abbrev pub AllKept : ReplyFact → Sessions → Type 0
AllKept C t =
    (c : ClientId) (y : Session) → session_of t c ≡ Some y → (n ino : ℕ) (rows : List ExtentRow) → y.state ≡ states.Live n (Some (bodies.Extents ino rows)) →
    C c.0 y.life.0 n ino rows

-- a message of extents is the server's, of its epoch, and as the fact says
abbrev pub Says : ServerId → Epoch → ReplyFact → Message → Type 0
Says s e C m = (ino : ℕ) (rows : List ExtentRow) → m.body ≡ bodies.Extents ino rows →
    (m.header.from ≡ server_node s) × (m.header.epoch ≡ e.0) × C m.header.to m.header.life m.header.number ino rows

-- a reply that was kept before a step
pub record WasKept (t : Sessions) (to life number ino : ℕ) (rows : List ExtentRow) : Type 0 where
  pub session : Session
  pub is : session_of t (client to) ≡ Some session
  pub of_life : session.life.0 ≡ life
  pub state : session.state ≡ states.Live number (Some (bodies.Extents ino rows))

-- a reply to what comes in at a step, which reports what the server has after it
pub record IsNew (s : ServerId) (e : Epoch) (i : ServerInput) (x : Extents) (to life number ino : ℕ) (rows : List ExtentRow) : Type 0 where
  pub by : Message
  pub input : i ≡ inputs.Control by
  pub from : by.header.from ≡ to
  pub there : by.header.to ≡ server_node s
  pub of_life : by.header.life ≡ life
  pub of_epoch : by.header.epoch ≡ e.0
  pub under : by.header.number ≡ number
  pub right : RowsRight x s ino rows

-- either
abbrev pub ToldBy : ServerState → ServerInput → Extents → ReplyFact
ToldBy n i x to life number ino rows = WasKept n.sessions to life number ino rows ⊎ IsNew n.id n.stable.epoch i x to life number ino rows

-- In a step of a server each reply of extents that is sent or kept was kept before, or it answers what comes in, and reports the extents as the server has them
-- after the step.
abbrev pub RepliesTellExtents : Type 0
RepliesTellExtents =
    (n : ServerState) (now : Stamp) (i : ServerInput) →
    record {
      kept : AllKept (ToldBy n i (server_step n now i).state.stable.extents) (server_step n now i).state.sessions;
      sent : (m : Message) → Has (outputs.Send m) (server_step n now i).out → Says n.id n.stable.epoch (ToldBy n i (server_step n now i).state.stable.extents) m;
    }
