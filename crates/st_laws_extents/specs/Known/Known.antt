-- What a client knows about where pages lie, and what its step says about that.
use Rattle.std.specs.Prelude.{◌≡◌, ℕ, true, List, Option, Some, None}
use Rattle.st_base.specs.declared.disk.BlockAt.{BlockAt}
use Rattle.st_base.specs.declared.disk.Command.{Command}
use Rattle.st_base.specs.declared.disk.Command.TheVariants as commands
use Rattle.st_base.specs.declared.ids.PageNo.{PageNo}
use Rattle.st_base.specs.declared.ids.ServerId.{ServerId}
use Rattle.st_base.specs.declared.rows.ExtentRow.{ExtentRow}
use Rattle.st_messages.specs.declared.message.Body.{Body}
use Rattle.st_messages.specs.declared.message.Body.TheVariants as bodies
use Rattle.st_messages.specs.declared.message.Header.{Header}
use Rattle.st_messages.specs.declared.output.Output.{Output}
use Rattle.st_messages.specs.declared.output.Output.TheVariants as outputs
use Rattle.st_rules.specs.declared.client.HeldLock.{HeldLock}
use Rattle.st_rules.specs.declared.client.KnownExtent.{KnownExtent}
use Rattle.st_rules.specs.declared.client.MappedBlock.{MappedBlock}
use Rattle.st_rules.specs.declared.client.Request.{Request}
use Rattle.st_rules.specs.ClientReplies.{is_counting, is_current}
use Rattle.st_rules.specs.ClientState.{Association, ClientSession}
use Rattle.st_rules.specs.Keys.{server_node}
use Rattle.st_lemmas.specs.Lists.{Has}

-- a fact of where a page of a server's file lies
abbrev pub Fact : Type 1
Fact = ServerId → ℕ → PageNo → MappedBlock → Type 0

-- a lock on this file is held
pub record HasLock (rows : List HeldLock) (ino : ℕ) : Type 0 where
  pub lock : HeldLock
  pub has : Has lock rows
  pub on : lock.ino ≡ ino

-- in a session
abbrev pub Locked : Option ClientSession → ℕ → Type 0
Locked None ino = ⊥
Locked (Some s) ino = HasLock s.locks.rows ino

-- what is known of a page: its file is locked, and a mapping is as the fact says
pub record KnownAs (R : Fact) (server : ServerId) (o : Option ClientSession) (e : KnownExtent) : Type 0 where
  pub locked : Locked o e.ino
  pub is : (m : MappedBlock) → e.mapping ≡ Some m → R server e.ino e.page m

-- all that an association knows
abbrev pub Knows : Fact → Association → Type 0
Knows R a = (e : KnownExtent) → Has e a.store.extents → KnownAs R a.server a.session e

-- a write of a page goes to where the fact says
abbrev pub CommandAs : Fact → BlockAt → Command → Type 0
CommandAs R at (commands.Write to tag bytes) = R tag.file.server tag.file.ino tag.page (record { at = at; birth = tag.birth })
CommandAs R at (commands.Read to) = Unit {0}

-- an output that submits a write
abbrev pub OutputAs : Fact → Output → Type 0
OutputAs R (outputs.Submit number at what) = CommandAs R at what
OutputAs R o = Unit {0}

-- all outputs
abbrev pub OutputsAs : Fact → List Output → Type 0
OutputsAs R os = (o : Output) → Has o os → OutputAs R o

-- where a told page lies
abbrev pub told_at : ExtentRow → MappedBlock
told_at r = record { at = r.at; birth = r.birth }

-- the extents that a reply tells to an outstanding request, under the lock under which it was asked, are as the fact says
abbrev pub Tells : Fact → Association → Header → Body → Type 0
Tells R a h body =
    (s : ClientSession) (q : Request) (ino : ℕ) (rows : List ExtentRow) → a.session ≡ Some s → h.from ≡ server_node a.server → h.life ≡ a.life.0 →
    h.epoch ≡ s.epoch.0 → s.requests.asked ≡ Some q → body ≡ bodies.Extents ino rows → is_counting h.number body q ≡ true →
    is_current s.locks q.body ≡ true → (r : ExtentRow) → Has r rows → R a.server ino r.page (told_at r)
