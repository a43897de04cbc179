-- What other laws owe of a step of a client: plain facts of what its messages and its disk commands bring.
use Rattle.std.specs.Prelude.{ℕ, ◌≡◌, ◌≤◌, true, List, [], Option, Some, None}
use Rattle.st_base.specs.declared.disk.Tag.{Tag}
use Rattle.st_base.specs.declared.ids.ClientId.{ClientId}
use Rattle.st_base.specs.declared.ids.GrantNo.{GrantNo}
use Rattle.st_base.specs.declared.ids.ServerId.{ServerId}
use Rattle.st_base.specs.declared.ids.Life.{Life}
use Rattle.st_base.specs.declared.ids.PageNo.{PageNo}
use Rattle.st_base.specs.declared.mode.Mode.{Mode}
use Rattle.st_base.specs.Mode.{number_of}
use Rattle.st_base.specs.Page.{filled}
use Rattle.st_messages.specs.declared.ask.Ask.{Ask}
use Rattle.st_messages.specs.declared.message.Body.{Body}
use Rattle.st_messages.specs.declared.message.Body.TheVariants as bodies
use Rattle.st_messages.specs.declared.message.Header.{Header}
use Rattle.st_rules.specs.declared.client.ClientInput.{ClientInput}
use Rattle.st_rules.specs.declared.client.ClientInput.TheVariants as inputs
use Rattle.st_rules.specs.declared.client.IoKind.TheVariants as io
use Rattle.st_rules.specs.declared.client.PageCommand.{PageCommand}
use Rattle.st_rules.specs.declared.client.Request.{Request}
use Rattle.st_rules.specs.declared.log.LogEntry.{LogEntry}
use Rattle.st_rules.specs.Keys.{server_node}
use Rattle.st_rules.specs.FlatLog.{content}
use Rattle.st_rules.specs.ClientLocks.{lock_of, is_above_seen}
use Rattle.st_rules.specs.ClientPages.{command_of, version_of, found}
use Rattle.st_rules.specs.ClientReplies.{is_current, is_counting}
use Rattle.st_rules.specs.ClientState.{Association, ClientSession, asks_name}
use Rattle.st_laws_refine.specs.Views.Halves.{held_at}
use Rattle.st_laws_refine.specs.Client.Invariants.{HaveModes}
use Rattle.st_laws_reads.specs.Copies.Copies.{HardOn, Nothing, file_at}

-- For a message in a session. Each lock has a mode. A grant above the greatest seen lowers no lock. A map that found no block finds a page whose bytes are
-- zeros. If a remove was asked, nothing of its file is cached.
pub record ReplyOwed (es : List LogEntry) (a : Association) (s : ClientSession) (h : Header) (body : Body) : Type 0 where
  pub modes : HaveModes s.locks.rows
  pub up : (ino : ℕ) (g : GrantNo) (mode : Mode) → body ≡ bodies.Granted ino g mode → is_above_seen s.locks ino g ≡ true →
      (held_at (lock_of s.locks ino)).mode ≤ number_of mode
  pub zeros : (q : Request) (ino : ℕ) (g : GrantNo) (p : PageNo) → s.requests.asked ≡ Some q → q.body ≡ bodies.Map ino g p →
      body ≡ bodies.Extents ino [] → is_counting h.number body q ≡ true → is_current s.locks q.body ≡ true →
      filled 0 ≡ content es (file_at a.server ino) p
  pub removed : (q : Request) (ino : ℕ) (p : PageNo) → s.requests.asked ≡ Some q → asks_name q.body ≡ true → s.cutting ≡ Some ino → Nothing a.store ino p

-- The same, of a message that a client receives at one server: from there, in this life and in the session's epoch.
abbrev pub MessageOwed : List LogEntry → Association → Header → Body → Type 0
MessageOwed es a h body = (s : ClientSession) → a.session ≡ Some s → h.from ≡ server_node a.server → h.life ≡ a.life.0 → h.epoch ≡ s.epoch.0 →
    ReplyOwed es a s h body

-- For the end of a command. If a write is done and its page was not changed since, the entries of the page in this life are hard. A read found the bytes of
-- the page.
pub record EndOwed (c : ClientId) (life : Life) (es : List LogEntry) (a : Association) (number : ℕ) (result : Option (Option (Tag × List ℕ))) : Type 0 where
  pub hard : (x : PageCommand) (version : ℕ) → command_of a.store.commands number ≡ Some x → x.kind ≡ io.Write version → result ≡ Some None →
      version ≡ version_of a.store.pages x.ino x.page → HardOn c life a.server x.ino x.page es
  pub read : (x : PageCommand) (block : Tag × List ℕ) → command_of a.store.commands number ≡ Some x → x.kind ≡ io.Read → result ≡ Some (Some block) →
      found a.store.extents (file_at a.server x.ino) x.page block.0 block.1 ≡ content es (file_at a.server x.ino) x.page

-- What is owed at one server, by the input.
abbrev pub OwedAt : ClientId → (ServerId → Life) → List LogEntry → ClientInput → Association → Type 0
OwedAt c lives es (inputs.Control m) a = MessageOwed es a m.header m.body
OwedAt c lives es (inputs.Done number result) a = EndOwed c (lives a.server) es a number result
OwedAt c lives es input a = Unit {0}

-- An ask has the number under which it is known.
abbrev pub Numbered : (ℕ → Option Ask) → ClientInput → Type 0
Numbered asked_as (inputs.App op ask) = asked_as op ≡ Some ask
Numbered asked_as input = Unit {0}
