-- What other laws still owe: of a client that receives a message or the end of a command, at each server after its losses; and of cuts.
use Rattle.std.specs.Prelude.{◌≡◌, ℕ, ◌≤◌, true, List, [], ◌∷◌, Option, Some}
use Rattle.st_base.specs.Page.{filled}
use Rattle.st_base.specs.declared.disk.Tag.{Tag}
use Rattle.st_base.specs.declared.ids.FileId.{FileId}
use Rattle.st_base.specs.declared.ids.GrantNo.{GrantNo}
use Rattle.st_base.specs.declared.ids.NodeId.TheVariants as nodes
use Rattle.st_base.specs.declared.ids.PageNo.{PageNo}
use Rattle.st_base.specs.declared.mode.Mode.TheVariants as modes
use Rattle.st_messages.specs.declared.event.Event.{Event}
use Rattle.st_messages.specs.declared.event.Event.TheVariants as events
use Rattle.st_messages.specs.declared.message.Body.{Body}
use Rattle.st_messages.specs.declared.message.Body.TheVariants as bodies
use Rattle.st_messages.specs.declared.message.Header.{Header}
use Rattle.st_rules.specs.declared.client.ClientInput.{ClientInput}
use Rattle.st_rules.specs.declared.client.ClientInput.TheVariants as inputs
use Rattle.st_rules.specs.declared.client.IoKind.TheVariants as io
use Rattle.st_rules.specs.declared.client.PageCommand.{PageCommand}
use Rattle.st_rules.specs.declared.client.Request.{Request}
use Rattle.st_rules.specs.declared.locks.LockRow.{LockRow}
use Rattle.st_rules.specs.declared.log.LogEntry.{LogEntry}
use Rattle.st_rules.specs.declared.observation.Observation.TheVariants as seen
use Rattle.st_rules.specs.Client.{losses}
use Rattle.st_rules.specs.ClientPages.{command_of, found}
use Rattle.st_rules.specs.ClientReplies.{is_counting, is_current}
use Rattle.st_rules.specs.ClientState.{Association, ClientSession, client_turn}
use Rattle.st_rules.specs.FlatLog.{content}
use Rattle.st_rules.specs.Keys.{client, server_node}
use Rattle.st_rules.specs.Locks.{row_of}
use Rattle.st_rules.specs.Safety.{Step}
use Rattle.st_rules.specs.Server.{ServerNode}
use Rattle.st_rules.specs.World.{World, WorldClient, clock_of, node_of}
use Rattle.st_lemmas.specs.Lists.{Has}
use Rattle.st_laws_refine.specs.Views.Halves.{held_in}
use Rattle.st_laws_refine.specs.Client.Invariants.{Lasts}
use Rattle.st_laws_reads.specs.Copies.Copies.{file_at}
use Rattle.st_laws_reads.specs.Copies.World.{Taking, now_at}
use Rattle.st_laws_reads.specs.AllClients.CutFiles.{Cuts}
use Rattle.st_laws_reads.specs.AllClients.Events.{FrozenStandAlone}
use Rattle.st_laws_reads.specs.AllClients.Law.{Running}

-- For a message in a session: a map that found no block finds a page whose bytes are zeros.
pub record ReplyLeft (es : List LogEntry) (a : Association) (s : ClientSession) (h : Header) (body : Body) : Type 0 where
  pub zeros : (q : Request) (ino : ℕ) (g : GrantNo) (p : PageNo) → s.requests.asked ≡ Some q → q.body ≡ bodies.Map ino g p →
      body ≡ bodies.Extents ino [] → is_counting h.number body q ≡ true → is_current s.locks q.body ≡ true →
      filled 0 ≡ content es (file_at a.server ino) p

-- the same, of a message that a client receives at one server: from there, in this life and in the session's epoch
abbrev pub MessageLeft : List LogEntry → Association → Header → Body → Type 0
MessageLeft es a h body = (s : ClientSession) → a.session ≡ Some s → h.from ≡ server_node a.server → h.life ≡ a.life.0 → h.epoch ≡ s.epoch.0 →
    ReplyLeft es a s h body

-- For the end of a command: a read found the bytes of the page.
pub record EndLeft (es : List LogEntry) (a : Association) (number : ℕ) (result : Option (Option (Tag × List ℕ))) : Type 0 where
  pub read : (x : PageCommand) (block : Tag × List ℕ) → command_of a.store.commands number ≡ Some x → x.kind ≡ io.Read → result ≡ Some (Some block) →
      found a.store.extents (file_at a.server x.ino) x.page block.0 block.1 ≡ content es (file_at a.server x.ino) x.page

-- what is left at one server, by the input
abbrev pub LeftAt : List LogEntry → ClientInput → Association → Type 0
LeftAt es (inputs.Control m) a = MessageLeft es a m.header m.body
LeftAt es (inputs.Done number result) a = EndLeft es a number result
LeftAt es input a = Unit {0}

-- at each server
abbrev pub AllLeft : List LogEntry → ClientInput → List Association → Type 0
AllLeft es input [] = Unit {0}
AllLeft es input (a ∷ rest) = record { one : LeftAt es input a; rest : AllLeft es input rest }

-- What is left of what is taken: of the client after its losses.
abbrev pub LeftOf : Taking → Type 0
LeftOf x = AllLeft x.world.log x.input (losses (client_turn x.site.node.state []) (now_at x)).state.associations

-- a client has an exclusive row of a file at its server
pub record HasAlone (w : World) (d : ℕ) (f : FileId) : Type 0 where
  pub node : ServerNode
  pub there : node_of w f.server ≡ Some node
  pub row : LockRow
  pub is : row_of node.state.locks (client d) f.ino ≡ Some row
  pub exclusive : row.mode ≡ modes.X

-- the only client that has the file, with a lock of it under a lease that is not over, asks for the cut, or for one from an earlier page on
abbrev pub CutAsked : World → FileId → PageNo → Type 0
CutAsked w f p =
    (d : ℕ) (site : WorldClient) (a : Association) → Running w d site → Has a site.node.state.associations → f.server ≡ a.server →
    Lasts site.node.state.config.lease (clock_of w (nodes.Client (client d))).0 a.session → HasAlone w d f → 1 ≤ (held_in a.session f.ino).mode →
    (q : PageNo) × Cuts a.session f.ino q × (q.0 ≤ p.0)

-- What is left of the cuts that a step logs: each is asked.
abbrev pub CutsAsked : Step → Type 0
CutsAsked x = (index : ℕ) (f : FileId) (p : PageNo) → Has (seen.CutAt index f p) x.seen → CutAsked x.after.world f p

-- What is left at another event: frozen lives stand alone at a crash and at an advance.
abbrev pub OthersLeft : World → Event → Type 0
OthersLeft w (events.Crash (nodes.Client c)) = FrozenStandAlone w
OthersLeft w (events.Advance steps) = FrozenStandAlone w
OthersLeft w e = Unit {0}
