-- What holds of a client's dirty pages and of its outstanding writes, against the log and the commands of the world.
use Rattle.std.specs.Prelude.{◌≡◌, ℕ, ◌+◌, ◌≤◌, ◌<◌, ◌⊎◌, true, List, is_some, length, Some, None}
use Rattle.std.specs.List.{list_any}
use Rattle.st_base.specs.declared.ids.ClientId.{ClientId}
use Rattle.st_base.specs.declared.ids.FileId.{FileId}
use Rattle.st_base.specs.declared.ids.PageNo.{PageNo}
use Rattle.st_rules.specs.declared.pages.DirtyPage.{DirtyPage}
use Rattle.st_rules.specs.declared.client.IoKind.TheVariants as io
use Rattle.st_rules.specs.declared.client.PageCommand.{PageCommand}
use Rattle.st_rules.specs.declared.log.LogEntry.{LogEntry}
use Rattle.st_rules.specs.declared.log.LogOwner.{LogOwner}
use Rattle.st_rules.specs.declared.world.FlushStep.{FlushStep}
use Rattle.st_rules.specs.declared.world.IssuedCommand.{IssuedCommand}
use Rattle.st_rules.specs.FlatLog.{owner}
use Rattle.st_rules.specs.ClientLease as lease
use Rattle.st_rules.specs.ClientPages as pages
use Rattle.st_rules.specs.ClientState.{Association, ClientSession}
use Rattle.st_rules.specs.World.{World, WorldClient, numbered}
use Rattle.st_rules.specs.Events.{latest, last_write}
use Rattle.st_rules.specs.Safety.{Step, reports_failure}
use Rattle.st_lemmas.specs.Lists.{Has}
use Rattle.st_laws_pages.specs.Fates.Fates.{PendingAll}
use Rattle.st_laws_steps.specs.Lives.Lives.{clock_in}

-- a file of the association's server
abbrev pub file_at : Association → ℕ → FileId
file_at a ino = record { server = a.server; ino = ino }

-- the owner of an association's entries to a page
abbrev pub owner_at_page : ClientId → Association → ℕ → PageNo → LogOwner
owner_at_page c a ino p = owner c a.life (file_at a ino) p

-- a command of the world is the client's command of this number, by the instance that runs
pub record IsIts (c : ClientId) (starts number : ℕ) (x : IssuedCommand) : Type 0 where
  pub client : x.client ≡ c
  pub instance_ : x.starts ≡ starts
  pub number_is : x.number ≡ number

-- What the world has of an outstanding write of a page: it is the last write of its owner, and it carries the latest entry if the
-- page was not changed since.
pub record Sent (cs : List IssuedCommand) (es : List LogEntry) (c : ClientId) (a : Association) (pc : PageCommand) (v k : ℕ) (x : IssuedCommand) : Type 0 where
  pub index : ℕ
  pub carries : x.carries ≡ Some (record { file = file_at a pc.ino; page = pc.page; index = index })
  pub last : last_write cs (owner_at_page c a pc.ino pc.page) ≡ k
  pub latest_is : (d : DirtyPage) → pages.dirty_of a.store.pages pc.ino pc.page ≡ Some d → d.version ≡ v → index ≡ latest es c (file_at a pc.ino) pc.page

-- an outstanding write
pub record WriteCared (cs : List IssuedCommand) (es : List LogEntry) (c : ClientId) (starts : ℕ) (a : Association) (pc : PageCommand) (v : ℕ) : Type 0 where
  pub world : (k : ℕ) (x : IssuedCommand) → numbered cs k ≡ Some x → IsIts c starts pc.number x → Sent cs es c a pc v k x
  pub low : v < a.store.pages.next_version
  pub link : (d : DirtyPage) → pages.dirty_of a.store.pages pc.ino pc.page ≡ Some d → (d.version ≡ v) ⊎ (d.failed ≡ None)

-- the page of a pending entry of this association's life is dirty
abbrev pub DirtyHere : ClientId → Association → LogOwner → Type 0
DirtyHere c a o = o.client ≡ c → o.file.server ≡ a.server → o.life ≡ a.life → (d : DirtyPage) × (pages.dirty_of a.store.pages o.file.ino o.page ≡ Some d)

-- The last write of an owner's page is the client's command of this number, which carried the latest entry and was reported failed.
pub record LastFailed (past : List Step) (cs : List IssuedCommand) (es : List LogEntry) (o : LogOwner) (number : ℕ) : Type 0 where
  pub told : list_any (reports_failure (last_write cs o)) past ≡ true
  pub command : IssuedCommand
  pub is : numbered cs (last_write cs o) ≡ Some command
  pub number_is : command.number ≡ number
  pub first : 1 ≤ number
  pub carries : command.carries ≡ Some (record { file = o.file; page = o.page; index = latest es o.client o.file o.page })

-- What holds of an association: what is pending of its life is dirty; its outstanding commands are the world's; and the failed command of a dirty page of which
-- no write is outstanding is the last write of the page, which carried its latest entry and was reported failed.
pub record Cared (past : List Step) (cs : List IssuedCommand) (es : List LogEntry) (c : ClientId) (starts next : ℕ) (a : Association) : Type 0 where
  pub entries : PendingAll (DirtyHere c a) es
  pub writes : (pc : PageCommand) → Has pc a.store.commands → (v : ℕ) → pc.kind ≡ io.Write v → WriteCared cs es c starts a pc v
  pub reads : (pc : PageCommand) → Has pc a.store.commands → pc.kind ≡ io.Read → (k : ℕ) (x : IssuedCommand) → numbered cs k ≡ Some x →
      IsIts c starts pc.number x → x.carries ≡ None
  pub first : 1 ≤ next
  pub above : (pc : PageCommand) → Has pc a.store.commands → 1 ≤ pc.number
  pub below : (pc : PageCommand) → Has pc a.store.commands → pc.number < next
  pub once : (pc qc : PageCommand) → Has pc a.store.commands → Has qc a.store.commands → (v u : ℕ) → pc.kind ≡ io.Write v → qc.kind ≡ io.Write u →
      pc.ino ≡ qc.ino → pc.page ≡ qc.page → pc.number ≡ qc.number
  pub versions : (ino : ℕ) (p : PageNo) (d : DirtyPage) → pages.dirty_of a.store.pages ino p ≡ Some d → d.version < a.store.pages.next_version
  pub failed : (ino : ℕ) (p : PageNo) (d : DirtyPage) (n : ℕ) → pages.dirty_of a.store.pages ino p ≡ Some d → d.failed ≡ Some n →
      (pages.is_being_written a.store.commands ino p ≡ true) ⊎ LastFailed past cs es (owner_at_page c a ino p) n

-- the numbers of the commands of the instance that runs are below the next
abbrev pub NumbersBelow : List IssuedCommand → ClientId → ℕ → ℕ → Type 0
NumbersBelow cs c starts next = (x : IssuedCommand) → Has x cs → x.client ≡ c → x.starts ≡ starts → x.number < next

-- the outstanding commands have numbers of their own
abbrev pub NumbersApart : List PageCommand → Type 0
NumbersApart cs = (pc qc : PageCommand) → Has pc cs → Has qc cs → pc.number ≡ qc.number → pc ≡ qc

-- a page that is dirty has a write outstanding, or a failed command
abbrev pub PageCovered : Association → ℕ → PageNo → Type 0
PageCovered a ino p =
    (d : DirtyPage) → pages.dirty_of a.store.pages ino p ≡ Some d →
    (pages.is_being_written a.store.commands ino p ≡ true) ⊎ (is_some d.failed ≡ true)

-- all dirty pages have
abbrev pub Covered : Association → Type 0
Covered a = (ino : ℕ) (p : PageNo) → PageCovered a ino p

-- What holds of all associations of a client that runs.
pub record NodeCared (past : List Step) (cs : List IssuedCommand) (es : List LogEntry) (c : ClientId) (site : WorldClient) : Type 0 where
  pub cared : (a : Association) → Has a site.node.state.associations → Cared past cs es c site.starts site.node.state.next_command a
  pub apart : (a : Association) → Has a site.node.state.associations → NumbersApart a.store.commands
  pub numbers : NumbersBelow cs c site.starts site.node.state.next_command

-- no command of a client is of a later instance
abbrev pub StartsBelow : List IssuedCommand → ClientId → ℕ → Type 0
StartsBelow cs c n = (x : IssuedCommand) → Has x cs → x.client ≡ c → x.starts ≤ n

-- What holds of a flush step: it was made in the flush phase; and while the lease has that end, each dirty page of that server has a write outstanding or a
-- failed command.
pub record FlushRight (w : World) (x : FlushStep) : Type 0 where
  pub low : x.end.0 + w.config.flush ≤ (clock_in w.clocks x.client).0 + w.config.lease
  pub covered : (site : WorldClient) → numbered w.clients x.client.0 ≡ Some site → site.node.running ≡ true → (a : Association) →
      Has a site.node.state.associations → a.server.0 ≡ x.server.0 → (s : ClientSession) → a.session ≡ Some s →
      (lease.end_of w.config s.lease).0 ≡ x.end.0 → Covered a

-- What holds of the flush in a world after steps.
pub record FlushHold (past : List Step) (w : World) : Type 0 where
  pub sites : (c : ClientId) (site : WorldClient) → numbered w.clients c.0 ≡ Some site → site.node.running ≡ true →
      NodeCared past w.commands w.log c site
  pub starts : (c : ClientId) (site : WorldClient) → numbered w.clients c.0 ≡ Some site → StartsBelow w.commands c site.starts
  pub flushes : (x : FlushStep) → Has x w.flushed → FlushRight w x
  pub servers : (c : ClientId) (site : WorldClient) → numbered w.clients c.0 ≡ Some site → (a : Association) →
      Has a site.node.state.associations → (1 ≤ a.server.0) × (a.server.0 ≤ length w.servers)
