-- Write commands that are not reported are outstanding at the clients that submitted them, and those alone.
use Rattle.std.specs.Prelude.{◌≡◌, ℕ, Bool, true, List, Some, None, is_some}
use Rattle.std.specs.List.{list_any}
use Rattle.st_base.specs.declared.disk.BlockAt.{BlockAt}
use Rattle.st_base.specs.declared.disk.Command.TheVariants as commands
use Rattle.st_base.specs.declared.disk.Tag.{Tag}
use Rattle.st_base.specs.declared.ids.ClientId.{ClientId}
use Rattle.st_base.specs.declared.ids.ServerId.{ServerId}
use Rattle.st_rules.specs.declared.client.IoKind.TheVariants as io
use Rattle.st_rules.specs.declared.client.PageCommand.{PageCommand}
use Rattle.st_rules.specs.declared.disks.DiskCommand.{DiskCommand}
use Rattle.st_rules.specs.declared.disks.Report.TheVariants as reports
use Rattle.st_rules.specs.declared.pages.DirtyPage.{DirtyPage}
use Rattle.st_rules.specs.declared.world.IssuedCommand.{IssuedCommand}
use Rattle.st_rules.specs.Admissible.{has_write_out}
use Rattle.st_rules.specs.Client.{association_with, store_at}
use Rattle.st_rules.specs.ClientPages.{dirty_of, is_any_write}
use Rattle.st_rules.specs.ClientState.{Association, ClientState}
use Rattle.st_rules.specs.Disks as disks
use Rattle.st_rules.specs.Safety.{Promise}
use Rattle.st_rules.specs.World.{World, WorldClient, numbered, site_of}
use Rattle.st_lemmas.specs.Lists.{Has}

-- a write of this number, for the page of a tag, is outstanding at an association, and its page is dirty
pub record IsListed (a : Association) (number : ℕ) (tag : Tag) : Type 0 where
  pub server : tag.file.server ≡ a.server
  pub command : PageCommand
  pub here : Has command a.store.commands
  pub version : ℕ
  pub kind : command.kind ≡ io.Write version
  pub number_is : command.number ≡ number
  pub ino : command.ino ≡ tag.file.ino
  pub page : command.page ≡ tag.page
  pub dirty : DirtyPage
  pub dirty_is : dirty_of a.store.pages command.ino command.page ≡ Some dirty

-- an outstanding write is the only one of its page
abbrev pub WritesOnce : Association → Type 0
WritesOnce a =
    (c d : PageCommand) → Has c a.store.commands → Has d a.store.commands → (v u : ℕ) → c.kind ≡ io.Write v → d.kind ≡ io.Write u → c.ino ≡ d.ino →
    c.page ≡ d.page → c.number ≡ d.number

-- a command is of this instance of the client, and outstanding
pub record ListedSince (starts : ℕ) (a : Association) (x : IssuedCommand) (tag : Tag) : Type 0 where
  pub since : x.starts ≡ starts
  pub listed : IsListed a x.number tag

-- all write commands of the life of an association that are not reported are
abbrev pub OpenListed : List IssuedCommand → List DiskCommand → ClientId → ℕ → Association → Type 0
OpenListed cs ds c starts a =
    (k : ℕ) (x : IssuedCommand) (d : DiskCommand) (at : BlockAt) (tag : Tag) (bytes : List ℕ) → numbered cs k ≡ Some x →
    disks.command_at ds k ≡ Some d → d.what ≡ commands.Write at tag bytes → d.report ≡ reports.Open → x.client ≡ c → x.server ≡ a.server →
    x.life ≡ a.life → ListedSince starts a x tag

-- of all clients that run
abbrev pub OpenHold : World → Type 0
OpenHold w =
    (c : ClientId) (site : WorldClient) → site_of w c ≡ Some site → site.node.running ≡ true → (a : Association) →
    Has a site.node.state.associations → OpenListed w.commands w.disks.commands c site.starts a

-- after a step
abbrev pub OpenAfter : Promise
OpenAfter past x = OpenHold x.after.world

-- a write command of a client, by one of its instances and in the life of an association, that is not reported
pub record IsOut (cs : List IssuedCommand) (ds : List DiskCommand) (c : ClientId) (starts : ℕ) (a : Association) (number : ℕ) : Type 0 where
  pub place : ℕ
  pub command : IssuedCommand
  pub there : numbered cs place ≡ Some command
  pub disk : DiskCommand
  pub on_disk : disks.command_at ds place ≡ Some disk
  pub unreported : disk.report ≡ reports.Open
  pub at : BlockAt
  pub tag : Tag
  pub bytes : List ℕ
  pub what_is : disk.what ≡ commands.Write at tag bytes
  pub unsampled : disk.sample ≡ None
  pub client : command.client ≡ c
  pub since : command.starts ≡ starts
  pub server : command.server ≡ a.server
  pub life : command.life ≡ a.life
  pub number_is : command.number ≡ number
  pub carries : is_some command.carries ≡ true

-- all outstanding writes of an association are
abbrev pub ListedOut : List IssuedCommand → List DiskCommand → ClientId → ℕ → Association → Type 0
ListedOut cs ds c starts a =
    (pc : PageCommand) (version : ℕ) → Has pc a.store.commands → pc.kind ≡ io.Write version → IsOut cs ds c starts a pc.number

-- of all clients that run
abbrev pub ListedHold : World → Type 0
ListedHold w =
    (c : ClientId) (site : WorldClient) → site_of w c ≡ Some site → site.node.running ≡ true → (a : Association) →
    Has a site.node.state.associations → ListedOut w.commands w.disks.commands c site.starts a

-- after a step
abbrev pub ListedAfter : Promise
ListedAfter past x = ListedHold x.after.world

-- a client lists a write of a page of the server
abbrev pub has_write_with : ClientState → ServerId → Bool
has_write_with c s = list_any is_any_write (store_at (association_with c s)).commands

-- a client that runs lists a write exactly if the world has one
abbrev pub ListsAgree : World → Type 0
ListsAgree w =
    (c : ClientId) (site : WorldClient) → site_of w c ≡ Some site → site.node.running ≡ true → (a : Association) →
    Has a site.node.state.associations → has_write_with site.node.state a.server ≡ has_write_out w c a.server site

-- after a step
abbrev pub ListsAgreeAfter : Promise
ListsAgreeAfter past x = ListsAgree x.after.world
