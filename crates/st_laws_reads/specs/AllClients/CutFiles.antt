-- While a client asks a server to cut or to remove a file, it has nothing of the file cached from that page on.
use Rattle.std.specs.Prelude.{◌≡◌, ℕ, ◌≤◌, List, [], Option, Some}
use Rattle.st_base.specs.declared.config.Config.{Config}
use Rattle.st_base.specs.declared.ids.ClientId.{ClientId}
use Rattle.st_base.specs.declared.ids.PageNo.{PageNo}
use Rattle.st_messages.specs.declared.event.Event.{Event}
use Rattle.st_rules.specs.declared.client.CleanPage.{CleanPage}
use Rattle.st_rules.specs.declared.client.KnownExtent.{KnownExtent}
use Rattle.st_rules.specs.declared.client.PageCommand.{PageCommand}
use Rattle.st_rules.specs.declared.client.Request.{Request}
use Rattle.st_rules.specs.declared.pages.DirtyPage.{DirtyPage}
use Rattle.st_rules.specs.ClientPages.{Store}
use Rattle.st_rules.specs.ClientState.{Association, ClientSession}
use Rattle.st_rules.specs.History.{traced}
use Rattle.st_rules.specs.Safety.{Promise, Throughout, steps}
use Rattle.st_rules.specs.World.{World, WorldClient, fresh_world, site_of}
use Rattle.st_lemmas.specs.Lists.{Has}
use Rattle.st_laws_steps.specs.Client.Session.{cuts_from}

-- a session in which a cut or a remove of this file is asked, from this page on
pub record Cuts (o : Option ClientSession) (ino : ℕ) (p : PageNo) : Type 0 where
  pub session : ClientSession
  pub is : o ≡ Some session
  pub request : Request
  pub asked : session.requests.asked ≡ Some request
  pub from : cuts_from request.body ≡ Some p
  pub cutting : session.cutting ≡ Some ino

-- Nothing of the file is dirty or outstanding, and from the page on nothing is clean or known.
pub record Clear (x : Store) (ino : ℕ) (p : PageNo) : Type 0 where
  pub dirty : (d : DirtyPage) → Has d x.pages.dirty → d.ino ≡ ino → ⊥
  pub commands : (c : PageCommand) → Has c x.commands → c.ino ≡ ino → ⊥
  pub clean : (y : CleanPage) → Has y x.pages.clean → y.ino ≡ ino → p.0 ≤ y.page.0 → ⊥
  pub known : (e : KnownExtent) → Has e x.extents → e.ino ≡ ino → p.0 ≤ e.page.0 → ⊥

-- what an association has of the file that is cut is clear
abbrev pub Cleared : Association → Type 0
Cleared a = (ino : ℕ) (p : PageNo) → Cuts a.session ino p → Clear a.store ino p

-- the same of all clients of a world
abbrev pub AllCleared : World → Type 0
AllCleared w = (c : ClientId) (site : WorldClient) → site_of w c ≡ Some site → (a : Association) → Has a site.node.state.associations → Cleared a

-- after a step
abbrev pub ClearedAfter : Promise
ClearedAfter past x = AllCleared x.after.world

-- In every run, with no premise: what is cut or removed is clear at the client that asks.
abbrev pub RunsClear : Type 0
RunsClear =
    (k : Config) (clients servers disks blocks form : ℕ) (es : List Event) →
    Throughout ClearedAfter [] (steps es (traced (fresh_world k clients servers disks blocks form)))
