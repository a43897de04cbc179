-- Dirty pages have entries in the volume, and a client whose pages of a server are full is full in the volume too.
use Rattle.std.specs.Prelude.{◌≡◌, ℕ, true, false, ◌&&◌, List, [], ◌∷◌, ◌++◌, Some}
use Rattle.std.specs.List.{list_any}
use Rattle.st_base.specs.declared.ids.ClientId.{ClientId}
use Rattle.st_base.specs.declared.ids.FileId.{FileId}
use Rattle.st_base.specs.declared.ids.NodeId.TheVariants as nodes
use Rattle.st_base.specs.declared.ids.PageNo.{PageNo}
use Rattle.st_rules.specs.declared.pages.DirtyPage.{DirtyPage}
use Rattle.st_rules.specs.ClientPages.{dirty_of, is_full_for}
use Rattle.st_rules.specs.ClientState.{Association}
use Rattle.st_rules.specs.Safety.{Promise}
use Rattle.st_rules.specs.World.{World, WorldClient, clock_of, site_of}
use Rattle.st_lemmas.specs.Lists.{Has}
use Rattle.st_laws_steps.specs.Client.Losses.{is_ended}
use Rattle.st_laws_volume.specs.Options.{OnSome}
use Rattle.st_laws_volume.specs.Witness.{led_by, led_to}
use Rattle.st_volume.specs.Pages.{is_by_at, place_of}
use Rattle.st_volume.specs.Volume.{Pending, Volume, is_dirty_full, may_be_dirty}

-- an association of a client that runs, with a lease that isn't over
pub record IsLive (w : World) (c : ClientId) (a : Association) : Type 0 where
  pub site : WorldClient
  pub there : site_of w c ≡ Some site
  pub runs : site.node.running ≡ true
  pub has : Has a site.node.state.associations
  pub lasts : is_ended site.node.state.config (clock_of w (nodes.Client c)) a.session ≡ false

-- The page has an entry of the client: the client hasn't crashed since, the entry was not dropped, and no `hard` told of it.
abbrev pub HaveEntries : World → Volume → Type 0
HaveEntries w v =
    (c : ClientId) (a : Association) (ino : ℕ) (p : PageNo) (d : DirtyPage)
    → IsLive w c a
    → dirty_of a.store.pages ino p ≡ Some d
    → list_any (λ e. is_by_at c (record { server = a.server; ino = ino }, p) e && may_be_dirty c e) v.log ≡ true

-- Dirty pages have entries: after every event, if the volume has taken the steps of all events so far.
abbrev pub DirtyPagesHaveEntries : Promise
DirtyPagesHaveEntries past x = OnSome (HaveEntries x.after.world) (led_by (led_to past x) x).volume

-- 64 pages are dirty other than the one that an ask writes or patches: the volume lets this ask be answered `dirtyfull`.
abbrev pub AreFull : World → Volume → Type 0
AreFull w v =
    (c : ClientId) (a : Association) (b : Pending) (f : FileId) (p : PageNo)
    → IsLive w c a
    → b.client ≡ c
    → place_of b.ask ≡ Some (f, p)
    → f.server ≡ a.server
    → is_full_for a.store.pages f.ino p ≡ true
    → is_dirty_full v b ≡ true

-- Full clients are full: after every event, if the volume has taken the steps of all events so far.
abbrev pub FullClientsAreFull : Promise
FullClientsAreFull past x = OnSome (AreFull x.after.world) (led_by (led_to past x) x).volume
