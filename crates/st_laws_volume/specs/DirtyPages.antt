-- Where dirty pages come from: a page that is dirty after an event was dirty before it, or was changed in it.
use Rattle.std.specs.Prelude.{◌≡◌, ℕ, ◌⊎◌, Bool, true, false, ◌&&◌, Some}
use Rattle.std.specs.List.{list_any}
use Rattle.st_base.specs.declared.ids.ClientId.{ClientId}
use Rattle.st_base.specs.declared.ids.PageNo.{PageNo}
use Rattle.st_base.specs.declared.ids.ServerId.{ServerId}
use Rattle.st_rules.specs.declared.observation.Observation.{Observation}
use Rattle.st_rules.specs.declared.observation.Observation.TheVariants as seen
use Rattle.st_rules.specs.declared.pages.DirtyPage.{DirtyPage}
use Rattle.st_rules.specs.ClientPages.{dirty_of}
use Rattle.st_rules.specs.ClientState.{Association}
use Rattle.st_rules.specs.Keys.{same_client}
use Rattle.st_rules.specs.Safety.{Promise}
use Rattle.st_rules.specs.World.{World, WorldClient, site_of}
use Rattle.st_lemmas.specs.Lists.{Has}
use Rattle.st_laws_volume.specs.HardFiles.{is_page_at}

-- the line of a change of this page by this client
abbrev pub is_change_of : ClientId → ServerId → ℕ → PageNo → Observation → Bool
is_change_of c s ino p (seen.Wrote i d f q bytes) = same_client d c && is_page_at s ino p f q
is_change_of c s ino p (seen.Patched i d f q at bytes) = same_client d c && is_page_at s ino p f q
is_change_of c s ino p o = false

-- The page of an association was dirty before, in the same life of its client.
pub record WasDirty (w : World) (c : ClientId) (b : Association) (ino : ℕ) (p : PageNo) : Type 0 where
  pub site : WorldClient
  pub there : site_of w c ≡ Some site
  pub runs : site.node.running ≡ true
  pub a : Association
  pub has : Has a site.node.state.associations
  pub server : a.server ≡ b.server
  pub life : a.life ≡ b.life
  pub page : DirtyPage
  pub dirty : dirty_of a.store.pages ino p ≡ Some page

-- Dirty pages were changed: each page that is dirty after an event at a client that runs was dirty before it in the same life, or the event tells a change of
-- the page.
abbrev pub DirtyPagesWereChanged : Promise
DirtyPagesWereChanged past x =
    (c : ClientId) (site : WorldClient) (b : Association) (ino : ℕ) (p : PageNo) (d : DirtyPage)
    → site_of x.after.world c ≡ Some site
    → site.node.running ≡ true
    → Has b site.node.state.associations
    → dirty_of b.store.pages ino p ≡ Some d
    → WasDirty x.before.world c b ino p ⊎ (list_any (is_change_of c b.server ino p) x.seen ≡ true)
