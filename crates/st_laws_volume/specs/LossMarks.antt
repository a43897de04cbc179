-- What entries that are dropped remember, and what their client still owes of them.
use Rattle.std.specs.Prelude.{◌≡◌, ◌≤◌, ℕ, ◌⊎◌, Bool, true, false, ◌++◌, List, [], ◌∷◌, find, slice_get, Some, ⊤}
use Rattle.std.specs.List.{list_any}
use Rattle.st_base.specs.declared.ids.ClientId.{ClientId}
use Rattle.st_base.specs.declared.ids.NodeId.TheVariants as nodes
use Rattle.st_base.specs.declared.ids.PageNo.{PageNo}
use Rattle.st_base.specs.declared.ids.ServerId.{ServerId}
use Rattle.st_promises.specs.Losses.{owed}
use Rattle.st_rules.specs.declared.client.LostPage.{LostPage}
use Rattle.st_rules.specs.declared.log.LogEntry.{LogEntry}
use Rattle.st_rules.specs.declared.log.LogOwner.{LogOwner}
use Rattle.st_rules.specs.declared.pages.DirtyPage.{DirtyPage}
use Rattle.st_rules.specs.ClientPages.{dirty_of, is_any_write, is_dirty_of, is_lost_of}
use Rattle.st_rules.specs.ClientState.{Association, is_at}
use Rattle.st_rules.specs.Events.{is_change}
use Rattle.st_rules.specs.FlatLog.{counts}
use Rattle.st_rules.specs.Safety.{Promise}
use Rattle.st_rules.specs.World.{World, WorldClient, clock_of, site_of}
use Rattle.st_lemmas.specs.Lists.{Has}
use Rattle.st_laws_steps.specs.Client.Losses.{is_ended}
use Rattle.st_laws_volume.specs.Options.{OnSome}
use Rattle.st_laws_volume.specs.Witness.{led_by, led_to}
use Rattle.st_volume.specs.Pages.{Entry}
use Rattle.st_volume.specs.Volume.{Volume}

-- The page of an owner is dirty at its client, whose lease is over: its next step loses it.
pub record IsLate (w : World) (o : LogOwner) : Type 0 where
  pub site : WorldClient
  pub there : site_of w o.client ≡ Some site
  pub runs : site.node.running ≡ true
  pub a : Association
  pub place : find (is_at o.file.server) site.node.state.associations ≡ Some a
  pub over : is_ended site.node.state.config (clock_of w (nodes.Client o.client)) a.session ≡ true
  pub page : DirtyPage
  pub dirty : dirty_of a.store.pages o.file.ino o.page ≡ Some page

-- Late pages have failed: a page that is dirty at a client whose lease is over has a command that failed, with a number from 1 up; and no write of its server's
-- files is outstanding.
abbrev pub HasFailed : Association → DirtyPage → Type 0
HasFailed a d = ((n : ℕ) × ((d.failed ≡ Some n) × (1 ≤ n))) × (list_any is_any_write a.store.commands ≡ false)

abbrev pub LateFailed : World → Type 0
LateFailed w =
    (c : ClientId) (site : WorldClient)
    → site_of w c ≡ Some site
    → site.node.running ≡ true
    → (a : Association)
    → Has a site.node.state.associations
    → is_ended site.node.state.config (clock_of w (nodes.Client c)) a.session ≡ true
    → (ino : ℕ) (p : PageNo) (d : DirtyPage)
    → dirty_of a.store.pages ino p ≡ Some d
    → HasFailed a d

-- after every event
abbrev pub LatePagesHaveFailed : Promise
LatePagesHaveFailed past x = LateFailed x.after.world

-- Dirty pages are there once.
abbrev pub IsOnce : List DirtyPage → Type 0
IsOnce [] = ⊤
IsOnce (d ∷ ds) = ((x : DirtyPage) → Has x ds → is_dirty_of d.ino d.page x ≡ false) × IsOnce ds

-- at each association of each client
abbrev pub AllOnce : World → Type 0
AllOnce w =
    (c : ClientId) (site : WorldClient)
    → site_of w c ≡ Some site
    → (a : Association)
    → Has a site.node.state.associations
    → IsOnce a.store.pages.dirty

-- after every event
abbrev pub PagesAreOnce : Promise
PagesAreOnce past x = AllOnce x.after.world

-- a page is among those that are owed
abbrev pub is_owed : (ClientId → ServerId → List LostPage) → LogOwner → Bool
is_owed rows o = list_any (is_lost_of o.file.ino o.page) (rows o.client o.file.server)

-- An entry that is dropped: its client crashed since, or was told; or its page is owed; or it must be lost.
abbrev pub IsMet : (ClientId → ServerId → List LostPage) → (LogOwner → Type 0) → LogOwner → Entry → Type 0
IsMet rows late o e = (e.crashed ≡ true) ⊎ ((e.told ≡ true) ⊎ ((is_owed rows o ≡ true) ⊎ late o))

-- each write and patch that is gone, by its place in both logs
abbrev pub AreMet : (ClientId → ServerId → List LostPage) → (LogOwner → Type 0) → List LogEntry → Volume → Type 0
AreMet rows late os v =
    (n : ℕ) (o : LogEntry) (e : Entry)
    → slice_get os n ≡ Some o
    → slice_get v.log n ≡ Some e
    → is_change o ≡ true
    → counts o.fate ≡ false
    → IsMet rows late o.of e

-- Losses are met: after every event, if the volume has taken the steps of all events so far.
abbrev pub LossesAreMet : Promise
LossesAreMet past x =
    OnSome (AreMet (owed (past ++ x ∷ [])) (IsLate x.after.world) x.after.world.log)
    (led_by (led_to past x) x).volume
