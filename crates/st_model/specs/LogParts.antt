-- What a log keeps beside its entries: a page of zeros, the places of the pending entries, the number of each client's latest
-- entry to each page, and the places of each page's writes and patches and of each file's cuts.
use Rattle.std.specs.Prelude.{◌≡◌, ℕ, Bool, ◌&&◌, ◌==◌, List, unwrap_or}
use Rattle.indexmap.specs.IndexMap.{IndexMap, get}
use Rattle.st_base.specs.Page.{filled}
use Rattle.st_base.specs.declared.ids.ClientId.{ClientId}
use Rattle.st_base.specs.declared.ids.FileId.{FileId}
use Rattle.st_base.specs.declared.ids.PageNo.{PageNo}
use Rattle.st_rules.specs.declared.log.LogEntry.{LogEntry}
use Rattle.st_rules.specs.Events.{latest}
use Rattle.st_model.specs.declared.client_pages.ClientPage.{ClientPage}
use Rattle.st_model.specs.declared.file_pages.FilePage.{FilePage}
use Rattle.st_model.specs.PagePlaces.{HasPages, HasCuts}
use Rattle.st_model.specs.LogInvariants.{AreInPages}
use Rattle.st_model.specs.Walks.{pending_from}

-- one page of one client
abbrev pub same_client_page : ClientPage → ClientPage → Bool
same_client_page a b = (a.client == b.client) && ((a.server == b.server) && ((a.ino == b.ino) && (a.page == b.page)))

-- a page of a client
abbrev pub client_page : ClientId → FileId → PageNo → ClientPage
client_page c f p = record { client = c.0; server = f.server.0; ino = f.ino; page = p.0 }

-- the latest entry of each client to each page
abbrev pub IsIndex : {S : Type 0} → List LogEntry → IndexMap ClientPage ℕ S → Type 0
IsIndex es m = (c : ClientId) (f : FileId) (p : PageNo) → unwrap_or (get same_client_page m (client_page c f p)) 0 ≡ latest es c f p

-- what a log keeps beside its entries; the map and the tables are exact
pub record IsKept {S : Type 0} (zeros : List ℕ) (es : List LogEntry) (places : List ℕ)
    (m : IndexMap ClientPage ℕ S) (pages cuts : IndexMap FilePage (List ℕ) S) : Type 0 where
  pub blank : zeros ≡ filled 0
  pub pending : places ≡ pending_from 0 es
  pub index : IsIndex es m
  pub pages_of : HasPages es pages
  pub cuts_of : HasCuts es cuts
  pub ranges : AreInPages es
