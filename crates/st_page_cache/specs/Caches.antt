-- What contracts see of a page cache: its server, and the pages that a client has of it.
use Rattle.std.specs.Prelude.{◌≡◌, ◌≤◌, ℕ, true, List, length, Option, Some, None, Result, Ok, Err}
use Rattle.std.specs.List.{list_all}
use Rattle.st_base.specs.declared.ids.ServerId.{ServerId}
use Rattle.st_rules.specs.ClientInvariants.{same_clean, same_dirty, is_only_dirty, has_version}
use Rattle.st_rules.specs.ClientPages.{Pages}
use Rattle.st_rules.specs.ServerInvariants.{are_once}
use Rattle.st_rules.specs.declared.client.CleanPage.{CleanPage}
use Rattle.st_rules.specs.declared.client.WriteRefusal.{WriteRefusal}
use Rattle.st_rules.specs.declared.client.WriteRefusal.TheVariants as writing
use Rattle.st_rules.specs.declared.pages.DirtyPage.{DirtyPage}
use Rattle.st_page_cache.specs.declared.refusal.CacheRefusal.{CacheRefusal}
use Rattle.st_page_cache.specs.declared.refusal.CacheRefusal.TheVariants.{DirtyFull, Memory}
use Rattle.st_page_cache.specs.declared.shown.Page.{Page}
use Rattle.st_page_cache.specs.declared.shown.Page.TheVariants.{Hit, Miss}
use Rattle.st_page_cache.specs.declared.shown.Dirty.{Dirty}

-- a server and the pages that a client has of it
pub record ServerPages : Type 0 where
  pub server : ServerId
  pub pages : Pages

-- with these pages
abbrev pub with_pages : Pages → ServerPages → ServerPages
with_pages ps c = record c { pages = ps }

-- A page is dirty or clean, not both, and in each once; at most 256 are clean and at most 64 dirty; each dirty page has a
-- version that was given.
pub record ArePages (ps : Pages) : Type 0 where
  pub clean_once : are_once same_clean ps.clean ≡ true
  pub dirty_once : are_once same_dirty ps.dirty ≡ true
  pub apart : list_all (is_only_dirty ps) ps.dirty ≡ true
  pub few_clean : length ps.clean ≤ 256
  pub few_dirty : length ps.dirty ≤ 64
  pub versions : list_all (has_version ps) ps.dirty ≡ true

-- the pages of these lists, if this is the next version
abbrev pub pages_of : List CleanPage → List DirtyPage → ℕ → Pages
pages_of clean dirty next = record { clean = clean; dirty = dirty; next_version = next; most_clean = 256 }

-- what a page cache keeps of its two lists: no page is in both, at most 64 are dirty, and each dirty page has a version that was
-- given
pub record IsSound (ps : Pages) : Type 0 where
  pub apart : list_all (is_only_dirty ps) ps.dirty ≡ true
  pub few_dirty : length ps.dirty ≤ 64
  pub versions : list_all (has_version ps) ps.dirty ≡ true

-- the bytes that a read shows
abbrev pub bytes_shown : Page → Option (List ℕ)
bytes_shown (Hit bytes) = Some bytes.now
bytes_shown Miss = None

-- what is shown of a dirty page
abbrev pub shown : Dirty → List ℕ × ℕ × Option ℕ
shown d = (d.bytes.now, d.version, d.failed)

-- a dirty page's bytes, its version and its failed command
abbrev pub facts_of : DirtyPage → List ℕ × ℕ × Option ℕ
facts_of d = (d.bytes, d.version, d.failed)

-- a write answers as its definition says; if it refuses, or if memory runs out, nothing changes
abbrev pub Writes : ServerPages → ServerPages → Result (Unit {0}) CacheRefusal → Result Pages WriteRefusal → Type 0
Writes old new (Ok v) machine = record { written : machine ≡ Ok new.pages; server : new.server ≡ old.server }
Writes old new (Err DirtyFull) machine = record { full : machine ≡ Err writing.DirtyFull; same : new ≡ old }
Writes old new (Err Memory) machine = new ≡ old
