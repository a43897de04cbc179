-- Pages found by their keys: each key follows from its page.
use Rattle.std.specs.Prelude.{◌≡◌, ◌≤◌, ◌&&◌, ◌==◌, ℕ, Bool, List, Option, Some, None, length, map}
use Rattle.std.specs.List.{IsDistinct}
use Rattle.std.specs.Map.{keys_of, lookup, set_value, values_of}
use Rattle.lru.specs.LruCache.{LruCache}
use Rattle.st_rules.specs.ClientPages.{failed_by, with_newest}
use Rattle.st_rules.specs.declared.client.CleanPage.{CleanPage}
use Rattle.st_rules.specs.declared.client.KnownExtent.{KnownExtent}
use Rattle.st_rules.specs.declared.pages.DirtyPage.{DirtyPage}
use Rattle.st_page_cache.specs.declared.key.PageKey.{PageKey}

-- each key is that of its value
abbrev pub IsKeyed : {K X : Type 0} → (X → K) → List (K × X) → Type 0
IsKeyed key es = keys_of es ≡ map key (values_of es)

-- the key of a clean page
abbrev pub clean_key : CleanPage → PageKey
clean_key c = record { ino = c.ino; page = c.page.0 }

-- the key of a dirty page
abbrev pub dirty_key : DirtyPage → PageKey
dirty_key d = record { ino = d.ino; page = d.page.0 }

-- the key of a page of which something is known
abbrev pub known_key : KnownExtent → PageKey
known_key e = record { ino = e.ino; page = e.page.0 }

-- a clean page that is found becomes the newest one
abbrev pub touched : Option CleanPage → List CleanPage → List CleanPage
touched None clean = clean
touched (Some c) clean = with_newest 256 c clean

-- one key
abbrev pub same_key : PageKey → PageKey → Bool
same_key a b = (a.ino == b.ino) && (a.page == b.page)

-- a cache of at most 256 clean pages
pub record IsCache (c : LruCache PageKey CleanPage) : Type 0 where
  pub cap : c.cap ≡ 256
  pub few : length c.entries ≤ 256
  pub keyed : IsKeyed clean_key c.entries
  pub distinct : IsDistinct same_key (keys_of c.entries)

-- a table of dirty pages
pub record IsTable (es : List (PageKey × DirtyPage)) : Type 0 where
  pub keyed : IsKeyed dirty_key es
  pub distinct : IsDistinct same_key (keys_of es)

-- a table of what is known of pages
pub record IsKnown (es : List (PageKey × KnownExtent)) : Type 0 where
  pub keyed : IsKeyed known_key es
  pub distinct : IsDistinct same_key (keys_of es)

-- the page of this key is marked as failed by a command, if it is there
abbrev pub Marks : PageKey → ℕ → List (PageKey × DirtyPage) → List (PageKey × DirtyPage) → Type 0
Marks at command old new = (d : DirtyPage) → lookup (same_key at) old ≡ Some d → new ≡ set_value (same_key at) old (failed_by command d)
