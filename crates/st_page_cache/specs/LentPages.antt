-- What a page cache ends as, once a page that it lent is given back.
use Rattle.std.specs.Prelude.{◌≡◌, ℕ, ⊤}
use Rattle.std.specs.Borrow.{Fml, MutBor, follows_so}
use mathlib.Core.Option.{none}
use Rattle.st_base.specs.declared.ids.PageNo.{PageNo}
use Rattle.st_rules.specs.ClientPages.{use_page}
use Rattle.st_page_cache.specs.Caches.{ServerPages, with_pages}
use Rattle.st_page_cache.specs.contracts.cache.PageCache.{the_row}

-- the page that was read is used
abbrev pub EndsUsed : MutBor ServerPages → ℕ → PageNo → Fml
EndsUsed c ino page = follows_so the_row the_row c.ghost_name none (λ _ _. ⊤) (λ n. n ≡ with_pages (use_page c.now.pages ino page) c.now)
