use Rattle.st_page_cache.proofs.CleanRows.{pages_once}
use Rattle.st_page_cache.proofs.clean_pages.CleanPages.len.Goals as goal

pub returns-clause-once : goal.returns-clause-once
returns-clause-once c = rw (← c.self.view_is) (pages_once c.self.inside.pages.entries c.self.invariant.keyed c.self.invariant.distinct)
