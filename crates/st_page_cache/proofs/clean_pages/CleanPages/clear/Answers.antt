use Rattle.st_lemmas.proofs.Words
use Words.{sym, subst}
use Rattle.st_page_cache.specs.KeyedPages.{IsCache}
use Rattle.st_page_cache.proofs.CleanRows.{cache_emptied}
use Rattle.st_page_cache.proofs.clean_pages.CleanPages.clear.Goals as goal

pub invariant_of-self : goal.invariant_of-self
invariant_of-self c = subst IsCache (sym c.clear.ensures) (cache_emptied c.self.inside.pages c.self.invariant)
