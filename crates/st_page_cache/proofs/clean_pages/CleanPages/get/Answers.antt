use Rattle.st_lemmas.proofs.Words
use Words.{◌∙◌}
use Rattle.st_page_cache.proofs.CleanRows.{page_found}
use Rattle.st_page_cache.proofs.clean_pages.CleanPages.get.Goals as goal

pub returns : goal.returns
returns c = rw (← c.self.view_is) (c.peek.ensures ∙ page_found c.args.ino c.args.page c.key.result c.key.ensures c.self.inside.pages.entries c.self.invariant.keyed)
