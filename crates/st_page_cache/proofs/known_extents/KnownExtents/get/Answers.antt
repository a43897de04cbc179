use Rattle.st_lemmas.proofs.Words
use Words.{◌∙◌}
use Rattle.st_page_cache.proofs.KnownRows.{known_found}
use Rattle.st_page_cache.proofs.known_extents.KnownExtents.get.Goals as goal

pub returns : goal.returns
returns c = rw (← c.self.view_is) (c.copied.ensures ∙ c.get.ensures.value ∙ known_found c.args.ino c.args.page c.key.result c.key.ensures c.self.inside.rows.entries c.self.invariant)
