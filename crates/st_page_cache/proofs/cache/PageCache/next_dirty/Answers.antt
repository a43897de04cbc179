use Rattle.st_lemmas.proofs.Words
use Words.{◌∙◌}
use Rattle.st_page_cache.specs.Caches.{pages_of}
use Rattle.st_page_cache.proofs.Places.{nearest_is_next}
use Rattle.st_page_cache.proofs.cache.PageCache.next_dirty.Goals as goal

pub returns : goal.returns
returns c = rw (← c.self.view_is) (c.next.ensures ∙ nearest_is_next (pages_of c.self.inside.clean c.self.inside.dirty c.self.inside.next_version) c.args.after)
