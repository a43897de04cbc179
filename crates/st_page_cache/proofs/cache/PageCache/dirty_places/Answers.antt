use Rattle.st_page_cache.specs.Caches.{pages_of}
use Rattle.st_page_cache.proofs.Places.{places_are}
use Rattle.st_page_cache.proofs.cache.PageCache.dirty_places.Goals as goal

pub returns : goal.returns
returns c = rw (← c.self.view_is) (places_are (pages_of c.self.inside.clean c.self.inside.dirty c.self.inside.next_version) c.in_ok-places.places.items c.in_ok-places.ensures)
