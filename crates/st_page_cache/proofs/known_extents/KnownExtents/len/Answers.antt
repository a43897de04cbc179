use Rattle.st_page_cache.proofs.KnownRows.{known_once}
use Rattle.st_page_cache.proofs.known_extents.KnownExtents.len.Goals as goal

pub returns-clause-once : goal.returns-clause-once
returns-clause-once c = rw (← c.self.view_is) (known_once c.self.inside.rows.entries c.self.invariant)
