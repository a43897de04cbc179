use Rattle.st_page_cache.proofs.Changes.{sound_filled}
use Rattle.st_page_cache.proofs.cache.PageCache.fill.Goals as goal

pub invariant_of-self-2 : goal.invariant_of-self-2
invariant_of-self-2 c =
    rw c.in_ok-put.ensures.ok (sound_filled c.self.inside.clean c.self.inside.dirty c.self.inside.next_version c.self.invariant (record { ino = c.args.ino; page = c.args.page; bytes = c.in_ok-bytes.bytes }) (rw (← c.self.view_is) at c.requires))
