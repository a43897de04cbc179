use Rattle.st_page_cache.proofs.Changes.{sound_failed}
use Rattle.st_page_cache.proofs.cache.PageCache.fail.Goals as goal

pub invariant_of-self : goal.invariant_of-self
invariant_of-self c =
    rw c.fail.ensures (sound_failed c.self.inside.clean c.self.inside.dirty c.self.inside.next_version c.self.invariant c.args.ino c.args.page c.args.command)
