use Rattle.st_lock_cache.proofs.CacheInvariants.{empty_kept}
use Rattle.st_lock_cache.proofs.cache.LockCache.clear.Goals as goal

pub invariant_of-self : goal.invariant_of-self
invariant_of-self c = rw (c.new.ensures, c.new-2.ensures, c.clear.ensures.items) empty_kept
