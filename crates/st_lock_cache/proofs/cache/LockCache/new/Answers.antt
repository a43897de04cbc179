use Rattle.st_lock_cache.proofs.CacheInvariants.{empty_kept}
use Rattle.st_lock_cache.proofs.cache.LockCache.new.Goals as goal

pub invariant_of-result : goal.invariant_of-result
invariant_of-result c = rw (c.new.ensures, c.new-2.ensures, c.new-3.ensures.items) empty_kept
