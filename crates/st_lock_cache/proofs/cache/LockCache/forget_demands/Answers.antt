use Rattle.st_lock_cache.specs.Calls.{tables}
use Rattle.st_lock_cache.proofs.CacheInvariants.{forgotten_kept}
use Rattle.st_lock_cache.proofs.cache.LockCache.forget_demands.Goals as goal

pub invariant_of-self : goal.invariant_of-self
invariant_of-self c = rw c.clear.ensures.items (forgotten_kept (tables c.self.inside.rows c.self.inside.seen c.self.inside.demands.items) c.self.invariant)
