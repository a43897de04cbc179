use Rattle.st_lock_cache.specs.Calls.{tables}
use Rattle.st_lock_cache.proofs.CacheInvariants.{dropped_kept}
use Rattle.st_lock_cache.proofs.cache.LockCache.drop_lock.Goals as goal

pub invariant_of-self : goal.invariant_of-self
invariant_of-self c = rw (c.remove.ensures, c.key.ensures, c.drop_demand.ensures.left) (dropped_kept (tables c.self.inside.rows c.self.inside.seen c.self.inside.demands.items) c.args.ino c.self.invariant)
