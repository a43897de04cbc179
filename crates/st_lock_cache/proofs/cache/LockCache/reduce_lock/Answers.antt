use Rattle.st_lemmas.proofs.Words
use Words.{◌≡◌, Some}
use Words.ClientLocks.{lock_of}
use Rattle.st_lock_cache.specs.Calls.{tables}
use Rattle.st_lock_cache.proofs.CacheInvariants.{lowered_kept}
use Rattle.st_lock_cache.proofs.cache.LockCache.reduce_lock.Goals as goal

pub invariant_of-self : goal.invariant_of-self
invariant_of-self c =
    let held : lock_of (tables c.self.inside.rows c.self.inside.seen c.self.inside.demands.items) c.args.demand.ino ≡ Some c.args.lock = rw (← c.self.view_is) at c.requires in
    rw (c.lower_rows.ensures, c.drop_demand.ensures.left) (lowered_kept (tables c.self.inside.rows c.self.inside.seen c.self.inside.demands.items) c.args.demand.ino c.args.lock c.args.demand.to held c.self.invariant)
