use Rattle.st_lemmas.proofs.Words
use Words.{◌≡◌, Some}
use Words.ClientLocks.{lock_of}
use Rattle.st_lock_cache.specs.Calls.{tables}
use Rattle.st_lock_cache.proofs.CacheInvariants.{demanded_kept}
use Rattle.st_lock_cache.proofs.cache.LockCache.demand_lock.Goals as goal

pub invariant_of-self-2 : goal.invariant_of-self-2
invariant_of-self-2 c =
    let held : lock_of (tables c.self.inside.rows c.self.inside.seen c.self.inside.demands.items) c.args.ino ≡ Some c.args.lock = rw (← c.self.view_is) at c.requires.held in
    rw (c.in_ok-put_over.ensures.rows, c.in_ok-put_over.ensures.seen, c.put_demand.ensures, c.in_ok-reserve.ensures.items)
    (demanded_kept (tables c.self.inside.rows c.self.inside.seen c.self.inside.demands.items) c.args.ino c.args.g c.lesser_demand-to.result c.args.lock held c.requires.below c.self.invariant)
