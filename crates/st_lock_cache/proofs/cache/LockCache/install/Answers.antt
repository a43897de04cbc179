use Rattle.st_lemmas.proofs.Words
use Words.{◌≡◌, true, ◌∙◌, sym}
use Words.ClientLocks.{is_above_seen}
use Rattle.st_lock_cache.specs.Calls.{tables}
use Rattle.st_lock_cache.proofs.CacheInvariants.{installed_kept}
use Rattle.st_lock_cache.proofs.cache.LockCache.install.Goals as goal

pub invariant_of-self-then-is_above_seen : goal.invariant_of-self-then-is_above_seen
invariant_of-self-then-is_above_seen c =
    let above : is_above_seen (tables c.self.inside.rows c.self.inside.seen c.self.inside.demands.items) c.args.ino c.args.g ≡ true = rw (← c.self.view_is) at (sym c.is_above_seen.ensures ∙ c.if-is_above_seen.true) in
    rw (c.in_ok-put_lock.ensures.rows, c.in_ok-put_lock.ensures.seen, c.drop_demand.ensures.left)
    (installed_kept (tables c.self.inside.rows c.self.inside.seen c.self.inside.demands.items) c.args.ino c.args.g c.args.mode above c.self.invariant)
