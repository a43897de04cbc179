use Rattle.st_lemmas.proofs.Words
use Words.{◌≡◌, true}
use Words.ClientLocks.{is_above_seen}
use Rattle.st_lock_cache.specs.Calls.{tables}
use Rattle.st_lock_cache.proofs.CacheInvariants.{seen_kept}
use Rattle.st_lock_cache.proofs.cache.LockCache.observe.Goals as goal

pub invariant_of-self-2 : goal.invariant_of-self-2
invariant_of-self-2 c =
    let above : is_above_seen (tables c.self.inside.rows c.self.inside.seen c.self.inside.demands.items) c.args.ino c.args.g ≡ true = rw (← c.self.view_is) at c.requires in
    rw (c.in_ok-put.ensures.ok, c.seen_row.ensures) (seen_kept (tables c.self.inside.rows c.self.inside.seen c.self.inside.demands.items) c.args.ino c.args.g above c.self.invariant)
