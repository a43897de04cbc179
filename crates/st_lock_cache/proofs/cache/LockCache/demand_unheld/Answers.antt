use Rattle.st_lemmas.proofs.Words
use Words.{◌≡◌, ◌∙◌, ap, sym, GrantNo}
use Words.ClientLocks.{greater_grant, seen_of}
use Rattle.st_lock_cache.specs.Calls.{ServerLocks, tables}
use Rattle.st_lock_cache.proofs.CacheInvariants.{greater_kept}
use Rattle.st_lock_cache.proofs.cache.LockCache.demand_unheld.Goals as goal

pub invariant_of-self-2 : goal.invariant_of-self-2
invariant_of-self-2 c =
    let e : c.greater-g.result ≡ greater_grant (seen_of (tables c.self.inside.rows c.self.inside.seen c.self.inside.demands.items) c.args.ino) c.args.g =
    c.greater-g.ensures ∙ ap (λ (s : GrantNo). greater_grant s c.args.g) (c.seen.ensures ∙ ap (λ (v : ServerLocks). seen_of v.locks c.args.ino) (sym c.self.view_is)) in
    rw (c.in_ok-put.ensures.ok, c.seen_row.ensures, e) (greater_kept (tables c.self.inside.rows c.self.inside.seen c.self.inside.demands.items) c.args.ino c.args.g c.self.invariant)
