use Rattle.st_lemmas.proofs.Words
use Words.{◌≡◌, take, filter_map}
use Words.ClientLocks.{lock_row_at}
use Rattle.st_lock_cache.proofs.cache.LockCache.all.Given as goal

abbrev pub invariant-loop-ino : goal.invariant-loop-ino
invariant-loop-ino l = l.found.items ≡ filter_map (lock_row_at l.self.locks) (take l.ino-index l.ino-items)
