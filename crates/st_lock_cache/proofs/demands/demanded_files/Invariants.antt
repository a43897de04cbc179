use Rattle.st_lemmas.proofs.Words
use Words.{◌≡◌, map, drop}
use Words.ClientLocks.{ino_of_demand}
use Words.Keys.{rising}
use Rattle.st_lock_cache.proofs.demands.demanded_files.Given as goal

abbrev pub invariant-loop-i : goal.invariant-loop-i
invariant-loop-i l = l.found.items ≡ rising (map ino_of_demand (drop l.i l.demands))
