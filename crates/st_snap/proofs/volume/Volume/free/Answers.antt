use Rattle.st_lemmas.proofs.Words
use Words.{arith}
use Rattle.st_snap.proofs.Counting.{counted}
use Rattle.st_snap.proofs.volume.Volume.free.Goals as goal

pub returns : goal.returns
returns c = rw (← c.self.view_is) (λ blocks changes a. let n = counted blocks changes _ a c.free.ensures.kept in omega (arith, n, c.free.ensures.free, a.size))
