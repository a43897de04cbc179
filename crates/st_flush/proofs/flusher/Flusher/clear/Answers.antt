use Rattle.st_flush.proofs.Begun.{none_apart}
use Rattle.st_flush.proofs.flusher.Flusher.clear.Goals as goal

pub invariant_of-self : goal.invariant_of-self
invariant_of-self c = rw c.clear.ensures none_apart
