use Rattle.st_flush.proofs.Begun.{fewer_apart}
use Rattle.st_flush.proofs.flusher.Flusher.forget_read.Goals as goal

pub invariant_of-self : goal.invariant_of-self
invariant_of-self c = rw c.retain.ensures (fewer_apart c.self.inside.commands _ c.self.invariant)
