use Rattle.std.proofs.lemmas.Slice.Eq.{slice_eq-Decides}
use Rattle.st_locks.proofs.Demanded.{on_true, one_client}
use Rattle.st_locks.proofs.parts.are_same.Goals as goal

pub returns : goal.returns
returns c = on_true c.eq.result (slice_eq-Decides one_client _ _ _ c.eq.ensures).0
