use Rattle.st_laws_safe.proofs.Gathered.{every_run}
use Rattle.st_laws_volume.proofs.TooManyLocks as proved
use Rattle.st_laws_volume.proofs.too_many_locks_are_taken.Goals as goal

pub returns : goal.returns
returns c = proved.too_many_answers_are_taken every_run
