use Rattle.st_laws_reads.proofs.Copies.Held.{changes_are_held}
use Rattle.st_laws_reads.proofs.changes_are_held.Goals as goal

pub returns : goal.returns
returns c = changes_are_held
