use Rattle.st_laws_entries.proofs.Granted.{granted_law}
use Rattle.st_laws_entries.proofs.entries_are_granted.Goals as goal

pub returns : goal.returns
returns c = granted_law
