use Rattle.st_laws_third.proofs.HardEntries.{every_hard_entry_stays}
use Rattle.st_laws_third.proofs.law.every_hard_entry_stays.Goals as goal

pub returns : goal.returns
returns c = every_hard_entry_stays
