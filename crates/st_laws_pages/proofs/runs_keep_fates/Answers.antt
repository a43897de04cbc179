use Rattle.st_laws_pages.proofs.Disks.Whole.{fates_law, told_law}
use Rattle.st_laws_pages.proofs.runs_keep_fates.Goals as goal

pub returns-clause-fates : goal.returns-clause-fates
returns-clause-fates c = fates_law

pub returns-clause-told : goal.returns-clause-told
returns-clause-told c = told_law
