use Rattle.st_laws_pages.proofs.LockedCuts.CutLaw.{steps_lock_cuts}
use Rattle.st_laws_pages.proofs.Disks.Whole.{cuts_law}
use Rattle.st_laws_pages.proofs.cuts_are_locked.Goals as goal

pub returns-clause-steps : goal.returns-clause-steps
returns-clause-steps c = steps_lock_cuts

pub returns-clause-runs : goal.returns-clause-runs
returns-clause-runs c = cuts_law
