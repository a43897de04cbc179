use Rattle.st_journal.proofs.Counters.{fits_ranged}
use Rattle.st_stable_file.proofs.change.apply_change.Goals as goal

pub apply-requires-clause-ranges : goal.apply-requires-clause-ranges
apply-requires-clause-ranges c = fits_ranged c.args.change.now c.requires
