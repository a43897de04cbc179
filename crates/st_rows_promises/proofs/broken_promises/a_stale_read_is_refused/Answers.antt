use Rattle.st_rows_promises.specs.BrokenPromises.{broken_open}
use Rattle.st_rows_promises.proofs.Pages.{zeros_differ}
use Rattle.st_rows_promises.proofs.broken_promises.a_stale_read_is_refused.Goals as goal

pub returns-clause-broken : goal.returns-clause-broken
unfolding broken_open
returns-clause-broken c = λ h. zeros_differ h.0
