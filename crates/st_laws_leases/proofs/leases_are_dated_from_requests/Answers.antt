use Rattle.st_laws_leases.proofs.Dates.Law.{leases_are_dated}
use Rattle.st_laws_leases.proofs.leases_are_dated_from_requests.Goals as goal

pub returns : goal.returns
returns c = leases_are_dated
