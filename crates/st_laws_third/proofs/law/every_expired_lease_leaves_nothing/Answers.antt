use Rattle.st_laws_third.proofs.Expiry.{every_expired_lease_leaves_nothing}
use Rattle.st_laws_third.proofs.law.every_expired_lease_leaves_nothing.Goals as goal

pub returns : goal.returns
returns c = every_expired_lease_leaves_nothing
