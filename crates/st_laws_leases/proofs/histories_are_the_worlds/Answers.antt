use Rattle.st_laws_leases.proofs.History.Law.{histories_are_the_worlds}
use Rattle.st_laws_leases.proofs.histories_are_the_worlds.Goals as goal

pub returns : goal.returns
returns c = histories_are_the_worlds
