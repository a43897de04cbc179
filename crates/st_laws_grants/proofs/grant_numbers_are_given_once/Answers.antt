use Rattle.st_laws_grants.proofs.Law.{grant_numbers_are_given_once}
use Rattle.st_laws_grants.proofs.grant_numbers_are_given_once.Goals as goal

pub returns : goal.returns
returns c = grant_numbers_are_given_once
