use Rattle.st_third_codec.proofs.Versions.{third_is_refused, first_is_refused}
use Rattle.st_third_codec.proofs.law.versions_are_apart.Goals as goal

pub returns-clause-third : goal.returns-clause-third
returns-clause-third c = third_is_refused

pub returns-clause-first : goal.returns-clause-first
returns-clause-first c = first_is_refused
