use Rattle.st_laws_third.proofs.Rules.{rules_are_changes}
use Rattle.st_laws_third.proofs.law.third_rules_are_changes.Goals as goal

pub returns : goal.returns
returns c = rules_are_changes
