use Rattle.std.proofs.Common.{rules}
use Rattle.std.proofs.lemmas.List.Sorted.{IsNonDecreasingBy-from_sort_by_key}
use Rattle.st_extents.specs.Runs.{birth_of}
use Rattle.st_extents.proofs.runs.by_birth.Goals as goal

pub returns-clause-rising : goal.returns-clause-rising
returns-clause-rising c = IsNonDecreasingBy-from_sort_by_key birth_of _ c.sort_unstable_by_key.ensures.sorted (λ a r q k. search rules)
