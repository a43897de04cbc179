use Rattle.st_lemmas.proofs.Words
use Words.{rules}
use Rattle.std.proofs.lemmas.Fn.{filter_same}
use Rattle.st_lock_cache.proofs.demands.drop_demand.Goals as goal

pub returns-clause-left : goal.returns-clause-left
returns-clause-left c = filter_same _ _ _ (λ x b q k. search rules) _ _ c.retain.ensures.filtered
