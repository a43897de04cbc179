use Rattle.std.proofs.Common.{◌∙◌, rules, ap}
use Rattle.std.specs.Prelude.{not}
use Rattle.std.proofs.lemmas.Fn.{filter_same}
use Rattle.std.specs.List.{list_any}
use Rattle.st_rules.specs.Keys.{same_client}
use Rattle.st_lock_tables.specs.DemandStarts.{wait_order}
use Rattle.st_lock_tables.proofs.SinceKeys.{kept_others}
use Rattle.std.specs.Ordering.{is_eq}
use Rattle.st_lock_tables.proofs.unanswered.forget.Goals as goal

pub returns : goal.returns
returns c = λ s i d.
    ap (list_any (λ q. is_eq (wait_order (s, i, d) q))) (filter_same _ (λ q. not (same_client q.2 c.args.client)) _ (λ x b q k. search rules) _ _ c.retain.ensures.filtered)
    ∙ kept_others c.args.client (s, i, d) c.args.set.now.keys
