use Rattle.std.proofs.Common.{◌≡◌, ◌∷◌, ◌∙◌, sym, ap}
use Rattle.std.specs.Prelude.{filter_map}
use Rattle.std.specs.Map.Iter.{deref}
use Rattle.std.proofs.lemmas.Map.Iter.{rest_more}
use Rattle.st_due.proofs.EarliestFound.{rest_filtered}
use Rattle.st_due.specs.Moments.{earliest, readable_by, sooner}
use Rattle.st_lock_tables.specs.Overdue.{overdue_wait}
use Rattle.st_lock_tables.proofs.due.first_wait.Goals as goal

pub loop-demand-preserved : goal.loop-demand-preserved
loop-demand-preserved c =
    let e : c.loop-demand.demand-iterator ≡ c.in-Some.demand.now ∷ c.next.new.self = rest_more deref _ _ _ c.in-Some.demand c.in-Some.is c.next.ensures.steps in
    let f = overdue_wait c.args.config.now c.args.suspects.now in
    ap (λ o. sooner o (readable_by (earliest (filter_map f c.next.new.self)))) c.sooner-first.ensures
    ∙ rest_filtered f c.in-Some.demand.now c.next.new.self c.loop-demand.first c.overdue_wait.result c.overdue_wait.ensures
    ∙ ap (λ xs. sooner c.loop-demand.first (readable_by (earliest (filter_map f xs)))) (sym e)
    ∙ c.loop-demand.invariant
