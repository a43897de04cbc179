use Rattle.std.proofs.Common.{◌≡◌, ◌∙◌, ℕ, List, subst}
use Rattle.std.specs.Prelude.{IfOk}
use Rattle.std.specs.List.{flat_map}
use Rattle.st_due.specs.Moments.{earliest, readable_by}
use Rattle.st_due.specs.ServerDue.{demands_at, demands_on}
use Rattle.st_rules.specs.Locks.{Locks}
use Rattle.st_locks.proofs.lock_table.LockTable.first_demand.Goals as goal

pub returns : goal.returns
returns c =
    subst (λ (l : Locks). IfOk c.first_demand.result (λ o. o ≡ readable_by (earliest (demands_at c.args.config.now l c.args.suspects.now)))) c.self.view_is
    (subst (λ (inos : List ℕ). IfOk c.first_demand.result (λ o. o ≡ readable_by (earliest (flat_map (demands_on c.args.config.now c.self.inside.parts.table c.args.suspects.now) inos))))
    (c.as_slice.ensures.value ∙ c.in_ok-files.ensures) c.first_demand.ensures)
