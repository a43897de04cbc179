use Rattle.std.proofs.Common.{◌≡◌}
use Rattle.std.specs.Prelude.{filter_map}
use Rattle.st_due.specs.Moments.{earliest, readable_by, sooner}
use Rattle.st_lock_tables.specs.Overdue.{overdue_wait}
use Rattle.st_lock_tables.proofs.due.first_wait.Given as goal

abbrev pub invariant-loop-demand : goal.invariant-loop-demand
invariant-loop-demand l =
    sooner l.first (readable_by (earliest (filter_map (overdue_wait l.config l.suspects) l.demand-iterator)))
    ≡ readable_by (earliest (filter_map (overdue_wait l.config l.suspects) l.waits.keys))
