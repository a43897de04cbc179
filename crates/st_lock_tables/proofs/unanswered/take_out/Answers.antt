use Rattle.std.proofs.Common.{◌∙◌, sym, ap}
use Rattle.std.specs.Prelude.{◌&&◌, ◌==◌, not}
use Rattle.std.specs.BTreeSet.{contains}
use Rattle.st_rules.specs.Keys.{same_client}
use Rattle.st_lock_tables.specs.DemandStarts.{wait_order, is_since}
use Rattle.st_lock_tables.proofs.SinceKeys.{taken}
use Rattle.st_lock_tables.proofs.unanswered.take_out.Goals as goal

pub returns-in-Some : goal.returns-in-Some
returns-in-Some c = λ s i d.
    c.remove.ensures.updates.0 (s, i, d) ∙ taken (c.in-Some.since, c.args.ino, c.args.client) (s, i, d) (contains wait_order c.args.set.now (s, i, d))
    ∙ ap (λ o. contains wait_order c.args.set.now (s, i, d) && not (is_since s o && (same_client d c.args.client && (i == c.args.ino)))) (sym c.in-Some.is)
