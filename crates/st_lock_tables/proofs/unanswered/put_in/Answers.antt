use Rattle.std.proofs.Common.{◌∙◌, sym, ap}
use Rattle.std.specs.Prelude.{◌&&◌, ◌||◌, ◌==◌}
use Rattle.std.specs.BTreeSet.{contains}
use Rattle.st_rules.specs.Keys.{same_client}
use Rattle.st_lock_tables.specs.DemandStarts.{is_since, wait_order}
use Rattle.st_lock_tables.proofs.SinceKeys.{put, none_put}
use Rattle.st_lock_tables.proofs.unanswered.put_in.Goals as goal

pub returns-in-None-clause-ok : goal.returns-in-None-clause-ok
returns-in-None-clause-ok c = λ s i d.
    none_put (contains wait_order c.args.set.now (s, i, d)) (same_client d c.args.client && (i == c.args.ino))
    ∙ ap (λ o. contains wait_order c.args.set.now (s, i, d) || (is_since s o && (same_client d c.args.client && (i == c.args.ino)))) (sym c.in-None.is)

pub returns-in_ok-insert-in-Some-clause-ok : goal.returns-in_ok-insert-in-Some-clause-ok
returns-in_ok-insert-in-Some-clause-ok c = λ s i d.
    c.in_ok-insert-in-Some.ensures.updates.0 (s, i, d) ∙ put (c.in-Some.since, c.args.ino, c.args.client) (s, i, d) (contains wait_order c.args.set.now (s, i, d))
    ∙ ap (λ o. contains wait_order c.args.set.now (s, i, d) || (is_since s o && (same_client d c.args.client && (i == c.args.ino)))) (sym c.in-Some.is)
