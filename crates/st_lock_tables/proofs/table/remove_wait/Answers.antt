use Rattle.std.proofs.Common.{◌∙◌, sym, arith, filter, length, le-ltb}
use Rattle.std.specs.Prelude.{◌==◌}
use Rattle.std.proofs.lemmas.Bool.{and_parts}
use Rattle.st_rules.specs.Keys.{same_client}
use Rattle.st_rules.specs.Locks.{is_wait_by, is_wait_of}
use Rattle.st_lock_tables.proofs.FoundRows.{all_stay, any_counted}
use Rattle.st_lock_tables.proofs.table.remove_wait.Goals as goal

pub returns-else-count-gt0 : goal.returns-else-count-gt0
returns-else-count-gt0 c =
    sym (all_stay (is_wait_by c.args.client) (is_wait_of c.args.client c.args.ino) (λ w e. (and_parts (same_client w.client c.args.client) (w.ino == c.args.ino) e).0) c.args.waits.now
    (sym (any_counted (is_wait_by c.args.client) c.args.waits.now) ∙ le-ltb 0 (length (filter (is_wait_by c.args.client) c.args.waits.now)) (omega (arith, c.count.ensures, c.if-count-gt0.false))))
