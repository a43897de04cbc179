use Rattle.std.proofs.Common.{◌∙◌, sym}
use Rattle.std.specs.Prelude.{◌||◌}
use Rattle.std.proofs.lemmas.List.Folds.{list_any_more}
use Rattle.st_due.specs.ServerDue.{may_grant_on}
use Rattle.st_lock_tables.proofs.table.PlainTable.may_grant_one.Goals as goal

pub loop-ino-preserved : goal.loop-ino-preserved
loop-ino-preserved c =
    c.either-found.ensures ∙ (λ j. c.loop-ino.invariant j || c.may_grant_on.ensures j)
    ∙ sym (list_any_more (may_grant_on c.args.self.now) c.args.files.now c.loop-ino.ino-index 0 c.loop-ino-test.true)
