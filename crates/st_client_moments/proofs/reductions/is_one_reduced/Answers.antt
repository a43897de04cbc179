use Rattle.std.proofs.Common.{◌∙◌, sym}
use Rattle.std.specs.Prelude.{◌||◌}
use Rattle.std.proofs.lemmas.List.Folds.{list_any_more}
use Rattle.st_client_due.specs.ClientDue.{is_reduced}
use Rattle.st_client_moments.proofs.reductions.is_one_reduced.Goals as goal

pub loop-ino-preserved : goal.loop-ino-preserved
loop-ino-preserved c =
    c.either-found.ensures ∙ (λ j. c.loop-ino.invariant j || c.is_reduced.ensures j)
    ∙ sym (list_any_more (is_reduced c.args.t.now c.args.session.now.session) c.args.files.now c.loop-ino.ino-index 0 c.loop-ino-test.true)
