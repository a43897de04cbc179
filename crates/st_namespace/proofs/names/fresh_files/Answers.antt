use Rattle.std.proofs.Common.{◌≡◌, ◌-◌, ◌++◌, ◌∷◌, [], ap, arith, ◌∙◌}
use Rattle.st_namespace.proofs.FreshFiles.{files, files_are, files_fresh, files_high, files_more}
use Rattle.st_namespace.proofs.names.fresh_files.Goals as goal

pub push-requires-clause-high : goal.push-requires-clause-high
push-requires-clause-high c = rw (c.loop-ino.invariant, c.in_ok-fresh_file.ensures) (files_high (c.loop-ino.ino - 2) c.loop-ino.ino (omega (arith, c.loop-ino.auto.ino)))

pub push-requires-clause-fresh : goal.push-requires-clause-fresh
push-requires-clause-fresh c = rw (c.loop-ino.invariant, c.in_ok-fresh_file.ensures) (files_fresh (c.loop-ino.ino - 2) c.loop-ino.ino (omega (arith, c.loop-ino.auto.ino)))

pub loop-ino-preserved : goal.loop-ino-preserved
loop-ino-preserved c = c.in_ok-push.ensures.ok ∙ (λ i. c.loop-ino.invariant i ++ c.in_ok-fresh_file.ensures i ∷ []) ∙ files_more c.loop-ino.ino (omega (arith, c.loop-ino.auto.ino))

pub returns : goal.returns
returns c =
    let all : c.loop-ino.ino - 2 ≡ 8 = omega (arith, c.loop-ino.auto.ino-end, c.loop-ino-test.false) in
    c.loop-ino.invariant ∙ ap files all ∙ files_are
