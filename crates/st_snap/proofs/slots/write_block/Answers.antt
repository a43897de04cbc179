use Rattle.st_lemmas.proofs.Words
use Words.{sym, ◌∙◌}
use Rattle.st_snap.proofs.Written.{written}
use Rattle.st_snap.proofs.slots.write_block.Goals as goal

pub returns-clause-ok : goal.returns-clause-ok
returns-clause-ok c =
    written c.args.disks.now c.submit.new.self c.effect.new.self c.done-reported.new.self c.in_ok-number.number c.args.at c.args.tag c.args.bytes c.effect.result c.done-reported.result
    c.in_ok-number.ensures.ok c.in_ok-number.ensures.number c.effect.ensures.exact (sym c.is_err.ensures.value ∙ c.if-is_err.false) c.done-reported.ensures.exact c.done-reported.ensures.err
