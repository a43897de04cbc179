use Rattle.std.proofs.Common.{◌-◌, ◌∙◌, length, refl, sym, arith}
use Rattle.st_model.proofs.Contents.{skips_to}
use Rattle.st_model.proofs.pages.last_write.Goals as goal

pub returns-then-covers-clause-skips : goal.returns-then-covers-clause-skips
returns-then-covers-clause-skips c = skips_to c.args.file c.args.page c.args.from c.args.entries.now c.args.places.now (length c.args.places.now - 1 - c.loop-i.i) _ c.index-entries-k.result
    (omega (arith, c.loop-i-test.true)) refl (c.requires (length c.args.places.now - 1 - c.loop-i.i) (omega (arith, c.loop-i-test.true))) c.index-entries-k.is (sym c.covers.ensures ∙ c.if-covers.true)
