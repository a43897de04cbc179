use Rattle.std.proofs.Common.{◌-◌, ◌∙◌, length, sym, arith}
use Rattle.st_rules.specs.FlatLog as flat_log
use Rattle.st_model.proofs.Placed.{back_found, back_more}
use Rattle.st_model.proofs.pages.last_among.Goals as goal

pub returns-then-matters : goal.returns-then-matters
returns-then-matters c = back_found (flat_log.matters c.args.file c.args.page) c.args.entries.now c.args.places.now c.loop-i.i c.index-entries-k.result c.loop-i-test.true
    (c.requires (length c.args.places.now - 1 - c.loop-i.i) (omega (arith, c.loop-i-test.true))) c.index-entries-k.is (sym c.matters.ensures ∙ c.if-matters.true) c.loop-i.invariant

pub loop-i-preserved : goal.loop-i-preserved
loop-i-preserved c = back_more (flat_log.matters c.args.file c.args.page) c.args.entries.now c.args.places.now c.loop-i.i c.index-entries-k.result c.loop-i-test.true
    (c.requires (length c.args.places.now - 1 - c.loop-i.i) (omega (arith, c.loop-i-test.true))) c.index-entries-k.is (sym c.matters.ensures ∙ c.if-matters.false) c.loop-i.invariant
