use Rattle.std.proofs.Common.{◌≡◌, ◌+◌, ◌∙◌, ap, arith, drop, length}
use Rattle.std.specs.Prelude.{filter}
use Rattle.st_world_parts.specs.Sorts.{one_if, picks, picks_by}
use Rattle.st_world_parts.proofs.Sums.{counted_all, counted_next}
use Rattle.st_world_parts.proofs.counts.count_of.Goals as goal

pub loop-i-preserved : goal.loop-i-preserved
loop-i-preserved c =
    let z : c.one_if-found.result ≡ one_if (picks_by c.args.sort c.entry-head.result c.fate-fate.result) = c.one_if-found.ensures.exact ∙ ap one_if c.picks.ensures in (
      omega (arith, c.loop-i.invariant.0, c.one_if-found.ensures.most),
      ap (λ k. c.loop-i.found + k + length (filter (picks c.args.sort) (drop (c.loop-i.i + 1) c.args.log.now))) z
          ∙ counted_next c.args.sort c.args.log.now c.loop-i.i c.loop-i.found c.entry-head.result c.fate-fate.result _ c.entry-head.ensures c.fate-fate.ensures c.loop-i.invariant.1,
    )

pub returns : goal.returns
returns c = counted_all c.args.sort c.args.log.now c.loop-i.i c.loop-i.found _ (omega (arith, c.loop-i-test.false, c.count-i-end.ensures)) c.loop-i.invariant.1
