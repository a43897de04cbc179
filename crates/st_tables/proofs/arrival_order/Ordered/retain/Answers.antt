use Rattle.std.proofs.Common.{◌+◌, ◌<◌, ◌∙◌, if◌then◌else◌, length, arith}
use Rattle.std.specs.Prelude.{remove}
use Rattle.st_tables.proofs.PassingValues.{passes_at, sift_list, sift_count}
use Rattle.st_tables.proofs.arrival_order.Ordered.retain.Goals as goal

pub loop-i-preserved : goal.loop-i-preserved
loop-i-preserved g c =
    let p = g.T.Test.passes c.args.test.now in
    let l : c.loop-i._i < length c.args.self.now = omega (arith, c.loop-i-test.true, c.len-count.ensures.len) in
    record {
      left = c.keep-place.ensures.left
          ∙ (λ j. if passes_at p (c.loop-i.invariant.left j) (c.loop-i.invariant.place j) then c.loop-i.invariant.left j else remove (c.loop-i.invariant.left j) (c.loop-i.invariant.place j))
          ∙ sift_list p c.args.self.now c.loop-i._i l;
      place = c.keep-place.ensures.next
          ∙ (λ j. if passes_at p (c.loop-i.invariant.left j) (c.loop-i.invariant.place j) then c.loop-i.invariant.place j + 1 else c.loop-i.invariant.place j)
          ∙ sift_count p c.args.self.now c.loop-i._i l;
    }
