use Rattle.std.proofs.Common.{◌∙◌, sym, arith}
use Rattle.st_client_passes.proofs.Remaining.{remaining, remaining_all, remaining_next, remaining_none}
use Rattle.st_client_passes.proofs.operations.operate_each.Goals as goal

pub loop-place-preserved : goal.loop-place-preserved
loop-place-preserved c = record {
  none = c.in_ok-stays.ensures.left ∙ c.loop-place.invariant.none;
  rest =
      (λ i. remaining c.args.sent.now c.args.now (c.settle-place.ensures.next i) (c.settle-place.ensures.left i) c.stays_at.new.t)
      ∙ remaining_next c.args.sent.now c.args.now c.loop-place.all c.loop-place.place c.loop-place.t c.stays_at.new.t c.in_ok-stays.stays
      c.loop-place.invariant.none c.in_ok-stays.ensures.left (omega arith) c.in_ok-stays.ensures.stays
      ∙ c.loop-place.invariant.rest;
}

pub returns : goal.returns
returns c =
    sym (remaining_none c.args.sent.now c.args.now c.loop-place.all c.loop-place.place c.loop-place.t (omega arith))
    ∙ c.loop-place.invariant.rest
    ∙ remaining_all c.args.sent.now c.args.now c.args.all.now c.args.t.now c.requires
