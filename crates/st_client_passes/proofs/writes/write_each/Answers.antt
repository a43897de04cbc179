use Rattle.std.proofs.Common.{◌∙◌}
use Rattle.st_client_passes.proofs.Writing.{same_more, written_more}
use Rattle.st_client_passes.proofs.writes.write_each.Goals as goal

pub loop-place-preserved : goal.loop-place-preserved
loop-place-preserved c = record {
  done =
      written_more c.args.t.now c.loop-place.t c.write_page.new.t c.args.now c.args.tick c.loop-place.invariant.same c.args.places.now c.loop-place.place-index _ c.loop-place-test.true c.in_ok-write_page.ensures
      ∙ c.loop-place.invariant.done;
  same = same_more c.args.t.now c.loop-place.t c.write_page.new.t c.args.now c.args.tick c.loop-place.invariant.same _ c.in_ok-write_page.ensures;
}
