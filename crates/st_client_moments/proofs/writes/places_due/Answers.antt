use Rattle.std.proofs.Common.{◌∙◌}
use Rattle.st_client_due.specs.ClientDue.{place_during}
use Rattle.st_client_moments.proofs.SpanMoments.{first_more}
use Rattle.st_client_moments.proofs.writes.places_due.Goals as goal

pub loop-place-preserved : goal.loop-place-preserved
loop-place-preserved c =
    c.sooner-first.ensures
    ∙ first_more (place_during c.args.t.now c.args.session.now.session) c.args.from c.args.places.now c.loop-place.place-index (0, record { 0 = 0 }) c.loop-place.first c.place_due.result
    c.loop-place-test.true c.loop-place.invariant c.place_due.ensures
