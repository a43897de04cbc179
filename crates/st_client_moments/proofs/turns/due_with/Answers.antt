use Rattle.std.specs.Prelude.{◌∷◌, [], ◌++◌}
use Rattle.st_client_due.specs.ClientDue.{lease_end_at, reductions_during, requests_during, writes_during}
use Rattle.st_client_due.specs.Spans.{from_on}
use Rattle.st_client_moments.proofs.SpanMoments.{joined}
use Rattle.st_client_moments.proofs.turns.due_with.Goals as goal

pub returns : goal.returns
returns c =
    let t = c.args.t.now in
    let s = c.args.session.now.session in
    let reductions = reductions_during t s in
    let writes = writes_during t s in
    let requests = requests_during t s in
    joined c.args.from (from_on (lease_end_at t.config s.lease) ∷ []) (reductions ++ (writes ++ requests)) _ _ _ c.sooner-3.ensures c.end_due-end.ensures
    (joined c.args.from reductions (writes ++ requests) _ _ _ c.sooner-2.ensures c.in_ok-reductions.ensures
    (joined c.args.from writes requests _ _ _ c.sooner.ensures c.in_ok-writes.ensures c.requests_due-requests.ensures))
