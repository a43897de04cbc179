use Rattle.std.specs.List.{flat_map}
use Rattle.std.specs.Prelude.{◌||◌, ◌++◌}
use Rattle.st_client_due.specs.ClientDue.{asked_during, has_release, kept_alive}
use Rattle.st_client_due.specs.Spans.{from_on, if_so}
use Rattle.st_client_moments.proofs.SpanMoments.{joined}
use Rattle.st_client_moments.proofs.requests.new_request_due.Goals as goal

pub returns : goal.returns
returns c =
    let t = c.args.t.now in
    let s = c.args.session.now.session in
    let asks = flat_map (asked_during t s) t.operations in
    let rest = kept_alive t.config s.lease in
    joined c.args.from (if_so (s.due || has_release s.releases) (from_on 0)) (asks ++ rest) _ _ _ c.sooner-2.ensures c.duty_due-duty.ensures
    (joined c.args.from asks rest _ _ _ c.sooner.ensures c.asks_due-asks.ensures c.keep_alive_due-keep_alive.ensures)
