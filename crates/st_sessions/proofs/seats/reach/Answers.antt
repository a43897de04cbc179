use Rattle.std.proofs.Common.{length, ◌≤◌, ◌+◌, arith}
use Rattle.st_sessions.proofs.Seated.{widened}
use Rattle.st_sessions.proofs.seats.reach.Goals as goal

pub returns-in_ok-resize-clause-same : goal.returns-in_ok-resize-clause-same
returns-in_ok-resize-clause-same c =
    let short : length c.args.seats.now.items ≤ c.args.client.0 + 1 = omega (arith, c.if-len-room.true, c.len.ensures) in
    widened c.args.seats.now.items c.resize.new.self.items (c.args.client.0 + 1) _ short c.in_ok-resize.ensures.items
