use Rattle.std.proofs.Common.{◌≡◌, map, take}
use Rattle.st_due.specs.Moments.{earliest, readable_by}
use Rattle.st_due.specs.ServerDue.{theft_of}
use Rattle.st_lease_server.proofs.authority.Authority.first_theft.Given as goal

abbrev pub invariant-loop-timer : goal.invariant-loop-timer
invariant-loop-timer l = l.first ≡ readable_by (earliest (map (theft_of l.self.wait) (take l.timer-index l.timer-items)))
