use Rattle.std.proofs.Common.{◌≡◌, take, drop}
use Rattle.st_rules.specs.ClientPasses.{first_asking}
use Rattle.st_client_passes.specs.Requests.{behind_all}
use Rattle.st_client_passes.proofs.next_request.first_asking.Given as goal

abbrev pub invariant-loop-i : goal.invariant-loop-i
invariant-loop-i l = behind_all (take l.i l.t.operations) (first_asking l.t l.session.session l.now (drop l.i l.t.operations)) ≡ first_asking l.t l.session.session l.now l.t.operations
