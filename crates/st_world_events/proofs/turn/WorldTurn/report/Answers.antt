use Rattle.std.proofs.Common.{subst, sym}
use Rattle.st_rules.specs.Events.{WorldTurn}
use Rattle.st_world_events.specs.Readiness.{IsReady}
use Rattle.st_world_events.proofs.turn.WorldTurn.report.Goals as goal

pub tell-requires-clause-ready : goal.tell-requires-clause-ready
tell-requires-clause-ready c =
    let r = subst (λ (s : WorldTurn). IsReady s.world) (sym c.self.view_is) c.requires.ready in
    record { some = r.some; few = r.few; clients = r.clients; clocks = r.clocks; reads = r.reads; stolen = r.stolen }
