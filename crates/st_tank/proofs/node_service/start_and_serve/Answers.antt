use Rattle.st_tank.specs.NodeWords.{started_run}
use Rattle.st_tank.proofs.NodeTold.{nothing_made}
use Rattle.st_tank.proofs.node_service.start_and_serve.Goals as goal

pub returns-in-Err-clause-run : goal.returns-in-Err-clause-run
returns-in-Err-clause-run g c =
    nothing_made (g.L.Source.left c.args.link.now) (g.L.Sink.written c.args.link.now) (g.C.Clock.readings c.args.clock.now) (started_run c.args.id)
