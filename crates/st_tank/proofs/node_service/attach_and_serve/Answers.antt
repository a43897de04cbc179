use Rattle.std.proofs.Common.{subst}
use Rattle.st_node.specs.Service.{HasCauses}
use Rattle.st_tank.specs.NodeWords.{started_run}
use Rattle.st_tank.proofs.NodeTold.{attached_at, attached_writes, unattached_writes}
use Rattle.st_tank.proofs.node_service.attach_and_serve.Goals as goal

pub returns-in-Ok-clause-run : goal.returns-in-Ok-clause-run
returns-in-Ok-clause-run g c =
    attached_writes c.serve.result (g.L.Source.left c.args.link.now) (g.L.Source.left c.attach.new.self) (g.L.Sink.written c.args.link.now)
    (g.L.Sink.written c.attach.new.self) (g.L.Sink.written c.serve.new.link) (g.C.Clock.readings c.args.clock.now) (g.C.Clock.readings c.serve.new.clock) c.args.id c.args.node.now c.serve.new.node
    c.attach.ensures.left c.attach.ensures.written c.requires.started c.serve.ensures.run

pub returns-in-Ok-clause-causes : goal.returns-in-Ok-clause-causes
returns-in-Ok-clause-causes g c =
    subst (λ n. HasCauses c.serve.result n (g.L.Source.faults c.serve.new.link)) c.in-Ok.ensures.cause.still c.serve.ensures.causes

pub returns-in-Err-clause-run : goal.returns-in-Err-clause-run
returns-in-Err-clause-run g c =
    unattached_writes (g.L.Source.left c.args.link.now) (g.L.Sink.written c.args.link.now) (g.L.Sink.written c.attach.new.self)
    (g.C.Clock.readings c.args.clock.now) (started_run c.args.id) c.attach.ensures.written

pub returns-in-Ok-clause-names : goal.returns-in-Ok-clause-names
returns-in-Ok-clause-names g c =
    attached_at c.serve.result (g.L.Link.attached c.args.link.now) (g.L.Link.attached c.attach.new.self) (g.L.Link.attached c.serve.new.link) c.args.name.now
    c.in-Ok.ensures.called c.serve.ensures.names
