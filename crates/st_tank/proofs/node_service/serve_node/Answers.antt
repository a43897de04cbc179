use Rattle.st_tank.specs.Uses.{clock_use, link_use, stream_use}
use Rattle.st_tank.proofs.NodeTold.{is_served}
use Rattle.st_tank.proofs.node_service.serve_node.Goals as goal

pub returns : goal.returns
returns g c =
    is_served c.args.id c.args.name.now c.start_and_serve-ended.result c.tell-said.result.0 c.tell-said.result.1
    (stream_use g.E.Sink.written g.E.Sink.faults c.args.err.now c.tell-said.new.err)
    (link_use g.L.Source.left g.L.Sink.written g.L.Link.attached g.L.Source.faults c.args.link.now c.start_and_serve-ended.new.link)
    (clock_use g.C.Clock.readings c.args.clock.now c.start_and_serve-ended.new.clock) c.whole_frames_run_through.ensures c.tell-said.ensures.may
    c.start_and_serve-ended.ensures.run c.start_and_serve-ended.ensures.causes c.tell-said.ensures.told c.start_and_serve-ended.ensures.names
