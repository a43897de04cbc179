use Rattle.std.proofs.Common.{◌^◌, ◌+◌, length}
use Rattle.st_world_parts.proofs.Later.{clock_low}
use Rattle.st_rules.specs.World.{node_of}
use Rattle.st_world_events.proofs.Dispatched.{node_stopped}
use Rattle.st_world_events.proofs.turn.WorldTurn.restart_server.Goals as goal

pub start_server-requires-clause-time : goal.start_server-requires-clause-time
start_server-requires-clause-time c =
    clock_low (length c.args.self.now.world.clients + c.args.server.0) (2 ^ 62) c.args.self.now.world.clocks c.requires.ready.clocks

pub start_server-requires-clause-crashed : goal.start_server-requires-clause-crashed
start_server-requires-clause-crashed c = λ node e. node_stopped (node_of c.args.self.now.world c.args.server) node c.requires.stopped e
