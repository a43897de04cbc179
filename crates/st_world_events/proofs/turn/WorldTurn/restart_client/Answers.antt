use Rattle.st_rules.specs.World.{site_of}
use Rattle.st_world_events.proofs.Dispatched.{site_stopped}
use Rattle.st_world_events.proofs.turn.WorldTurn.restart_client.Goals as goal

pub start_client-requires : goal.start_client-requires
start_client-requires c = record { crashed = λ site e. site_stopped (site_of c.args.self.now.world c.args.client) site c.requires.stopped e }
