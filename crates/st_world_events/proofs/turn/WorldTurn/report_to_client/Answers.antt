use Rattle.std.proofs.Common.{◌^◌}
use Rattle.st_world_parts.proofs.Later.{clock_low}
use Rattle.st_world_events.proofs.turn.WorldTurn.report_to_client.Goals as goal

pub client_take_at-requires-clause-time : goal.client_take_at-requires-clause-time
client_take_at-requires-clause-time c = clock_low c.args.command.client.0 (2 ^ 62) c.args.self.now.world.clocks c.requires.ready.clocks
