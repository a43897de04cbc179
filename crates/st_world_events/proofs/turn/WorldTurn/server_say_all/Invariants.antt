use Rattle.std.proofs.Common.{◌≡◌, ◌+◌, ◌<◌, ◌^◌, ◌-◌, length, true, vec_len}
use Rattle.std.specs.List.{list_all}
use Rattle.st_rules.specs.Events.{server_says_all}
use Rattle.st_server.specs.Invariants.{is_sent}
use Rattle.st_world_events.proofs.turn.WorldTurn.server_say_all.Given as goal

abbrev pub invariant-loop-server : goal.invariant-loop-server
invariant-loop-server l = record {
  so_far : server_says_all l.server l.outputs.items l.self ≡ server_says_all l.server l.fn.outputs l.fn.self;
  stolen : l.self.world.tally.stolen + length l.outputs.items < 2 ^ 64 - 1;
  sent : list_all is_sent l.outputs.items ≡ true;
}

abbrev pub decreases-loop-server : goal.decreases-loop-server
decreases-loop-server l = vec_len l.outputs
