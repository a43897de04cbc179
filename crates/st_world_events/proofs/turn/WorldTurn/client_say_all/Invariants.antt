use Rattle.std.proofs.Common.{◌≡◌, ◌+◌, ◌<◌, ◌≤◌, ◌^◌, ◌-◌, length, true, vec_len}
use Rattle.std.specs.List.{list_all}
use Rattle.st_client.specs.Inputs.{is_sent}
use Rattle.st_rules.specs.ClientState.{ClientState}
use Rattle.st_rules.specs.Events.{client_says_all}
use Rattle.st_world_events.specs.Ends.{HasEnds}
use Rattle.st_world_events.specs.OutputEffects.{SameNodes}
use Rattle.st_world_events.proofs.turn.WorldTurn.client_say_all.Given as goal

abbrev pub invariant-loop-client : goal.invariant-loop-client
invariant-loop-client l = record {
  so_far : (before : ClientState) → HasEnds before l.ends → client_says_all l.client before l.outputs.items l.self ≡ client_says_all l.client before l.fn.outputs l.fn.self;
  some : 1 ≤ length l.self.world.servers;
  few : length l.self.world.servers ≤ 4;
  reads : l.self.world.tally.reads + length l.outputs.items < 2 ^ 64 - 1;
  kept : SameNodes l.fn.self l.self;
  sent : list_all is_sent l.outputs.items ≡ true;
}

abbrev pub decreases-loop-client : goal.decreases-loop-client
decreases-loop-client l = vec_len l.outputs
