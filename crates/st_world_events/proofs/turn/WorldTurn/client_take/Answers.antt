use Rattle.std.proofs.Common.{◌≡◌, ◌^◌, ap, ◌∙◌, length, arith}
use Rattle.st_world_parts.proofs.Later.{clock_low}
use Rattle.st_rules.specs.Events.{world_turn}
use Rattle.st_rules.specs.World.{numbered}
use Rattle.st_world_events.specs.Indexes.{index_at}
use Rattle.st_world_events.proofs.Dispatched.{client_none}
use Rattle.st_world_events.proofs.Numbers.{index_none}
use Rattle.st_world_events.proofs.turn.WorldTurn.client_take.Goals as goal

pub client_take_at-requires-clause-time : goal.client_take_at-requires-clause-time
client_take_at-requires-clause-time c =
    clock_low (c.args.client.0) (2 ^ 62) c.args.self.now.world.clocks c.requires.ready.clocks

pub returns-in-None : goal.returns-in-None
returns-in-None c =
    let w = c.args.self.now.world in
    let len : c.len.result ≡ length w.clients = omega (arith, c.len.ensures, c.self.inside.clients.ok.0, ap (λ s. length s.world.clients) c.self.view_is) in
    ap (λ xs. world_turn w xs) c.requires.begins
    ∙ client_none w c.args.client c.args.input (numbered w.clients c.args.client.0) (index_none w.clients c.args.client.0 (c.in-None.ensures ∙ ap (index_at c.args.client.0) len))
