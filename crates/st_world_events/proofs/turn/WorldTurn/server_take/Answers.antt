use Rattle.std.proofs.Common.{◌≡◌, ◌+◌, ◌^◌, ap, sym, subst, ◌∙◌, length, refl, arith}
use Rattle.std.specs.Prelude.{OnOk, slice_get}
use Rattle.st_world_parts.proofs.Later.{clock_low}
use Rattle.st_rules.specs.Events.{at_server, world_turn}
use Rattle.st_rules.specs.World.{numbered}
use Rattle.st_world_events.specs.Indexes.{index_at}
use Rattle.st_world_events.proofs.Dispatched.{server_none, server_some}
use Rattle.st_world_events.proofs.Numbers.{index_none, index_some, numbered_there}
use Rattle.st_world_events.proofs.turn.WorldTurn.server_take.Goals as goal

pub server_take_at-requires-clause-time : goal.server_take_at-requires-clause-time
server_take_at-requires-clause-time c =
    clock_low (length c.args.self.now.world.clients + c.args.server.0) (2 ^ 62) c.args.self.now.world.clocks c.requires.ready.clocks

pub returns-in-None : goal.returns-in-None
returns-in-None c =
    let w = c.args.self.now.world in
    let len : c.len.result ≡ length w.servers = omega (arith, c.len.ensures, c.self.inside.servers.ok.0, ap (λ s. length s.world.servers) c.self.view_is) in
    ap (λ xs. world_turn w xs) c.requires.begins
    ∙ server_none w c.args.server c.args.input (numbered w.servers c.args.server.0) (index_none w.servers c.args.server.0 (c.in-None.ensures ∙ ap (index_at c.args.server.0) len))

pub returns-in-Some : goal.returns-in-Some
returns-in-Some c =
    let w = c.args.self.now.world in
    let i = c.in-Some.i in
    let len : c.len.result ≡ length w.servers = omega (arith, c.len.ensures, c.self.inside.servers.ok.0, ap (λ s. length s.world.servers) c.self.view_is) in
    let there = index_some w.servers c.args.server.0 i (c.in-Some.ensures ∙ ap (index_at c.args.server.0) len) in
    subst (λ o. OnOk c.server_take_at.result (c.server_take_at.new.self ≡ at_server w c.args.server c.args.input o)) (sym (numbered_there w.servers c.args.server.0 i (slice_get w.servers i) there refl))
    (server_some w c.args.server i c.args.input (slice_get w.servers i) c.server_take_at.result c.server_take_at.new.self there.low refl c.server_take_at.ensures)
