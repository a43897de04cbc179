use Rattle.std.proofs.Common.{◌≡◌, ap, sym, subst, ◌∙◌, length, refl, arith}
use Rattle.std.specs.Prelude.{OnOk, slice_get}
use Rattle.st_rules.specs.Events.{asks_at, world_turn}
use Rattle.st_rules.specs.World.{numbered, site_runs}
use Rattle.st_world_events.specs.Indexes.{index_at}
use Rattle.st_world_events.proofs.Dispatched.{asks_none, asks_some}
use Rattle.st_world_events.proofs.Numbers.{index_none, index_some, numbered_there}
use Rattle.st_world_events.proofs.turn.WorldTurn.ask.Goals as goal

pub returns-in-None : goal.returns-in-None
returns-in-None c =
    let w = c.args.self.now.world in
    let len : c.len.result ≡ length w.clients = omega (arith, c.len.ensures, c.self.inside.clients.ok.0, ap (λ s. length s.world.clients) c.self.view_is) in
    ap (λ xs. world_turn w xs) c.requires.begins
    ∙ asks_none w c.args.client c.args.ask (numbered w.clients c.args.client.0) (index_none w.clients c.args.client.0 (c.in-None.ensures ∙ ap (index_at c.args.client.0) len))

pub returns-in-Some : goal.returns-in-Some
returns-in-Some c =
    let w = c.args.self.now.world in
    let i = c.in-Some.i in
    let len : c.len.result ≡ length w.clients = omega (arith, c.len.ensures, c.self.inside.clients.ok.0, ap (λ s. length s.world.clients) c.self.view_is) in
    let there = index_some w.clients c.args.client.0 i (c.in-Some.ensures ∙ ap (index_at c.args.client.0) len) in
    let is = numbered_there w.clients c.args.client.0 i (slice_get w.clients i) there refl in
    subst (λ o. OnOk c.ask_at.result (c.ask_at.new.self ≡ asks_at w c.args.client c.args.ask o)) (sym is)
    (asks_some w c.args.client c.args.ask i (slice_get w.clients i) c.ask_at.result c.ask_at.new.self there.low refl (sym (ap site_runs is) ∙ c.requires.running) c.ask_at.ensures)
