use Rattle.std.proofs.Common.{◌≡◌, ap, sym, subst, ◌∙◌, length, refl, arith}
use Rattle.std.specs.Prelude.{OnOk, slice_get}
use Rattle.st_rules.specs.Events.{tells_client, world_turn}
use Rattle.st_rules.specs.World.{numbered}
use Rattle.st_world_events.specs.Indexes.{index_at}
use Rattle.st_world_events.proofs.Dispatched.{tells_none, tells_some}
use Rattle.st_world_events.proofs.Numbers.{index_none, index_some, numbered_there}
use Rattle.st_world_events.proofs.turn.WorldTurn.tell_client.Goals as goal

pub returns-in-None : goal.returns-in-None
returns-in-None c =
    let w = c.args.self.now.world in
    let len : c.len.result ≡ length w.clients = omega (arith, c.len.ensures, c.self.inside.clients.ok.0, ap (λ s. length s.world.clients) c.self.view_is) in
    ap (λ xs. world_turn w xs) c.requires.begins
    ∙ tells_none w c.args.k c.args.ok c.args.command (numbered w.clients c.args.command.client.0) (index_none w.clients c.args.command.client.0 (c.in-None.ensures ∙ ap (index_at c.args.command.client.0) len))

pub returns-in-Some : goal.returns-in-Some
returns-in-Some c =
    let w = c.args.self.now.world in
    let i = c.in-Some.i in
    let len : c.len.result ≡ length w.clients = omega (arith, c.len.ensures, c.self.inside.clients.ok.0, ap (λ s. length s.world.clients) c.self.view_is) in
    let there = index_some w.clients c.args.command.client.0 i (c.in-Some.ensures ∙ ap (index_at c.args.command.client.0) len) in
    subst (λ o. OnOk c.report_to_client.result (c.report_to_client.new.self ≡ tells_client w c.args.k c.args.ok c.args.command o)) (sym (numbered_there w.clients c.args.command.client.0 i (slice_get w.clients i) there refl))
    (tells_some w c.args.k c.args.ok c.args.command i (slice_get w.clients i) c.report_to_client.result c.report_to_client.new.self there.low refl c.report_to_client.ensures)
