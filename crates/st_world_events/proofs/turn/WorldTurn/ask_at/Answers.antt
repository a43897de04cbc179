use Rattle.std.proofs.Common.{◌≡◌, ◌<◌, ◌+◌, ◌^◌, ap, ◌∙◌, length, arith}
use Rattle.std.specs.Prelude.{slice_get, Some}
use Rattle.st_world_parts.proofs.Later.{clock_low}
use Rattle.st_rules.specs.declared.client.ClientInput.TheVariants as inputs
use Rattle.st_rules.specs.Events.{asked_once_more, client_takes}
use Rattle.st_rules.specs.World.{WorldClient, World}
use Rattle.st_world_events.proofs.Asked.{takes_again}
use Rattle.st_world_events.proofs.CrashedLogs.{on_ok}
use Rattle.st_world_events.proofs.Takings.{get_set}
use Rattle.st_world_events.proofs.turn.WorldTurn.ask_at.Goals as goal

pub client_take_at-requires-clause-there : goal.client_take_at-requires-clause-there
client_take_at-requires-clause-there c = omega (arith, c.raise_asks-op.ensures.len, ap (λ s. length s.world.clients) c.self.view_is, c.requires.there)

pub client_take_at-requires-clause-clients : goal.client_take_at-requires-clause-clients
client_take_at-requires-clause-clients c = omega (arith, c.raise_asks-op.ensures.len, ap (λ s. length s.world.clients) c.self.view_is, c.requires.ready.clients)

pub client_take_at-requires-clause-time : goal.client_take_at-requires-clause-time
client_take_at-requires-clause-time c = rw (← c.self.view_is) at (clock_low c.args.client.0 (2 ^ 62) c.args.self.now.world.clocks c.requires.ready.clocks)

pub returns : goal.returns
returns c = rw (← c.self.view_is) (λ site e running.
    let w : World = record {
      config = c.self.inside.config;
      form = c.self.inside.form;
      clocks = c.self.inside.lives.clocks;
      drift = c.self.inside.drift;
      clients = c.self.inside.clients.items;
      servers = c.self.inside.servers.items;
      net = c.self.inside.net;
      disks = c.self.inside.commands.disks;
      commands = c.self.inside.commands.commands;
      log = c.self.inside.log;
      ended = c.self.inside.lives.ended;
      flushed = c.self.inside.flushed.items;
      tally = record { events = c.self.inside.events; reads = c.self.inside.reads; stolen = c.self.inside.stolen };
    } in
    let i = c.args.i in
    let asked : WorldClient = asked_once_more site in
    let clients = c.raise_asks-op.ensures.asked site e in
    let op = c.raise_asks-op.ensures.op site e in
    let low : i < length c.self.inside.clients.items = omega (arith, ap (λ s. length s.world.clients) c.self.view_is, c.requires.there) in
    let there : slice_get c.raise_asks-op.new.clients.items i ≡ Some asked = ap (λ xs. slice_get xs i) clients ∙ get_set c.self.inside.clients.items i asked low in
    on_ok c.client_take_at.result c.client_take_at.new.self _ _ (c.client_take_at.ensures asked there)
    ((λ j. client_takes (record w { clients = clients j }) c.args.client (inputs.App (op j) c.args.ask) asked)
    ∙ takes_again w c.args.client i (inputs.App (site.asks + 1) c.args.ask) asked c.requires.number running))
