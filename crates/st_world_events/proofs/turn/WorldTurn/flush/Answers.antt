use Rattle.std.proofs.Common.{◌≡◌, ap, sym, ◌∙◌, length, arith}
use Rattle.std.specs.Prelude.{map}
use Rattle.std.proofs.lemmas.Option.{get_or_from_slice_get}
use Rattle.st_base.specs.declared.ids.NodeId.TheVariants as nodes
use Rattle.st_rules.specs.Events.{world_turn}
use Rattle.st_rules.specs.Extents.{numbers}
use Rattle.st_rules.specs.World.{World, all_servers, clock_of, server}
use Rattle.st_world_events.specs.FlushSteps.{flush_each}
use Rattle.st_world_events.proofs.Flushed.{flushes_is}
use Rattle.st_world_events.proofs.turn.WorldTurn.flush.Goals as goal

pub returns : goal.returns
returns c = rw (← c.self.view_is) (λ site e.
    let w : World = record {
      config = c.self.inside.config;
      form = c.self.inside.form;
      clocks = c.self.inside.lives.clocks;
      drift = c.self.inside.drift;
      clients = c.self.inside.clients.items;
      servers = c.self.inside.servers.items;
      net = c.self.inside.net;
      disks = c.self.inside.commands.disks;
      commands = c.self.inside.commands.commands;
      log = c.self.inside.log;
      ended = c.self.inside.lives.ended;
      flushed = c.self.inside.flushed.items;
      tally = record { events = c.self.inside.events; reads = c.self.inside.reads; stolen = c.self.inside.stolen };
    } in
    let found : c.index-site.result.now ≡ site = c.index-site.ensures ∙ get_or_from_slice_get c.self.inside.clients.items c.args.i site c.index-site.result.now e in
    let node : c.site.inside.node ≡ site.node = ap (λ s. s.node) (c.site.view_is ∙ found) in
    let clock : c.clock_of-now.result ≡ clock_of w (nodes.Client c.args.client) = c.clock_of-now.ensures ∙ ap (λ s. clock_of s.world (nodes.Client c.args.client)) (sym c.self.view_is) in
    let len : c.len-servers.result ≡ length c.self.inside.servers.items = omega (arith, c.len-servers.ensures, c.self.inside.servers.ok.0) in
    let path = c.in_ok-flush_all.ensures ∙ (λ j. flush_each c.args.client (node j).state (clock j) (map server (numbers 1 (len j))) c.self.inside.flushed.items) in
    (λ j. world_turn (record w { flushed = path j }) c.self.inside.seen.items)
    ∙ ap (λ x. world_turn x c.self.inside.seen.items) (flushes_is c.args.client site.node.state (all_servers w) w))
