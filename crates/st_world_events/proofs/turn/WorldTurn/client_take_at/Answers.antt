use Rattle.std.proofs.Common.{◌≡◌, ◌<◌, ap, sym, ◌∙◌, length, arith, []}
use Rattle.std.specs.Prelude.{pred, set, slice_get, Some}
use Rattle.st_base.specs.declared.ids.NodeId.TheVariants as nodes
use Rattle.st_rules.specs.Client as client_rules
use Rattle.st_rules.specs.Events.{WorldTurn, at_node, client_says_all, client_takes, client_took, quiet, world_turn, with_flushes}
use Rattle.st_rules.specs.World.{WorldClient, World, clock_of}
use Rattle.st_world_events.proofs.CrashedLogs.{on_ok}
use Rattle.st_world_events.proofs.Takings.{get_set}
use Rattle.st_world_events.proofs.turn.WorldTurn.client_take_at.Goals as goal

pub client_said-requires-clause-there : goal.client_said-requires-clause-there
client_said-requires-clause-there c = omega (arith, c.in-Ok.ensures.len, ap (λ s. length s.world.clients) c.self.view_is, c.requires.there)

pub client_said-requires-clause-clients : goal.client_said-requires-clause-clients
client_said-requires-clause-clients c = omega (arith, c.in-Ok.ensures.len, ap (λ s. length s.world.clients) c.self.view_is, c.requires.clients)

pub returns-in-Ok : goal.returns-in-Ok
unfolding client_takes client_took
returns-in-Ok c = rw (← c.self.view_is) (λ site e.
    let w : World = record {
      config = c.self.inside.config;
      form = c.self.inside.form;
      clocks = c.self.inside.lives.clocks;
      drift = c.self.inside.drift;
      clients = c.self.inside.clients.items;
      servers = c.self.inside.servers.items;
      net = c.self.inside.net;
      disks = c.self.inside.commands.disks;
      commands = c.self.inside.commands.commands;
      log = c.self.inside.log;
      ended = c.self.inside.lives.ended;
      flushed = c.self.inside.flushed.items;
      tally = record { events = c.self.inside.events; reads = c.self.inside.reads; stolen = c.self.inside.stolen };
    } in
    let i = c.args.i in
    let took = c.in-Ok.ensures.exact site e in
    let now : WorldClient = at_node took.node site in
    let ends = c.ends_at-ends.ensures site (ap (λ xs. slice_get xs i) c.deref.ensures.value ∙ e) in
    let low : i < length c.self.inside.clients.items = omega (arith, ap (λ s. length s.world.clients) c.self.view_is, c.requires.there) in
    let there : slice_get c.step_site.new.clients.items i ≡ Some now = ap (λ xs. slice_get xs i) took.clients ∙ get_set c.self.inside.clients.items i now low in
    let begins : c.self.inside.seen.items ≡ [] = ap (λ s. s.seen) c.self.view_is ∙ c.requires.begins in
    let place : i ≡ pred c.args.client.0 = omega (arith, c.requires.number) in
    let clock : c.clock_of-now.result ≡ clock_of w (nodes.Client c.args.client) = c.clock_of-now.ensures ∙ ap (λ s. clock_of s.world (nodes.Client c.args.client)) (sym c.self.view_is) in
    on_ok c.client_said.result c.client_said.new.self _ _ (c.client_said.ensures site.node.state now ends there)
    (ap (λ (sc : WorldTurn). with_flushes c.args.client took.node.state (client_says_all c.args.client site.node.state c.in-Ok.outputs sc))
    ((λ j. world_turn (record w { clients = took.clients j }) (begins j)) ∙ ap (λ k. quiet (record w { clients = set w.clients k now })) place)
    ∙ sym (ap (client_took w c.args.client site) (ap (λ t. client_rules.node_step site.node t c.args.input.now) (sym clock) ∙ took.turn))))
