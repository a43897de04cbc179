use Rattle.std.proofs.Common.{◌≡◌, ap, sym, ◌∙◌, ◌++◌, List, subst}
use Rattle.std.specs.Prelude.{map}
use Rattle.st_world_parts.specs.Commands.{Spares}
use Rattle.st_world_parts.specs.Clocks.{Lives}
use Rattle.st_model.specs.Walks.{without_crashed}
use Rattle.st_rules.specs.Events.{crashed_life, fates_from, world_turn, with_log}
use Rattle.st_rules.specs.World.{World, WorldClient, lives_of}
use Rattle.st_world_events.specs.Crashes.{with_all_ended}
use Rattle.st_world_events.proofs.CrashedLogs.{crashed_is, on_ok}
use Rattle.st_world_events.proofs.turn.WorldTurn.crash_at.Goals as goal

abbrev world_with : goal.After-drop-spared-2 → List WorldClient → Lives → World
world_with c clients lives = record {
  config = c.self.inside.config;
  form = c.self.inside.form;
  clocks = lives.clocks;
  drift = c.self.inside.drift;
  clients = clients;
  servers = c.self.inside.servers.items;
  net = c.self.inside.net;
  disks = c.self.inside.commands.disks;
  commands = c.self.inside.commands.commands;
  log = c.self.inside.log;
  ended = lives.ended;
  flushed = c.self.inside.flushed.items;
  tally = record { events = c.self.inside.events; reads = c.self.inside.reads; stolen = c.self.inside.stolen };
}

pub returns : goal.returns
returns c = rw (← c.self.view_is) (λ site e.
    let clients = c.in_ok-stop_site.ensures.clients site e in
    let ended : c.end_crashed.new.lives ≡ with_all_ended (map crashed_life (lives_of site.node.state)) c.self.inside.lives =
    c.in_ok-end_crashed.ensures
    ∙ ap (λ es. with_all_ended (map crashed_life es) c.self.inside.lives)
    (c.as_slice.ensures.value ∙ c.in_ok-stop_site.ensures.lives site e ∙ ap (λ l. l ++ lives_of site.node.state) c.new-ended.ensures.items) in
    let spared = c.as_slice-2.result.now in
    let now = world_with c c.self.inside.clients.items c.self.inside.lives in
    let spares : Spares spared (record { disks = now.disks; commands = now.commands }) =
    subst (λ l. Spares l (record { disks = now.disks; commands = now.commands })) (sym c.as_slice-2.ensures.value) c.in_ok-spared.ensures in
    on_ok c.crash_entries.result c.crash_entries.new.self _ _ c.crash_entries.ensures
    ((λ j. world_turn (with_log (without_crashed c.args.client spared now.log) (world_with c (clients j) (ended j))) (fates_from 1 now.log (without_crashed c.args.client spared now.log)))
    ∙ crashed_is now c.args.client c.args.i site spared spares))
