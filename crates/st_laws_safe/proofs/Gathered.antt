-- The promises over every run, gathered from the crates that prove them.
use Rattle.st_promises.specs.Safe.{EveryRunIsSafe, IsAllPromised}
use Rattle.st_laws_leases.proofs.Sides.Kept.{most_promised}
use Rattle.st_laws_requests.proofs.Cuts.Law as cuts
use Rattle.st_laws_requests.proofs.Cuts.Names as named
use Rattle.st_laws_leases.proofs.Order.Grants.{order_law}
use Rattle.st_laws_extents.proofs.EveryRun.Law as whole
use Rattle.st_laws_lines.proofs.Faults.{faults_law}
use Rattle.st_laws_lines.proofs.Law.{counts_law}
use Rattle.st_laws_reports.proofs.Losses.{losses_law}
use Rattle.st_laws_cuts.proofs.Law as asked
use Rattle.st_laws_cuts.proofs.Acknowledged as acknowledged
use Rattle.st_laws_cuts.proofs.Changes as renamed
use Rattle.st_laws_grants.proofs.Law as grants
use Rattle.st_laws_names.proofs.OwnersLaw as changed
use Rattle.st_laws_names.proofs.Refusals as refused

pub every_run : EveryRunIsSafe
every_run k clients servers disks blocks form es head events =
    let most = most_promised.runs k clients servers disks blocks form es head events in
    record {
      alone = most.alone;
      reads = whole.reads k clients servers disks blocks form es head events;
      causes = most.causes;
      stays = most.stays;
      hard = most.hard;
      thefts = most.thefts;
      dates = most.dates;
      waits = most.waits;
      conflicts = most.conflicts;
      told = most.told;
      logged = cuts.runs_log_answers k clients servers disks blocks form es head events;
      once = most.once;
      locked = most.locked;
      order = order_law k clients servers disks blocks form es head events;
      emptied = most.emptied;
      history = most.history;
      losses = losses_law k clients servers disks blocks form es head;
      held = whole.held k clients servers disks blocks form es head events;
      faults = faults_law k clients servers disks blocks form es head;
      counts = counts_law k clients servers disks blocks form es head;
      cuts = asked.cuts_are_asked k clients servers disks blocks form es head events;
      given = grants.grant_numbers_are_given_once k clients servers disks blocks form es head events;
      rising = grants.rising k clients servers disks blocks form es head events;
      acknowledged = acknowledged.cuts_are_acknowledged k clients servers disks blocks form es head events;
      named = named.names_answer_truly k clients servers disks blocks form es head events;
      renamed = renamed.names_change_as_asked k clients servers disks blocks form es head events;
      changed = changed.names_change_once_in_every_run k clients servers disks blocks form es head events;
      refused = refused.refusals_change_nothing k clients servers disks blocks form es head events;
    }

pub all_promised : IsAllPromised
all_promised = record { runs = every_run; clients = most_promised.clients; servers = most_promised.servers }
