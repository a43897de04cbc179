-- The promises that are proved over every run, gathered from the crates that prove them.
use Rattle.st_lemmas.proofs.Words
use Words.History.{traced}
use Words.World.{fresh_world}
use Rattle.st_laws_pages.proofs.Asks.Law.{once_law}
use Rattle.st_laws_pages.proofs.Causes.Law.{causes_law, hard_law}
use Rattle.st_laws_refine.proofs.Client.Hard as hard
use Rattle.st_laws_refine.proofs.Client.Old as old
use Rattle.st_laws_leases.proofs.Dates.Law as dates
use Rattle.st_laws_leases.proofs.History.Law as history
use Rattle.st_laws_pages.proofs.Losses.Halves.{whole_law}
use Rattle.st_laws_pages.proofs.Disks.Whole.{told_law}
use Rattle.st_laws_refine.proofs.Server.Old.{old_messages}
use Rattle.st_laws_leases.specs.Sides.KeptPromises.{EveryRunIsKept, IsMostPromised}
use Rattle.st_laws_leases.proofs.Sides.Runs.{changes_stay_locked, graces_wait_out, no_conflict_sent, pages_stand_alone, thefts_come_late}

every_run : EveryRunIsKept
every_run k clients servers disks blocks form es head events =
    record {
      alone = pages_stand_alone k clients servers disks blocks form es head events;
      causes = causes_law k clients servers disks blocks form es head;
      stays = hard.runs_keep_hard es (traced (fresh_world k clients servers disks blocks form));
      hard = hard_law k clients servers disks blocks form es head;
      thefts = thefts_come_late k clients servers disks blocks form es head events;
      dates = dates.leases_are_dated k clients servers disks blocks form es head events;
      waits = graces_wait_out k clients servers disks blocks form es head events;
      conflicts = no_conflict_sent k clients servers disks blocks form es head events;
      told = told_law k clients servers disks blocks form es;
      once = once_law k clients servers disks blocks form es head;
      locked = changes_stay_locked k clients servers disks blocks form es head events;
      emptied = whole_law k clients servers disks blocks form es head;
      history = history.histories_are_the_worlds k clients servers disks blocks form es head;
    }

pub most_promised : IsMostPromised
most_promised = record { runs = every_run; clients = old.old_messages_change_no_client; servers = old_messages }
