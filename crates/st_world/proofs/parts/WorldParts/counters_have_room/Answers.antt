use Rattle.st_lemmas.proofs.Words
use Words.{subst}
use Rattle.st_world.specs.ReachedWorlds.{IsReached}
use Rattle.st_world.proofs.Counters.{have_room}
use Rattle.st_world.proofs.parts.WorldParts.counters_have_room.Goals as goal

pub returns : goal.returns
returns c =
    have_room c.clients_count_few.ensures c.clients_stay_within.ensures c.servers_count_few.ensures c.locks_are_few.ensures c.reads_are_few.ensures c.thefts_are_few.ensures
    c.args.self.now (subst IsReached c.self.view_is c.self.invariant.0.reached) c.requires
