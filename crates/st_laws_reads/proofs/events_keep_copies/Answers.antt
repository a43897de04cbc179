use Rattle.st_laws_reads.proofs.Copies.World.{events_keep_copies}
use Rattle.st_laws_reads.proofs.Copies.Others.{entries_law, effects_law}
use Rattle.st_laws_reads.proofs.Copies.Restarts.{restarts_keep_copies as restarts_law}
use Rattle.st_laws_reads.proofs.Copies.Drops.{drops_keep_copies as drops_law}
use Rattle.st_laws_reads.proofs.Copies.Rests.{rests_law, clocks_law}
use Rattle.st_laws_reads.proofs.events_keep_copies.Goals as goal

pub returns-clause-own : goal.returns-clause-own
returns-clause-own c = events_keep_copies

pub returns-clause-entries : goal.returns-clause-entries
returns-clause-entries c = entries_law

pub returns-clause-effects : goal.returns-clause-effects
returns-clause-effects c = effects_law

pub returns-clause-restarts : goal.returns-clause-restarts
returns-clause-restarts c = restarts_law

pub returns-clause-drops : goal.returns-clause-drops
returns-clause-drops c = drops_law

pub returns-clause-rests : goal.returns-clause-rests
returns-clause-rests c = rests_law

pub returns-clause-clocks : goal.returns-clause-clocks
returns-clause-clocks c = clocks_law
