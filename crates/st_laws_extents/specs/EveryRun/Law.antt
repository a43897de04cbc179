-- What a map's reply tells, at each step.
use Rattle.st_rules.specs.Events.{counted}
use Rattle.st_rules.specs.Safety.{Promise}
use Rattle.st_laws_reads.specs.Copies.World.{taken}
use Rattle.st_laws_extents.specs.DiskReads.Law.{TakenMaps}

-- at a step a map's reply that is received tells of no block only if the server has none
abbrev pub MapsTellRight : Promise
MapsTellRight past x = TakenMaps (taken (counted x.before.world) x.event)
