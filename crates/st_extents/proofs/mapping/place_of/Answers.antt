use Rattle.st_base.specs.declared.disk.BlockAt.{BlockAt}
use Rattle.st_extents.proofs.LaidPages.{searched}
use Rattle.st_extents.proofs.mapping.place_of.Goals as goal

abbrev nowhere : BlockAt
nowhere = record { disk = record { 0 = 0 }; block = 0 }

pub returns-clause-within : goal.returns-clause-within
returns-clause-within c =
    (searched c.args.own.now c.args.at c.requires.order c.requires.among c.first_from.result c.first_from.ensures.below c.first_from.ensures.above nowhere).0

pub returns-clause-at : goal.returns-clause-at
returns-clause-at c =
    λ d. (searched c.args.own.now c.args.at c.requires.order c.requires.among c.first_from.result c.first_from.ensures.below c.first_from.ensures.above d).1
