-- Reads return the last writes, and the pages hold, if clients know where pages lie, and what they submit goes there.
use Rattle.std.specs.Prelude.{[], Option, Some, None}
use Rattle.st_rules.specs.declared.client.ClientInput.{ClientInput}
use Rattle.st_rules.specs.declared.client.ClientInput.TheVariants as inputs
use Rattle.st_rules.specs.Events.{counted}
use Rattle.st_rules.specs.Safety.{Promise}
use Rattle.st_laws_reads.specs.Copies.World.{Taking, taken}
use Rattle.st_laws_reads.specs.AllClients.Obligations.{CutsAsked}
use Rattle.st_laws_extents.specs.Submits.Obligations.{PagesLeft}
use Rattle.st_laws_extents.specs.Submits.Rest.{MapsTold}
use Rattle.st_laws_extents.specs.DiskReads.Reads.{KnownRight, ReadsLie}

-- of an input: a message tells of no block only if the server has none
abbrev pub InputMaps : Taking → ClientInput → Type 0
InputMaps x (inputs.Control m) = MapsTold x m.header m.body
InputMaps x input = Unit {0}

-- of what is taken
abbrev pub TakenMaps : Option Taking → Type 0
TakenMaps None = Unit {0}
TakenMaps (Some x) = InputMaps x x.input

-- the reads that are submitted
abbrev pub TakenReads : Option Taking → Type 0
TakenReads None = Unit {0}
TakenReads (Some x) = ReadsLie x

-- What is owed at a step: of extents, as they are known, told and gone to; and of cuts.
abbrev pub IsPlaced : Promise
IsPlaced past x =
    record {
      known : KnownRight x.before.world;
      maps : TakenMaps (taken (counted x.before.world) x.event);
      reads : TakenReads (taken (counted x.before.world) x.event);
      cuts : CutsAsked x;
      pages : PagesLeft past x;
    }
