-- Reads return the last writes in every run, and writes carry the content, under what is owed at its steps without the frozen lives.
use Rattle.std.specs.Prelude.{[], Option, Some, None}
use Rattle.st_rules.specs.Events.{counted}
use Rattle.st_rules.specs.Safety.{Promise}
use Rattle.st_laws_reads.specs.Copies.World.{Taking, taken}
use Rattle.st_laws_reads.specs.AllClients.Obligations.{CutsAsked}
use Rattle.st_laws_reads.specs.AllClients.Runs.{InputOwed}

-- of a client that takes an input; each other event owes nothing
abbrev pub TakenLeft : Option Taking → Type 0
TakenLeft None = Unit {0}
TakenLeft (Some x) = InputOwed x x.input

-- What is left at a step: of what is taken, and of the cuts.
abbrev pub IsLeft : Promise
IsLeft past x = record { taken : TakenLeft (taken (counted x.before.world) x.event); cuts : CutsAsked x }
