-- Reads return the last writes in every run, under what other laws owe at each of its steps.
use Rattle.std.specs.Prelude.{[], Option, Some, None}
use Rattle.st_messages.specs.declared.event.Event.{Event}
use Rattle.st_rules.specs.declared.client.ClientInput.{ClientInput}
use Rattle.st_rules.specs.declared.client.ClientInput.TheVariants as inputs
use Rattle.st_rules.specs.Events.{counted}
use Rattle.st_rules.specs.Safety.{Promise}
use Rattle.st_rules.specs.World.{World}
use Rattle.st_laws_reads.specs.Copies.World.{Taking, taken}
use Rattle.st_laws_reads.specs.AllClients.Obligations.{CutsAsked, LeftOf, OthersLeft}

-- of a client that receives a message or the end of a command; a tick and an ask owe nothing
abbrev pub InputOwed : Taking → ClientInput → Type 0
InputOwed x inputs.Tick = Unit {0}
InputOwed x (inputs.App op ask) = Unit {0}
InputOwed x input = LeftOf x

-- what is owed if a client takes an input, and at each other event
abbrev pub TakenOwed : World → Event → Option Taking → Type 0
TakenOwed w e None = OthersLeft w e
TakenOwed w e (Some x) = InputOwed x x.input

-- What is owed at a step: of what is taken or of the other event, and of the cuts.
abbrev pub IsOwed : Promise
IsOwed past x = record { taken : TakenOwed (counted x.before.world) x.event (taken (counted x.before.world) x.event); cuts : CutsAsked x }
