-- In which order a client sends the requests of cuts and of asks for names.
use Rattle.std.specs.Prelude.{◌≡◌, ◌⊎◌, ◌<◌, true, false, List, is_some, Some}
use Rattle.st_base.specs.declared.ids.ClientId.{ClientId}
use Rattle.st_messages.specs.declared.ask.Ask.{Ask}
use Rattle.st_rules.specs.declared.client.Operation.{Operation}
use Rattle.st_rules.specs.ClientState as client
use Rattle.st_rules.specs.ClientState.{is_sent}
use Rattle.st_rules.specs.Safety.{Promise}
use Rattle.st_rules.specs.World.{World, WorldClient, site_of}
use Rattle.st_lemmas.specs.Lists.{Has}
use Rattle.st_volume.specs.Volume.{file_of, is_sooner}

-- The earlier operation need not take effect before the ask. Else the ask means no file, and the operation was sent, or needs a file.
abbrev pub Fine : Operation → Ask → Type 0
Fine j ask = (is_sooner j.ask ask ≡ false) ⊎ (((file_of ask).ino ≡ 0) × ((is_sent j ≡ true) ⊎ (is_some (client.file_of j.ask) ≡ true)))

-- so for each earlier operation of these
abbrev pub Ordered : Operation → List Operation → Type 0
Ordered p os = (j : Operation) → Has j os → j.op < p.op → Fine j p.ask

-- for each one that was sent
abbrev pub AllOrdered : List Operation → Type 0
AllOrdered os = (p : Operation) → Has p os → is_sent p ≡ true → Ordered p os

-- of each client
abbrev pub SitesOrdered : World → Type 0
SitesOrdered w = (c : ClientId) (site : WorldClient) → site_of w c ≡ Some site → AllOrdered site.node.state.operations

-- Requests are in order: after every event, of each client.
abbrev pub RequestsAreInOrder : Promise
RequestsAreInOrder past x = SitesOrdered x.after.world
