-- What the last step of the node of a handle told beside its frames.
use Rattle.std.specs.Prelude.{◌≡◌, ℕ, List, Option, Some, None, Ok}
use Rattle.st_embed.specs.Clients.{EmbeddedClient}
use Rattle.st_embed.specs.Servers.{EmbeddedServer}
use Rattle.st_embed.specs.Events.{events_in}
use Rattle.st_host_frames.specs.Results.{Puts}
use Rattle.st_embed.specs.declared.events.TankEvent.{TankEvent}
use Rattle.tank_c.specs.Codes as codes
use Rattle.tank_c.specs.FrameCalls.{Unwritten}

-- the events of a client's last step are written
abbrev pub ClientTells : Option EmbeddedClient → List TankEvent → List TankEvent → ℕ → Type 0
ClientTells None before after count = ⊥
ClientTells (Some c) before after count = Puts (Ok (events_in c.outputs)) before after count

-- why they aren't: there is no client; or lack of memory, or a buffer that is too short
abbrev pub NoClientEvents : Option EmbeddedClient → ℕ → ℕ → ℕ → Type 0
NoClientEvents None room code count = (code ≡ codes.ABSENT) × (count ≡ 0)
NoClientEvents (Some c) room code count = Unwritten (Ok (events_in c.outputs)) room code count

-- the same of a server
abbrev pub ServerTells : Option EmbeddedServer → List TankEvent → List TankEvent → ℕ → Type 0
ServerTells None before after count = ⊥
ServerTells (Some e) before after count = Puts (Ok (events_in e.outputs)) before after count

abbrev pub NoServerEvents : Option EmbeddedServer → ℕ → ℕ → ℕ → Type 0
NoServerEvents None room code count = (code ≡ codes.ABSENT) × (count ≡ 0)
NoServerEvents (Some e) room code count = Unwritten (Ok (events_in e.outputs)) room code count
